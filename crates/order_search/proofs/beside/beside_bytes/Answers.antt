use Rattle.std.proofs.Common.{◌++◌, ◌∙◌, ℕ, List, ap, append_assoc}
use Rattle.std.specs.Int.{to_le_bytes, w32}
use Rattle.std.specs.Prelude.{map}
use Rattle.order_model.specs.Exits.{exit_in}
use Rattle.order_search.specs.Keys.{came_byte, exits_bytes}
use Rattle.order_search.proofs.beside.beside_bytes.Goals as goal

pub returns-clause-bytes : goal.returns-clause-bytes
returns-clause-bytes c =
    let came = c.in_ok-bytes.ensures ∙ ap (map came_byte) c.deref-2.ensures.value in
    c.in_ok-push_exits.ensures
    ∙ (ap (λ (bytes : List ℕ). bytes ++ exits_bytes (exit_in c.deref-3.result.now)) c.in_ok-extend_from_slice.ensures.items
    ∙ ((λ i. (came i ++ c.to_le_bytes.ensures i) ++ exits_bytes (exit_in (c.deref-3.ensures.value i)))
    ∙ append_assoc (map came_byte c.args.trail.now.came.items) (to_le_bytes w32 c.args.trail.now.preempted)
    (exits_bytes (exit_in c.args.trail.now.ends.items))))
