use Rattle.std.proofs.Common.{◌≡◌, ℕ, List}
use Rattle.std.specs.Prelude.{map}
use Rattle.order_model.specs.Endings.{is_busy_of}
use Rattle.snapshot_rows.specs.Machines.{machine_of}
use Rattle.xk_base.specs.Tables.Circle.{id_at}
use Rattle.xk_base.specs.Tables.Counting.{listed_below}
use Rattle.order_text.proofs.threads.busy_ids.Given as goal

-- those at the places before
abbrev pub invariant-loop-place : goal.invariant-loop-place
invariant-loop-place l =
    (file : List ℕ) → l.ids.items ≡ map id_at (listed_below l.place (λ k. is_busy_of (machine_of file l.state) l.pid (id_at k)))
