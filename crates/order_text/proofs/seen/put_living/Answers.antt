use Rattle.std.proofs.Common.{◌≡◌, ◌++◌, ◌∙◌, List, OnOk, ap, refl, subst, ℕ}
use Rattle.std.specs.List.{join_by}
use Rattle.std.specs.Prelude.{codes}
use Rattle.order_model.specs.Endings.{thread_seen}
use Rattle.snapshot_rows.specs.Machines.{machine_of}
use Rattle.xk_base.specs.declared.ids.ThreadId.{ThreadId}
use Rattle.order_text.specs.Texts.{thread_seen_text}
use Rattle.order_text.proofs.AboutLemmas.{threads_told}
use Rattle.order_text.proofs.TextLemmas.{two_pieces}
use Rattle.order_text.proofs.seen.put_living.Goals as goal

pub returns : goal.returns
returns c file =
    let old = c.args.text.now.items in
    let m = machine_of file c.args.state.now in
    let threads = λ (ids : List ThreadId). join_by (λ who. thread_seen_text c.args.named (thread_seen m who)) (codes ", ") ids in
    subst (λ (xs : List ℕ). OnOk c.put_threads.result (c.put_threads.new.text.items ≡ xs))
    (ap (λ (xs : List ThreadId). c.put.new.text.items ++ threads xs) c.deref.ensures.value
    ∙ (two_pieces old (codes " waits: ") (threads c.in_ok-ids.ids.items) c.put.new.text.items _ c.in_ok-put.ensures refl
    ∙ ap (λ (xs : List ℕ). old ++ (codes " waits: " ++ xs))
    (threads_told c.args.named m c.args.pid c.in_ok-ids.ids.items (c.in_ok-ids.ensures file))))
    (c.put_threads.ensures file)
