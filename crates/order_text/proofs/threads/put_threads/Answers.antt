use Rattle.std.proofs.Common.{◌++◌, ◌∙◌, List, ap, sym}
use Rattle.std.specs.List.{flat_map, join_by}
use Rattle.std.specs.Prelude.{codes}
use Rattle.std.proofs.lemmas.List.{take_all}
use Rattle.order_model.specs.Endings.{thread_seen}
use Rattle.snapshot_rows.specs.Machines.{machine_of}
use Rattle.xk_base.specs.declared.ids.ThreadId.{ThreadId}
use Rattle.order_text.specs.Texts.{thread_seen_text}
use Rattle.order_text.proofs.TextLemmas.{next_item, two_pieces}
use Rattle.order_text.proofs.threads.put_threads.Goals as goal

pub loop-who-preserved : goal.loop-who-preserved
loop-who-preserved c file =
    let f = λ (who : ThreadId). thread_seen_text c.args.named (thread_seen (machine_of file c.args.state.now) who) in
    let who : ThreadId = record { pid = record { 0 = 0 }; tid = record { 0 = 0 } } in
    next_item (λ (who : ThreadId). codes ", " ++ f who) c.put_seen_thread.new.text.items c.loop-who.text.items
    c.put_seen_thread-in-loop-who.new.text.items c.in-Some.others.now c.loop-who.who-index who c.loop-who-test.true
    (c.loop-who.invariant file)
    (two_pieces c.loop-who.text.items (codes ", ") _ c.put.new.text.items c.put_seen_thread-in-loop-who.new.text.items c.in_ok-put.ensures
    (c.in_ok-put_seen_thread-2.ensures file))

pub returns : goal.returns
returns c file =
    let f = λ (who : ThreadId). thread_seen_text c.args.named (thread_seen (machine_of file c.args.state.now) who) in
    let more = λ (xs : List ThreadId). flat_map (λ who. codes ", " ++ f who) xs in
    two_pieces c.args.text.now.items (f c.in-Some.first.now) (more c.in-Some.others.now) c.put_seen_thread.new.text.items c.loop-who.text.items
    (c.in_ok-put_seen_thread.ensures file)
    (c.loop-who.invariant file
    ∙ ap (λ (xs : List ThreadId). c.put_seen_thread.new.text.items ++ more xs)
    (take_all c.loop-who.who-index c.in-Some.others.now c.loop-who-test.false))
    ∙ ap (λ (xs : List ThreadId). c.args.text.now.items ++ join_by f (codes ", ") xs) (sym c.in-Some.ensures.cases.0)
