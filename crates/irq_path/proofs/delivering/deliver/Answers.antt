use Rattle.std.proofs.Common.{Some, None, ap, is_some, sym, ◌∙◌}
use Rattle.machine_model.specs.State.Machine.{Machine}
use Rattle.thread_table.specs.Shown.{threads_of}
use Rattle.xk_base.specs.Tables.Circle.{same_thread}
use Rattle.xk_base.specs.Tables.Counting.{put_at}
use Rattle.xk_parts.specs.Parts.{bare_machine}
use Rattle.irq_path.specs.Delivering.{taken}
use Rattle.irq_path.proofs.DeliveryLemmas.{busy, handler_starts, none_due}
use Rattle.irq_path.proofs.ThreadLemmas.{free_is_there}
use Rattle.irq_path.proofs.delivering.deliver.Goals as goal

pub returns-then-not-is_free_for_interrupt-clause-delivers : goal.returns-then-not-is_free_for_interrupt-clause-delivers
returns-then-not-is_free_for_interrupt-clause-delivers c parts m =
    busy (taken c.args.threads.now c.args.claims.now c.args.log.now) c.args.pid parts m
    (sym (c.is_free_for_interrupt.ensures m) ∙ c.if-not-is_free_for_interrupt.true)

pub returns-in_default-clause-delivers : goal.returns-in_default-clause-delivers
returns-in_default-clause-delivers c parts m =
    none_due (taken c.args.threads.now c.args.claims.now c.args.log.now) c.args.pid parts m
    (sym (c.is_free_for_interrupt.ensures m) ∙ c.if-not-is_free_for_interrupt.false)
    c.take_lowest.new.self c.take_lowest.ensures.after (sym c.take_lowest.ensures.answer ∙ c.in_default.is)

pub set-requires : goal.set-requires
set-requires c =
    let m : Machine = bare_machine (record { processes = 0; steps = 0; cursor = c.handler_id.result; next_number = 0; compare = None; reserved = None }) in
    ap (λ id. is_some (threads_of c.args.threads.now id)) c.handler_id.ensures
    ∙ free_is_there c.args.threads.now c.args.pid m (sym (c.is_free_for_interrupt.ensures m) ∙ c.if-not-is_free_for_interrupt.false)

pub returns-clause-delivers : goal.returns-clause-delivers
returns-clause-delivers c parts m =
    handler_starts (taken c.args.threads.now c.args.claims.now c.args.log.now) c.args.pid parts m
    (sym (c.is_free_for_interrupt.ensures m) ∙ c.if-not-is_free_for_interrupt.false)
    c.take_lowest.new.self c.take_lowest.ensures.after c.in-Some.due (sym c.take_lowest.ensures.answer ∙ c.in-Some.is) c.set.new.self c.handler_thread.result c.push.new.self
    (c.set.ensures.after ∙ ap (λ id. put_at same_thread (threads_of c.args.threads.now) id (Some c.handler_thread.result)) c.handler_id.ensures)
    c.handler_thread.ensures c.push.ensures
