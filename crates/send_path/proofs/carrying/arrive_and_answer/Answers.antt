use Rattle.std.proofs.Common.{◌≡◌, true, false, sym, ap, subst, ◌∙◌}
use Rattle.std.specs.Prelude.{IfSome}
use Rattle.xk_base.specs.Tables.Circle.{is_thread_id, same_thread}
use Rattle.send_path.proofs.Sends.ArriveLemmas.{receiver_fits}
use Rattle.xk_parts.proofs.ThreadLemmas.{ready_id}
use Rattle.send_path.proofs.carrying.arrive_and_answer.Goals as goal

pub answer_arrival-requires-clause-who : goal.answer_arrival-requires-clause-who
answer_arrival-requires-clause-who c =
    ap (λ n. is_thread_id n c.args.who) c.leave.ensures.count ∙ ready_id c.args.threads.now c.args.who c.requires.ready

pub answer_arrival-requires-clause-receiver : goal.answer_arrival-requires-clause-receiver
answer_arrival-requires-clause-receiver c =
    subst (λ n. IfSome c.receiver_in-receiver.result (λ id. (is_thread_id n id ≡ true) × (same_thread id c.args.who ≡ false))) (sym c.leave.ensures.count)
    (receiver_fits c.args.threads.now c.args.who c.requires.ready c.args.to.serial c.receiver_in-receiver.result (sym c.receiver_in-receiver.ensures))
