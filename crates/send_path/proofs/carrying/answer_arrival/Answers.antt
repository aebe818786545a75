use Rattle.std.proofs.Common.{◌≡◌, true, false, [], ◌∷◌, sym, ap, subst, ◌∙◌}
use Rattle.std.specs.Prelude.{IfSome}
use Rattle.xk_base.specs.Tables.Circle.{is_thread_id, same_thread}
use Rattle.machine_model.specs.Messaging.ReturnCalls.{sender_gets as thread_gets}
use Rattle.machine_model.specs.Messaging.SendCalls.{sender_answered}
use Rattle.machine_model.specs.State.Changes.{replies}
use Rattle.machine_model.specs.State.Threads.{answer_to, both_answers}
use Rattle.thread_table.specs.Shown.{process_count}
use Rattle.syscall_codec.specs.ReplyWords.{plain_words}
use Rattle.xk_base.specs.declared.records.What.TheVariants.{Reply}
use Rattle.send_path.specs.Rows.{log_with}
use Rattle.send_path.proofs.Sends.ArriveLemmas.{none_told}
use Rattle.send_path.proofs.Rows.ReplyLemmas.{both_with_none, no_reply, one_reply}
use Rattle.send_path.proofs.carrying.answer_arrival.Goals as goal

pub returns-in-Some-clause-log : goal.returns-in-Some-clause-log
returns-in-Some-clause-log c =
    c.answer_and_tell.ensures.log
    ∙ ap (λ told. log_with told c.args.log.now)
    (sym ((λ i. replies (process_count c.args.threads.now) (both_answers (thread_gets c.args.words (c.in-Some.is i)) (sender_answered (c.if-waits.true i) c.args.who)))
    ∙ ap (replies (process_count c.args.threads.now)) (both_with_none (answer_to c.in-Some.id c.args.words))
    ∙ one_reply (process_count c.args.threads.now) c.in-Some.id c.args.words
    (subst (λ o. IfSome o (λ id. (is_thread_id (process_count c.args.threads.now) id ≡ true) × (same_thread id c.args.who ≡ false))) c.in-Some.is c.requires.receiver).0))

pub returns-in-None-clause-log : goal.returns-in-None-clause-log
returns-in-None-clause-log c =
    none_told c.args.log.now
    ∙ ap (λ told. log_with told c.args.log.now)
    (sym ((λ i. replies (process_count c.args.threads.now) (both_answers (thread_gets c.args.words (c.in-None.is i)) (sender_answered (c.if-waits-2.true i) c.args.who)))
    ∙ no_reply (process_count c.args.threads.now)))

pub returns-in-None-2-clause-log : goal.returns-in-None-2-clause-log
returns-in-None-2-clause-log c =
    c.answer_and_tell-in-None-2.ensures.log
    ∙ ap (λ words. log_with (Reply c.args.who words ∷ []) c.args.log.now) c.reply_words-plain.ensures
    ∙ ap (λ told. log_with told c.args.log.now)
    (sym ((λ i. replies (process_count c.args.threads.now) (both_answers (thread_gets c.args.words (c.in-None-2.is i)) (sender_answered (c.if-waits-2.false i) c.args.who)))
    ∙ one_reply (process_count c.args.threads.now) c.args.who plain_words c.requires.who))
