use Rattle.std.proofs.Common.{[], ◌∷◌, sym, ap, ◌∙◌}
use Rattle.machine_model.specs.Messaging.ReturnCalls.{sender_gets}
use Rattle.machine_model.specs.State.Changes.{replies}
use Rattle.machine_model.specs.State.Threads.{answer_to, both_answers, passed}
use Rattle.thread_table.specs.Shown.{process_count}
use Rattle.syscall_codec.specs.ReplyWords.{plain_words}
use Rattle.xk_base.specs.declared.records.What.TheVariants.{Reply}
use Rattle.xk_parts.specs.Shown.{threads_shown}
use Rattle.send_path.specs.Rows.{log_with}
use Rattle.xk_parts.specs.Threads.{answered, changed_thread}
use Rattle.send_path.proofs.Rows.ReplyLemmas.{both_with_none, one_reply}
use Rattle.send_path.proofs.threads.answer_with_sender.Goals as goal

pub returns-in-None-clause-after : goal.returns-in-None-clause-after
returns-in-None-clause-after c =
    c.answer_caller.ensures.after
    ∙ ap (λ words. answered (answer_to c.args.who words) (changed_thread c.args.who passed (threads_shown c.args.threads.now))) c.reply_words-plain.ensures
    ∙ ap (λ answers. answered answers (changed_thread c.args.who passed (threads_shown c.args.threads.now)))
    (sym (ap (λ o. both_answers (answer_to c.args.who plain_words) (sender_gets c.args.words o)) c.in-None.is ∙ both_with_none (answer_to c.args.who plain_words)))

pub returns-in-None-clause-log : goal.returns-in-None-clause-log
returns-in-None-clause-log c =
    c.answer_caller.ensures.log
    ∙ ap (λ words. log_with (Reply c.args.who words ∷ []) c.args.log.now) c.reply_words-plain.ensures
    ∙ ap (λ told. log_with told c.args.log.now)
    (sym (ap (λ o. replies (process_count c.args.threads.now) (both_answers (answer_to c.args.who plain_words) (sender_gets c.args.words o))) c.in-None.is
    ∙ ap (replies (process_count c.args.threads.now)) (both_with_none (answer_to c.args.who plain_words))
    ∙ one_reply (process_count c.args.threads.now) c.args.who plain_words c.requires.who))
