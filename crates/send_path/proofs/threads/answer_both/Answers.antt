use Rattle.std.proofs.Common.{sym, ap, ◌∙◌}
use Rattle.machine_model.specs.State.Threads.{answer_to}
use Rattle.thread_table.specs.Shown.{process_count}
use Rattle.xk_base.specs.declared.records.What.TheVariants.{Reply}
use Rattle.xk_parts.specs.Shown.{threads_shown}
use Rattle.send_path.specs.Rows.{log_with}
use Rattle.xk_parts.specs.Threads.{answered}
use Rattle.send_path.proofs.Rows.ReplyLemmas.{both_given, both_told, both_told_back, pushed_two}
use Rattle.send_path.proofs.threads.answer_both.Goals as goal

pub returns-then-is_before-clause-after : goal.returns-then-is_before-clause-after
returns-then-is_before-clause-after c =
    c.answer-2.ensures.after ∙ ap (answered (answer_to c.args.other c.args.other_words)) c.answer.ensures.after
    ∙ both_given c.args.one c.args.other c.args.one_words c.args.other_words c.requires.apart (threads_shown c.args.threads.now)

pub returns-then-is_before-clause-log : goal.returns-then-is_before-clause-log
returns-then-is_before-clause-log c =
    pushed_two c.args.log.now c.push.new.self c.push-then-is_before.new.self (Reply c.args.one c.args.one_words) (Reply c.args.other c.args.other_words)
    c.push.ensures c.push-then-is_before.ensures
    ∙ ap (λ told. log_with told c.args.log.now)
    (sym (both_told c.args.one c.args.other c.args.one_words c.args.other_words c.requires.apart (process_count c.args.threads.now) c.requires.one
    c.requires.other (sym c.is_before.ensures ∙ c.if-is_before.true)))

pub returns-else-is_before-clause-after : goal.returns-else-is_before-clause-after
returns-else-is_before-clause-after c =
    c.answer-2.ensures.after ∙ ap (answered (answer_to c.args.other c.args.other_words)) c.answer.ensures.after
    ∙ both_given c.args.one c.args.other c.args.one_words c.args.other_words c.requires.apart (threads_shown c.args.threads.now)

pub returns-else-is_before-clause-log : goal.returns-else-is_before-clause-log
returns-else-is_before-clause-log c =
    pushed_two c.args.log.now c.push-else-is_before.new.self c.push-else-is_before-2.new.self (Reply c.args.other c.args.other_words)
    (Reply c.args.one c.args.one_words) c.push-else-is_before.ensures c.push-else-is_before-2.ensures
    ∙ ap (λ told. log_with told c.args.log.now)
    (sym (both_told_back c.args.one c.args.other c.args.one_words c.args.other_words c.requires.apart (process_count c.args.threads.now) c.requires.one
    c.requires.other (sym c.is_before.ensures ∙ c.if-is_before.false)))
