use Rattle.std.proofs.Common.{◌∙◌, ◌++◌, Err, ap, sym}
use Rattle.std.specs.Option.{option_to_list}
use Rattle.order_words.specs.Values.{event_at}
use Rattle.order_words.proofs.AnswerLemmas.{exit_answers}
use Rattle.order_words.proofs.SaidLemmas.{no_event, told_more}
use Rattle.order_words.proofs.asked.events_of.Goals as goal

pub loop-argument-preserved : goal.loop-argument-preserved
loop-argument-preserved c =
    c.in_ok-add_event.ensures.added
    ∙ ((λ i. c.loop-argument.invariant i ++ option_to_list (c.event_at.ensures i))
    ∙ sym (told_more event_at c.args.arguments.now c.loop-argument.argument-index _ c.loop-argument-test.true))

pub returns-in_err-add_event : goal.returns-in_err-add_event
returns-in_err-add_event c =
    exit_answers _ _ c.from_residual.result _ c.from_residual.ensures.1 (λ is.
    no_event c.args.arguments.now c.loop-argument.argument-index _ c.loop-argument-test.true
    (sym c.event_at.ensures ∙ c.in_err-add_event.ensures.faulty (ap Err is)))
