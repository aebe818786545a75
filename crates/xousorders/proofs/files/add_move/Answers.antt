use Rattle.std.proofs.Common.{◌∙◌, sym}
use Rattle.xousorders.proofs.FileLemmas.{asked_further, none_moved}
use Rattle.xousorders.proofs.files.add_move.Goals as goal

pub returns-in-None-clause-events : goal.returns-in-None-clause-events
returns-in-None-clause-events c asked same =
    none_moved asked c.args.once.now c.in-Once.number c.args.next c.args.events.now.items same c.in-Once.is (sym c.event_at.ensures ∙ c.in-None.is)

pub returns-in_ok-push-in-Some-clause-askable : goal.returns-in_ok-push-in-Some-clause-askable
returns-in_ok-push-in-Some-clause-askable c once old =
    asked_further c.args.once.now c.in-Once.number c.in-Some.event _ _ once (sym c.event_at.ensures ∙ c.in-Some.is) c.in_ok-push-in-Some.ensures.items old
