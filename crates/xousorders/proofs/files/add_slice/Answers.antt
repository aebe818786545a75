use Rattle.xousorders.proofs.FileLemmas.{two_asked}
use Rattle.xousorders.proofs.files.add_slice.Goals as goal

pub returns-clause-askable : goal.returns-clause-askable
returns-clause-askable c old =
    two_asked _ _ _ _ _ c.in_ok-push.ensures.items c.in_ok-push-2.ensures.items old c.pick.ensures.askable c.tick.ensures.askable
