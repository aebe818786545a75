use Rattle.std.proofs.Common.{refl, subst}
use Rattle.order_search.specs.Faults.{IsRunFault}
use Rattle.xousorders.proofs.outcome.stopped.Goals as goal

pub returns-in-Steps : goal.returns-in-Steps
returns-in-Steps c s why = (refl, subst (IsRunFault s) c.in-Steps.is why)

pub returns-in-Timer : goal.returns-in-Timer
returns-in-Timer c s why = absurd (subst (IsRunFault s) c.in-Timer.is why)

pub returns-in-Line : goal.returns-in-Line
returns-in-Line c s why = subst (IsRunFault s) c.in-Line.is why
