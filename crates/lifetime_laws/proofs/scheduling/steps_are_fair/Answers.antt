use Rattle.lifetime_laws.proofs.Fairness.SchedulingLemmas.{steps_are_fair}
use Rattle.lifetime_laws.proofs.scheduling.steps_are_fair.Goals as goal

-- src/scheduling.rt
pub returns : goal.returns
returns c = steps_are_fair
