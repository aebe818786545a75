use Rattle.lifetime_laws.proofs.Lives.PlantedLemmas.{doubling_refused, forgetting_refused, losing_refused, misplacing_refused}
use Rattle.lifetime_laws.proofs.pages.wrong_kernels_are_refused.Goals as goal

-- src/pages.rt
pub returns-clause-doubling : goal.returns-clause-doubling
returns-clause-doubling c = doubling_refused

pub returns-clause-forgetting : goal.returns-clause-forgetting
returns-clause-forgetting c = forgetting_refused

pub returns-clause-losing : goal.returns-clause-losing
returns-clause-losing c = losing_refused

pub returns-clause-misplacing : goal.returns-clause-misplacing
returns-clause-misplacing c = misplacing_refused
