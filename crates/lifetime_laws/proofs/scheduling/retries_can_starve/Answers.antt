use Rattle.lifetime_laws.proofs.Fairness.PassingLemmas.{retries_count, retries_starve}
use Rattle.lifetime_laws.proofs.scheduling.retries_can_starve.Goals as goal

-- src/scheduling.rt
pub returns-clause-others : goal.returns-clause-others
returns-clause-others c = λ n limit m who other passed within. retries_starve who other n limit m passed within

pub returns-clause-steps : goal.returns-clause-steps
returns-clause-steps c = λ n limit m who other passed within. retries_count who other n limit m passed within
