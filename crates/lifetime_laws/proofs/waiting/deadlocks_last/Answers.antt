use Rattle.lifetime_laws.proofs.Deadlocks.RunLemmas.{deadlock_stays, deadlocks_last}
use Rattle.lifetime_laws.proofs.waiting.deadlocks_last.Goals as goal

-- src/waiting.rt
pub returns-clause-moments : goal.returns-clause-moments
returns-clause-moments c = deadlock_stays

pub returns-clause-runs : goal.returns-clause-runs
returns-clause-runs c = deadlocks_last
