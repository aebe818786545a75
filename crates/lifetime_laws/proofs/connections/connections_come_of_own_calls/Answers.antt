use Rattle.lifetime_laws.proofs.Connecting.StepLemmas.{every_moment_connects, every_run_connects}
use Rattle.lifetime_laws.proofs.connections.connections_come_of_own_calls.Goals as goal

-- src/connections.rt
pub returns-clause-moments : goal.returns-clause-moments
returns-clause-moments c = every_moment_connects

pub returns-clause-runs : goal.returns-clause-runs
returns-clause-runs c = every_run_connects
