use Rattle.lifetime_laws.proofs.Apart.RunLemmas.{others_leave_it, runs_leave_it}
use Rattle.lifetime_laws.proofs.untouched.processes_apart_are_untouched.Goals as goal

-- src/untouched.rt
pub returns-clause-moments : goal.returns-clause-moments
returns-clause-moments c = others_leave_it

pub returns-clause-runs : goal.returns-clause-runs
returns-clause-runs c = runs_leave_it
