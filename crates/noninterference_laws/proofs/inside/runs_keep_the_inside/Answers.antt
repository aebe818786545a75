use Rattle.noninterference_laws.proofs.Running.HistoryLemmas.{histories_keep}
use Rattle.noninterference_laws.proofs.Running.RunLemmas.{runs_keep}
use Rattle.noninterference_laws.proofs.inside.runs_keep_the_inside.Goals as goal

-- src/inside.rt
pub returns-clause-runs : goal.returns-clause-runs
returns-clause-runs c = runs_keep

pub returns-clause-histories : goal.returns-clause-histories
returns-clause-histories c = histories_keep
