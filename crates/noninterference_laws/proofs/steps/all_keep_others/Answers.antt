use Rattle.noninterference_laws.proofs.HistoryLemmas.{histories_keep}
use Rattle.noninterference_laws.proofs.StepLemmas.{all_keep}
use Rattle.noninterference_laws.proofs.steps.all_keep_others.Goals as goal

-- src/steps.rt
pub returns-clause-causes : goal.returns-clause-causes
returns-clause-causes c = all_keep

-- src/steps.rt
pub returns-clause-histories : goal.returns-clause-histories
returns-clause-histories c = histories_keep
