use Rattle.machine_laws.proofs.Stepping.EveryStepLemmas.{every_run_keeps}
use Rattle.machine_model.proofs.State.StartLemmas.{start_matched}
use Rattle.machine_laws.proofs.Histories.MomentLemmas.{history_matched, moments_matched}
use Rattle.laws.proofs.every_state_stays_matched.Goals as goal

-- src/lib.rt
pub returns-clause-start : goal.returns-clause-start
returns-clause-start c = start_matched

pub returns-clause-runs : goal.returns-clause-runs
returns-clause-runs c = every_run_keeps

pub returns-clause-histories : goal.returns-clause-histories
returns-clause-histories c = moments_matched

pub returns-clause-last : goal.returns-clause-last
returns-clause-last c = history_matched
