use Rattle.transcript_laws.proofs.Ordering.StepNumberLemmas.{history_never_falls, run_never_falls}
use Rattle.transcript_laws.proofs.record_order.steps_never_fall.Goals as goal

-- src/record_order.rt
pub returns-clause-runs : goal.returns-clause-runs
returns-clause-runs c = run_never_falls

pub returns-clause-histories : goal.returns-clause-histories
returns-clause-histories c = history_never_falls
