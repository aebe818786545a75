use Rattle.transcript_laws.proofs.Answering.StepSayLemmas.{history_is_answered, run_is_answered}
use Rattle.transcript_laws.proofs.answered.calls_are_answered_once.Goals as goal

-- src/answered.rt
pub returns-clause-runs : goal.returns-clause-runs
returns-clause-runs c = run_is_answered

pub returns-clause-histories : goal.returns-clause-histories
returns-clause-histories c = history_is_answered
