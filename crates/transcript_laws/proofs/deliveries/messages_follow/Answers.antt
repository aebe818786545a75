use Rattle.transcript_laws.proofs.Following.StepLemmas.{history_leads, run_leads}
use Rattle.transcript_laws.proofs.deliveries.messages_follow.Goals as goal

-- src/deliveries.rt
pub returns-clause-runs : goal.returns-clause-runs
returns-clause-runs c = run_leads

pub returns-clause-histories : goal.returns-clause-histories
returns-clause-histories c = history_leads
