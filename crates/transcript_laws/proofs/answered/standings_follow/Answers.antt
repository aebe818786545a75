use Rattle.transcript_laws.proofs.Answering.StepSayLemmas.{history_leads_on, run_leads}
use Rattle.transcript_laws.proofs.answered.standings_follow.Goals as goal

-- src/answered.rt
pub returns-clause-runs : goal.returns-clause-runs
returns-clause-runs c = run_leads

pub returns-clause-histories : goal.returns-clause-histories
returns-clause-histories c = history_leads_on
