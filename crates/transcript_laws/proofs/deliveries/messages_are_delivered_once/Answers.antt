use Rattle.transcript_laws.proofs.Following.CountLemmas.{history_delivers, run_delivers}
use Rattle.transcript_laws.proofs.deliveries.messages_are_delivered_once.Goals as goal

-- src/deliveries.rt
pub returns-clause-runs : goal.returns-clause-runs
returns-clause-runs c = run_delivers

pub returns-clause-histories : goal.returns-clause-histories
returns-clause-histories c = history_delivers
