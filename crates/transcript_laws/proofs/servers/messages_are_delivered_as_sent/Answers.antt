use Rattle.transcript_laws.proofs.Serving.ContentLemmas.{history_delivers_as_sent, run_delivers_as_sent}
use Rattle.transcript_laws.proofs.servers.messages_are_delivered_as_sent.Goals as goal

-- src/servers.rt
pub returns-clause-runs : goal.returns-clause-runs
returns-clause-runs c = run_delivers_as_sent

pub returns-clause-histories : goal.returns-clause-histories
returns-clause-histories c = history_delivers_as_sent
