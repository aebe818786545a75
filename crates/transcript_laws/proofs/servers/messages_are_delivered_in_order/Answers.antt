use Rattle.transcript_laws.proofs.AtServers.DeliveryOrderLemmas.{history_delivers_in_order, run_delivers_in_order}
use Rattle.transcript_laws.proofs.servers.messages_are_delivered_in_order.Goals as goal

-- src/servers.rt
pub returns-clause-runs : goal.returns-clause-runs
returns-clause-runs c = run_delivers_in_order

pub returns-clause-histories : goal.returns-clause-histories
returns-clause-histories c = history_delivers_in_order
