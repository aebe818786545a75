use Rattle.transcript_laws.proofs.Serving.OrderLemmas.{history_keeps_order, run_keeps_order}
use Rattle.transcript_laws.proofs.servers.messages_keep_their_order.Goals as goal

-- src/servers.rt
pub returns-clause-runs : goal.returns-clause-runs
returns-clause-runs c = run_keeps_order

pub returns-clause-histories : goal.returns-clause-histories
returns-clause-histories c = history_keeps_order
