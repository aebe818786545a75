use Rattle.transcript_laws.proofs.AtServers.SinceLemmas.{history_has_one_server, run_has_one_server}
use Rattle.transcript_laws.proofs.servers.messages_have_one_server.Goals as goal

-- src/servers.rt
pub returns-clause-runs : goal.returns-clause-runs
returns-clause-runs c = run_has_one_server

pub returns-clause-histories : goal.returns-clause-histories
returns-clause-histories c = history_has_one_server
