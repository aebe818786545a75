use Rattle.transcript_laws.proofs.AtServers.EndLemmas.{history_ends_at_servers, run_ends_at_servers}
use Rattle.transcript_laws.proofs.Following.LostLemmas.{history_loses_nothing, run_loses_nothing, stands_once}
use Rattle.transcript_laws.proofs.deliveries.nothing_is_lost.Goals as goal

-- src/deliveries.rt
pub returns-clause-stands : goal.returns-clause-stands
returns-clause-stands c = stands_once

pub returns-clause-runs : goal.returns-clause-runs
returns-clause-runs c = run_loses_nothing

pub returns-clause-histories : goal.returns-clause-histories
returns-clause-histories c = history_loses_nothing

pub returns-clause-own_runs : goal.returns-clause-own_runs
returns-clause-own_runs c = run_ends_at_servers

pub returns-clause-own_histories : goal.returns-clause-own_histories
returns-clause-own_histories c = history_ends_at_servers
