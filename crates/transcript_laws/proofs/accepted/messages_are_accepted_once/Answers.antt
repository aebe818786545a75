use Rattle.transcript_laws.proofs.Accepting.AcceptedLemmas.{history_accepts_once, run_accepts_once}
use Rattle.transcript_laws.proofs.accepted.messages_are_accepted_once.Goals as goal

-- src/accepted.rt
pub returns-clause-runs : goal.returns-clause-runs
returns-clause-runs c = run_accepts_once

pub returns-clause-histories : goal.returns-clause-histories
returns-clause-histories c = history_accepts_once
