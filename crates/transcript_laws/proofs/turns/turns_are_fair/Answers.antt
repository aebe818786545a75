use Rattle.transcript_laws.proofs.Turning.FairLemmas.{history_is_fair, run_is_fair}
use Rattle.transcript_laws.proofs.turns.turns_are_fair.Goals as goal

-- src/turns.rt
pub returns-clause-runs : goal.returns-clause-runs
returns-clause-runs c = run_is_fair

pub returns-clause-histories : goal.returns-clause-histories
returns-clause-histories c = history_is_fair
