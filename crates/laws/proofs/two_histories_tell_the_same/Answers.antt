use Rattle.confidentiality_laws.proofs.Isolating.RunLemmas.{same_but_bytes, tell_the_same}
use Rattle.confidentiality_laws.proofs.Spreading.RunLemmas.{run_moves}
use Rattle.confidentiality_laws.proofs.Histories.SideBySideLemmas.{tell_the_same_histories}
use Rattle.laws.proofs.HistoryLemmas.{history_moves}
use Rattle.laws.proofs.two_histories_tell_the_same.Goals as goal

-- src/lib.rt
pub returns-clause-runs : goal.returns-clause-runs
returns-clause-runs c = tell_the_same

pub returns-clause-states : goal.returns-clause-states
returns-clause-states c = same_but_bytes

pub returns-clause-histories : goal.returns-clause-histories
returns-clause-histories c = tell_the_same_histories

pub returns-clause-differences : goal.returns-clause-differences
returns-clause-differences c = run_moves

pub returns-clause-moved : goal.returns-clause-moved
returns-clause-moved c = history_moves
