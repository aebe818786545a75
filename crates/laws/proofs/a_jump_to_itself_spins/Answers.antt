use Rattle.laws.proofs.SpinningLemmas.{jump_spins, some_is_at_risk}
use Rattle.laws.proofs.a_jump_to_itself_spins.Goals as goal

-- src/lib.rt
pub returns-clause-spins : goal.returns-clause-spins
returns-clause-spins c = jump_spins

pub returns-clause-witness : goal.returns-clause-witness
returns-clause-witness c = some_is_at_risk
