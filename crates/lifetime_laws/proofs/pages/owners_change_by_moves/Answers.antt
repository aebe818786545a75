use Rattle.lifetime_laws.proofs.Lives.OwnerLemmas.{every_owner_balances, gains_by_moves, loses_by_moves}
use Rattle.lifetime_laws.proofs.pages.owners_change_by_moves.Goals as goal

-- src/pages.rt
pub returns-clause-gains : goal.returns-clause-gains
returns-clause-gains c = gains_by_moves

pub returns-clause-loses : goal.returns-clause-loses
returns-clause-loses c = loses_by_moves

pub returns-clause-runs : goal.returns-clause-runs
returns-clause-runs c = every_owner_balances
