use Rattle.ledger_model.proofs.OwnerLemmas.{stands_home_at, stands_orphan_at}
use Rattle.ledger_model.proofs.loan_laws.places_of_a_number_are_runs.Goals as goal

pub returns-clause-lent : goal.returns-clause-lent
returns-clause-lent c = stands_home_at

pub returns-clause-orphans : goal.returns-clause-orphans
returns-clause-orphans c = stands_orphan_at
