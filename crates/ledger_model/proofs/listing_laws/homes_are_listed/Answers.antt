use Rattle.ledger_model.proofs.Runs.LeastRunLemmas.{home_places-ascends, home_places-contains, home_places-each, home_places-once}
use Rattle.ledger_model.proofs.listing_laws.homes_are_listed.Goals as goal

pub returns-clause-members : goal.returns-clause-members
returns-clause-members c = λ procs capacity ledger p h. (home_places-each procs ledger p, home_places-contains procs capacity ledger p h)

pub returns-clause-ascends : goal.returns-clause-ascends
returns-clause-ascends c = home_places-ascends

pub returns-clause-once : goal.returns-clause-once
returns-clause-once c = home_places-once
