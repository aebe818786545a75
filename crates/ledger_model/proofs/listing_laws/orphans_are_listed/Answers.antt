use Rattle.ledger_model.proofs.Runs.LeastRunLemmas.{orphan_places-ascends, orphan_places-contains, orphan_places-each, orphan_places-once}
use Rattle.ledger_model.proofs.listing_laws.orphans_are_listed.Goals as goal

pub returns-clause-members : goal.returns-clause-members
returns-clause-members c = λ procs capacity ledger p h. (orphan_places-each procs ledger p, orphan_places-contains procs capacity ledger p h)

pub returns-clause-ascends : goal.returns-clause-ascends
returns-clause-ascends c = orphan_places-ascends

pub returns-clause-once : goal.returns-clause-once
returns-clause-once c = orphan_places-once
