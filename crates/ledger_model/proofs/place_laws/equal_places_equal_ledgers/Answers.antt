use Rattle.ledger_model.proofs.LedgerLemmas.{same_ledger}
use Rattle.ledger_model.proofs.place_laws.equal_places_equal_ledgers.Goals as goal

pub returns : goal.returns
returns c = same_ledger
