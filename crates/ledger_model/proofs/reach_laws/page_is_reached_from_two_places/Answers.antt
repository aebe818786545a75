use Rattle.ledger_model.proofs.OwnerLemmas.{reached_from}
use Rattle.ledger_model.proofs.reach_laws.page_is_reached_from_two_places.Goals as goal

pub returns : goal.returns
returns c = reached_from
