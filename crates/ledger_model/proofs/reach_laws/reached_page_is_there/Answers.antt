use Rattle.ledger_model.proofs.ReachingLemmas.{reached_contents}
use Rattle.ledger_model.proofs.reach_laws.reached_page_is_there.Goals as goal

pub returns : goal.returns
returns c = reached_contents
