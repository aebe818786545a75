use Rattle.ledger_model.proofs.Pages.WholePageLemmas.{steps_whole}
use Rattle.ledger_model.proofs.whole_laws.whole_after_all.Goals as goal

pub returns : goal.returns
returns c = steps_whole
