use Rattle.ledger_model.proofs.Stepping.RemovingLemmas.{remove_lawful}
use Rattle.ledger_model.proofs.lawful_laws.lawful_after_remove.Goals as goal

pub returns : goal.returns
returns c = remove_lawful
