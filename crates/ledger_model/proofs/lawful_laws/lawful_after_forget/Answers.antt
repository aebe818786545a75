use Rattle.ledger_model.proofs.Stepping.RemovingLemmas.{forget_lawful}
use Rattle.ledger_model.proofs.lawful_laws.lawful_after_forget.Goals as goal

pub returns : goal.returns
returns c = forget_lawful
