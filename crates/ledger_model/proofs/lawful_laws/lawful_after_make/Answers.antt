use Rattle.ledger_model.proofs.Stepping.MakingLemmas.{make_lawful}
use Rattle.ledger_model.proofs.lawful_laws.lawful_after_make.Goals as goal

pub returns : goal.returns
returns c = make_lawful
