use Rattle.ledger_model.proofs.Stepping.WritingLemmas.{write_lawful}
use Rattle.ledger_model.proofs.lawful_laws.lawful_after_write.Goals as goal

pub returns : goal.returns
returns c = write_lawful
