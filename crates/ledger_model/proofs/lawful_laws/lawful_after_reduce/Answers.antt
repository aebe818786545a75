use Rattle.ledger_model.proofs.Stepping.RemovingLemmas.{reduce_lawful}
use Rattle.ledger_model.proofs.lawful_laws.lawful_after_reduce.Goals as goal

pub returns : goal.returns
returns c = reduce_lawful
