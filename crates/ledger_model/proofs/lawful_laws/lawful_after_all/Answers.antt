use Rattle.ledger_model.proofs.LivingLemmas.{steps_lawful}
use Rattle.ledger_model.proofs.lawful_laws.lawful_after_all.Goals as goal

pub returns : goal.returns
returns c = steps_lawful
