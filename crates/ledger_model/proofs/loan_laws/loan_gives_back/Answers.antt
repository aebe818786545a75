use Rattle.ledger_model.proofs.LivingLemmas.{loan_gives_back}
use Rattle.ledger_model.proofs.loan_laws.loan_gives_back.Goals as goal

pub returns : goal.returns
returns c = loan_gives_back
