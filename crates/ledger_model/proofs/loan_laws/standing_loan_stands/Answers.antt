use Rattle.ledger_model.proofs.LivingLemmas.{step_stands}
use Rattle.ledger_model.proofs.loan_laws.standing_loan_stands.Goals as goal

pub returns : goal.returns
returns c = step_stands
