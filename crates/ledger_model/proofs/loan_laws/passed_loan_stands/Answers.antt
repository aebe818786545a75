use Rattle.ledger_model.proofs.Stepping.PassingLemmas.{pass_stands}
use Rattle.ledger_model.proofs.loan_laws.passed_loan_stands.Goals as goal

pub returns : goal.returns
returns c = pass_stands
