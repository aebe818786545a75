use Rattle.ledger_model.proofs.Stepping.LendingLemmas.{lend_stands}
use Rattle.ledger_model.proofs.loan_laws.loan_stands_once_lent.Goals as goal

pub returns : goal.returns
returns c = lend_stands
