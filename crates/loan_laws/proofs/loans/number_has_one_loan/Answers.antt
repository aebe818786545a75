use Rattle.loan_laws.proofs.Leaving.SameRunLemmas.{one_loan}
use Rattle.loan_laws.proofs.loans.number_has_one_loan.Goals as goal

-- src/loans.rt
pub returns : goal.returns
returns c = one_loan
