use Rattle.loan_laws.proofs.Fates.FateLemmas.{out_still}
use Rattle.loan_laws.proofs.loans.left_number_keeps_its_loan.Goals as goal

-- src/loans.rt
pub returns : goal.returns
returns c = out_still
