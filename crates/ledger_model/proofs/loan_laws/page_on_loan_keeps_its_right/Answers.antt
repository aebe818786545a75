use Rattle.ledger_model.proofs.LivingLemmas.{lent_loan_stays, lent_page_stays}
use Rattle.ledger_model.proofs.loan_laws.page_on_loan_keeps_its_right.Goals as goal

pub returns-clause-page : goal.returns-clause-page
returns-clause-page c = lent_page_stays

pub returns-clause-holder : goal.returns-clause-holder
returns-clause-holder c = lent_loan_stays
