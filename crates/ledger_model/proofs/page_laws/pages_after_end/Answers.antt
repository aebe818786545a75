use Rattle.ledger_model.proofs.Stepping.EndingLemmas.{end_loan_pages_lent, end_loan_pages_orphan}
use Rattle.ledger_model.proofs.page_laws.pages_after_end.Goals as goal

pub returns-clause-lent : goal.returns-clause-lent
returns-clause-lent c = end_loan_pages_lent

pub returns-clause-orphans : goal.returns-clause-orphans
returns-clause-orphans c = end_loan_pages_orphan
