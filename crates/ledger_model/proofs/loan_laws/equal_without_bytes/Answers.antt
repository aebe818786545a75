use Rattle.ledger_model.proofs.Pages.BareLemmas.{bare-lawful, bare-reach}
use Rattle.ledger_model.proofs.Stepping.WritingLemmas.{bare-loans, bare-pages}
use Rattle.ledger_model.proofs.loan_laws.equal_without_bytes.Goals as goal

pub returns-clause-loans : goal.returns-clause-loans
returns-clause-loans c = bare-loans

pub returns-clause-pages : goal.returns-clause-pages
returns-clause-pages c = bare-pages

pub returns-clause-reach : goal.returns-clause-reach
returns-clause-reach c = bare-reach

pub returns-clause-lawful : goal.returns-clause-lawful
returns-clause-lawful c = bare-lawful
