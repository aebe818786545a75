use Rattle.ledger_model.proofs.Stepping.RemovingLemmas.{forget_pages, remove_pages}
use Rattle.ledger_model.proofs.page_laws.pages_after_remove.Goals as goal

pub returns-clause-removed : goal.returns-clause-removed
returns-clause-removed c = remove_pages

pub returns-clause-forgotten : goal.returns-clause-forgotten
returns-clause-forgotten c = forget_pages
