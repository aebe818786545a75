use Rattle.ledger_model.proofs.Stepping.MakingLemmas.{make_console_pages, make_pages}
use Rattle.ledger_model.proofs.page_laws.pages_after_make.Goals as goal

pub returns-clause-made : goal.returns-clause-made
returns-clause-made c = make_pages

pub returns-clause-console : goal.returns-clause-console
returns-clause-console c = make_console_pages
