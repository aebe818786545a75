use Rattle.ledger_model.proofs.Pages.WholePageLemmas.{is_page-from, is_page-true}
use Rattle.ledger_model.proofs.whole_laws.page_test_is_right.Goals as goal

pub returns : goal.returns
returns c = λ bytes. (is_page-true bytes, is_page-from bytes)
