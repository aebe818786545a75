use Rattle.ledger_model.proofs.Pages.WholePageLemmas.{forget_whole, make_console_whole, make_whole, reduce_whole, remove_whole, write_whole}
use Rattle.ledger_model.proofs.whole_laws.pages_stay_whole.Goals as goal

pub returns-clause-made : goal.returns-clause-made
returns-clause-made c = make_whole

pub returns-clause-console : goal.returns-clause-console
returns-clause-console c = make_console_whole

pub returns-clause-written : goal.returns-clause-written
returns-clause-written c = write_whole

pub returns-clause-removed : goal.returns-clause-removed
returns-clause-removed c = remove_whole

pub returns-clause-reduced : goal.returns-clause-reduced
returns-clause-reduced c = reduce_whole

pub returns-clause-forgotten : goal.returns-clause-forgotten
returns-clause-forgotten c = forget_whole
