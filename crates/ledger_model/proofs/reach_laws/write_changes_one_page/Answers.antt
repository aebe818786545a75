use Rattle.ledger_model.proofs.ReachingLemmas.{write_changed, write_console, write_others}
use Rattle.ledger_model.proofs.Stepping.WritingLemmas.{write_bare}
use Rattle.ledger_model.proofs.reach_laws.write_changes_one_page.Goals as goal

pub returns-clause-changed : goal.returns-clause-changed
returns-clause-changed c = write_changed

pub returns-clause-console : goal.returns-clause-console
returns-clause-console c = write_console

pub returns-clause-others : goal.returns-clause-others
returns-clause-others c = write_others

pub returns-clause-rights : goal.returns-clause-rights
returns-clause-rights c = write_bare
