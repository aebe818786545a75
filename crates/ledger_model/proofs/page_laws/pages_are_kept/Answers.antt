use Rattle.ledger_model.proofs.Stepping.GivingLemmas.{give_pages}
use Rattle.ledger_model.proofs.Stepping.LendingLemmas.{lend_pages}
use Rattle.ledger_model.proofs.Stepping.OrphaningLemmas.{orphan_loan_pages}
use Rattle.ledger_model.proofs.Stepping.PassingLemmas.{pass_pages}
use Rattle.ledger_model.proofs.Stepping.RemovingLemmas.{reduce_pages}
use Rattle.ledger_model.proofs.Stepping.WritingLemmas.{write_pages}
use Rattle.ledger_model.proofs.page_laws.pages_are_kept.Goals as goal

pub returns-clause-written : goal.returns-clause-written
returns-clause-written c = write_pages

pub returns-clause-reduced : goal.returns-clause-reduced
returns-clause-reduced c = reduce_pages

pub returns-clause-lent : goal.returns-clause-lent
returns-clause-lent c = lend_pages

pub returns-clause-passed : goal.returns-clause-passed
returns-clause-passed c = pass_pages

pub returns-clause-given : goal.returns-clause-given
returns-clause-given c = give_pages

pub returns-clause-orphaned : goal.returns-clause-orphaned
returns-clause-orphaned c = orphan_loan_pages
