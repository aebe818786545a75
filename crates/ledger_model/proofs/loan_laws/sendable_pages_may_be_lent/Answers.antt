use Rattle.ledger_model.proofs.Runs.RunTestLemmas.{sent_may_lend, sent_may_move}
use Rattle.ledger_model.proofs.loan_laws.sendable_pages_may_be_lent.Goals as goal

pub returns-clause-lend : goal.returns-clause-lend
returns-clause-lend c = sent_may_lend

pub returns-clause-give : goal.returns-clause-give
returns-clause-give c = sent_may_move
