use Rattle.ledger_model.proofs.ReachingLemmas.{lend_reach_holder, lend_reach_lender}
use Rattle.ledger_model.proofs.reach_laws.reach_after_lend.Goals as goal

pub returns-clause-lender : goal.returns-clause-lender
returns-clause-lender c = lend_reach_lender

pub returns-clause-holder : goal.returns-clause-holder
returns-clause-holder c = lend_reach_holder
