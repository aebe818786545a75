use Rattle.ledger_model.proofs.Stepping.OrphaningLemmas.{orphan_loan_stands}
use Rattle.ledger_model.proofs.OwnerLemmas.{orphan_loan_left, orphan_loan_reach}
use Rattle.ledger_model.proofs.loan_laws.orphans_are_their_holders.Goals as goal

pub returns-clause-stands : goal.returns-clause-stands
returns-clause-stands c = orphan_loan_stands

pub returns-clause-holder : goal.returns-clause-holder
returns-clause-holder c = orphan_loan_reach

pub returns-clause-lender : goal.returns-clause-lender
returns-clause-lender c = orphan_loan_left
