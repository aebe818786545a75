use Rattle.ledger_model.proofs.LocalityLemmas.{end_loan_orphans, end_loan_outside}
use Rattle.ledger_model.proofs.step_laws.end_leaves.Goals as goal

pub returns-clause-homes : goal.returns-clause-homes
returns-clause-homes c = end_loan_outside

pub returns-clause-orphans : goal.returns-clause-orphans
returns-clause-orphans c = end_loan_orphans
