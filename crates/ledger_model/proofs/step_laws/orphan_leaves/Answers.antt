use Rattle.ledger_model.proofs.LocalityLemmas.{orphan_loan_orphans, orphan_loan_outside}
use Rattle.ledger_model.proofs.step_laws.orphan_leaves.Goals as goal

pub returns-clause-homes : goal.returns-clause-homes
returns-clause-homes c = orphan_loan_outside

pub returns-clause-orphans : goal.returns-clause-orphans
returns-clause-orphans c = orphan_loan_orphans
