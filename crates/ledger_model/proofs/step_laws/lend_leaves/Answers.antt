use Rattle.ledger_model.proofs.Stepping.LendingLemmas.{lend_orphan, lend_outside}
use Rattle.ledger_model.proofs.step_laws.lend_leaves.Goals as goal

pub returns-clause-homes : goal.returns-clause-homes
returns-clause-homes c = lend_outside

pub returns-clause-orphans : goal.returns-clause-orphans
returns-clause-orphans c = lend_orphan
