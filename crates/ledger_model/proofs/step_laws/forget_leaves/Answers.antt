use Rattle.ledger_model.proofs.LocalityLemmas.{forget_orphans, forget_outside}
use Rattle.ledger_model.proofs.step_laws.forget_leaves.Goals as goal

pub returns-clause-homes : goal.returns-clause-homes
returns-clause-homes c = forget_outside

pub returns-clause-orphans : goal.returns-clause-orphans
returns-clause-orphans c = forget_orphans
