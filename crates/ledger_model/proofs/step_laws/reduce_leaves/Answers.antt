use Rattle.ledger_model.proofs.LocalityLemmas.{reduce_orphans, reduce_outside}
use Rattle.ledger_model.proofs.step_laws.reduce_leaves.Goals as goal

pub returns-clause-homes : goal.returns-clause-homes
returns-clause-homes c = reduce_outside

pub returns-clause-orphans : goal.returns-clause-orphans
returns-clause-orphans c = reduce_orphans
