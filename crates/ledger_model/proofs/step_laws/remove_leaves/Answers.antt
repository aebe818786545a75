use Rattle.ledger_model.proofs.LocalityLemmas.{remove_orphans, remove_outside}
use Rattle.ledger_model.proofs.step_laws.remove_leaves.Goals as goal

pub returns-clause-homes : goal.returns-clause-homes
returns-clause-homes c = remove_outside

pub returns-clause-orphans : goal.returns-clause-orphans
returns-clause-orphans c = remove_orphans
