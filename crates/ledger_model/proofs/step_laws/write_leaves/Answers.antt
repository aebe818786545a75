use Rattle.ledger_model.proofs.LocalityLemmas.{write_other_home, write_other_orphan}
use Rattle.ledger_model.proofs.step_laws.write_leaves.Goals as goal

pub returns-clause-homes : goal.returns-clause-homes
returns-clause-homes c = write_other_home

pub returns-clause-orphans : goal.returns-clause-orphans
returns-clause-orphans c = write_other_orphan
