use Rattle.ledger_model.proofs.Stepping.GivingLemmas.{give_orphan, give_outside}
use Rattle.ledger_model.proofs.step_laws.give_leaves.Goals as goal

pub returns-clause-homes : goal.returns-clause-homes
returns-clause-homes c = give_outside

pub returns-clause-orphans : goal.returns-clause-orphans
returns-clause-orphans c = give_orphan
