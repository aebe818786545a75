use Rattle.ledger_model.proofs.Stepping.PassingLemmas.{pass_orphan, pass_outside}
use Rattle.ledger_model.proofs.step_laws.pass_leaves.Goals as goal

pub returns-clause-homes : goal.returns-clause-homes
returns-clause-homes c = pass_outside

pub returns-clause-orphans : goal.returns-clause-orphans
returns-clause-orphans c = pass_orphan
