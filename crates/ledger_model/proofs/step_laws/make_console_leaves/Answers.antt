use Rattle.ledger_model.proofs.LocalityLemmas.{make_console_orphans, make_console_outside}
use Rattle.ledger_model.proofs.step_laws.make_console_leaves.Goals as goal

pub returns-clause-homes : goal.returns-clause-homes
returns-clause-homes c = make_console_outside

pub returns-clause-orphans : goal.returns-clause-orphans
returns-clause-orphans c = make_console_orphans
