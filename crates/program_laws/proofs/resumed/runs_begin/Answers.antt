use Rattle.program_laws.proofs.BegunLemmas.{booted_begins, restored_begins}
use Rattle.program_laws.proofs.resumed.runs_begin.Goals as goal

-- src/resumed.rt
pub returns-clause-booted : goal.returns-clause-booted
returns-clause-booted c = booted_begins

pub returns-clause-restored : goal.returns-clause-restored
returns-clause-restored c = restored_begins
