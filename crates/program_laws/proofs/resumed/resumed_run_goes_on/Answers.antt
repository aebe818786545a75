use Rattle.program_laws.proofs.ResumedLemmas.{resumed_goes_on}
use Rattle.program_laws.proofs.resumed.resumed_run_goes_on.Goals as goal

pub returns-clause-goes_on : goal.returns-clause-goes_on
returns-clause-goes_on c = resumed_goes_on
