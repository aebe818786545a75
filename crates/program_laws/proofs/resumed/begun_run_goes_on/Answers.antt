use Rattle.program_laws.proofs.BegunLemmas.{begun_goes_on, begun_is_read, begun_limit}
use Rattle.program_laws.proofs.resumed.begun_run_goes_on.Goals as goal

-- src/resumed.rt
pub returns-clause-read : goal.returns-clause-read
returns-clause-read c = begun_is_read

pub returns-clause-goes_on : goal.returns-clause-goes_on
returns-clause-goes_on c = begun_goes_on

pub returns-clause-limit : goal.returns-clause-limit
returns-clause-limit c = begun_limit
