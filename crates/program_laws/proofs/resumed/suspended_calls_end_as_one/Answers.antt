use Rattle.program_laws.proofs.Suspended.CallLemmas.{suspending_invisible}
use Rattle.program_laws.proofs.resumed.suspended_calls_end_as_one.Goals as goal

-- src/resumed.rt
pub returns : goal.returns
returns c = suspending_invisible
