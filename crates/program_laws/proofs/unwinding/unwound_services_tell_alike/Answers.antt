use Rattle.noninterference_laws.specs.Unwinding.{Passes}
use Rattle.program_laws.proofs.UnwindingLemmas.{unwound_services}
use Rattle.program_laws.proofs.unwinding.unwound_services_tell_alike.Goals as goal

-- src/unwinding.rt
pub returns : goal.returns
returns c = λ group related. unwound_services group (Passes related)
