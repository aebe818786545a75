use Rattle.call_effects.proofs.FootprintLemmas.{calls_leave_the_rest}
use Rattle.call_effects.proofs.calls_leave_the_rest.Goals as goal

-- src/lib.rt
pub returns : goal.returns
returns c = calls_leave_the_rest
