use Rattle.noninterference_laws.proofs.CallLemmas.{call_keeps}
use Rattle.noninterference_laws.proofs.steps.call_keeps_others.Goals as goal

-- src/steps.rt
pub returns : goal.returns
returns c = call_keeps
