use Rattle.machine_laws.proofs.Stepping.EveryStepLemmas.{every_step_keeps}
use Rattle.machine_laws.proofs.step_laws.step_keeps_matched.Goals as goal

-- src/step_laws.rt
pub returns : goal.returns
returns c = every_step_keeps
