use Rattle.machine_laws.proofs.Stepping.EveryStepLemmas.{every_cause_keeps}
use Rattle.machine_laws.proofs.step_laws.all_keep_matched.Goals as goal

-- src/step_laws.rt
pub returns : goal.returns
returns c = every_cause_keeps
