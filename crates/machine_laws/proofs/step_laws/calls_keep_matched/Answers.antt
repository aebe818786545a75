use Rattle.machine_laws.proofs.Stepping.EveryStepLemmas.{calls_keep}
use Rattle.machine_laws.proofs.step_laws.calls_keep_matched.Goals as goal

-- src/step_laws.rt
pub returns : goal.returns
returns c = calls_keep
