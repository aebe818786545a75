use Rattle.machine_model.proofs.Runs.KeptLemmas.{run_keeps}
use Rattle.machine_model.proofs.kept_laws.run_stays_matched.Goals as goal

-- src/kept_laws.rt
pub returns : goal.returns
returns c = run_keeps
