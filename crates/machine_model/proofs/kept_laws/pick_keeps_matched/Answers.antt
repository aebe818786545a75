use Rattle.machine_model.proofs.Runs.KeptLemmas.{pick_keeps}
use Rattle.machine_model.proofs.kept_laws.pick_keeps_matched.Goals as goal

-- src/kept_laws.rt
pub returns : goal.returns
returns c = pick_keeps
