use Rattle.machine_model.proofs.Runs.KeptLemmas.{turn_keeps}
use Rattle.machine_model.proofs.kept_laws.turn_keeps_matched.Goals as goal

-- src/kept_laws.rt
pub returns : goal.returns
returns c = turn_keeps
