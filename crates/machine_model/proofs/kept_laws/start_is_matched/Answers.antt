use Rattle.machine_model.proofs.State.StartLemmas.{start_matched}
use Rattle.machine_model.proofs.kept_laws.start_is_matched.Goals as goal

-- src/kept_laws.rt
pub returns : goal.returns
returns c = start_matched
