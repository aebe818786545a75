use Rattle.machine_model.proofs.State.StartLemmas.{small_matched}
use Rattle.machine_model.proofs.kept_laws.small_machine_is_matched.Goals as goal

-- src/kept_laws.rt
pub returns : goal.returns
returns c = small_matched
