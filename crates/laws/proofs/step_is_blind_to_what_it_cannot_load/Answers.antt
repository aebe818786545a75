use Rattle.confidentiality_laws.proofs.Isolating.StepLemmas.{step_isolated}
use Rattle.laws.proofs.step_is_blind_to_what_it_cannot_load.Goals as goal

-- src/lib.rt
pub returns : goal.returns
returns c = step_isolated
