use Rattle.call_effects.proofs.MeantLemmas.{calls_meant}
use Rattle.call_effects.proofs.calls_are_meant.Goals as goal

-- src/lib.rt
pub returns : goal.returns
returns c = calls_meant
