use Rattle.call_effects.proofs.Viewing.VerdictLemmas.{calls_depend}
use Rattle.confidentiality_laws.proofs.calls.calls_depend_on_their_view.Goals as goal

-- src/calls.rt
pub returns : goal.returns
returns c = calls_depend
