-- Calls don't depend on what is hidden of the threads of a group: their states stay.
use Rattle.std.proofs.Common.{◌≡◌, Bool, true, false, Option, Some, None, refl, sym}
use Rattle.std.specs.Option.{option_map}
use Rattle.machine_model.specs.State.Machine.{Machine, Thread}
use Rattle.call_effects.specs.CallViews.{call_view, state_alone}
use Rattle.noninterference_laws.specs.Inside.{Group, hidden_if}
use Rattle.noninterference_laws.proofs.Veiling.VeilLemmas.{veil}

alone_hidden : (b : Bool) (o : Option Thread) → option_map state_alone (hidden_if b o) ≡ option_map state_alone o
alone_hidden true None = refl
alone_hidden true (Some t) = refl
alone_hidden false o = refl

pub view_veil : (group : Group) (m : Machine) → call_view m ≡ call_view (veil group m)
view_veil group m = λ i. record (call_view m) { threads = λ id. sym (alone_hidden (group id.pid.0) (m.threads id)) i }
