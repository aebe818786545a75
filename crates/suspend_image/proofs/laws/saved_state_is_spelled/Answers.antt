use Rattle.suspend_image.proofs.Saved.StateAgainLemmas.{saved_spelled, saved_once}
use Rattle.suspend_image.proofs.laws.saved_state_is_spelled.Goals as goal

pub returns : goal.returns
returns c = record {
  spelled = λ m is. saved_spelled m is.matched is.saveable;
  once = λ m other is also same. saved_once m other is.matched is.saveable also.matched also.saveable same;
}
