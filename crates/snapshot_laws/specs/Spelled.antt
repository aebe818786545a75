-- State bytes tell states apart, without any limit but those of their form.
use Rattle.std.specs.Prelude.{◌≡◌, ℕ, List}
use Rattle.machine_model.specs.Runs.Matched.{Matched}
use Rattle.machine_model.specs.State.Machine.{Machine}
use Rattle.suspend_image.specs.Saveable.{IsSpellable, SpellsMachine}
use Rattle.suspend_image.specs.StateBytes.{saved_bytes}

-- The machine can be in the state, and some file spells it. Nothing is asked of its numbers but what the form of the file asks.
pub record IsSpelled (m : Machine) : Type 0 where
  pub matched : Matched m
  pub file : List ℕ
  pub spells : SpellsMachine file m

-- the file has the state bytes of the state, and no other
abbrev pub SpelledBySaved : Type 0
SpelledBySaved = (m : Machine) (is : IsSpelled m) → is.file ≡ saved_bytes m

-- two states with the same state bytes are one
abbrev pub BytesTellStates : Type 0
BytesTellStates = (one other : Machine) → IsSpelled one → IsSpelled other → saved_bytes one ≡ saved_bytes other → one ≡ other

-- each state that can be saved is such a state
abbrev pub SpellableSpelled : Type 0
SpellableSpelled = (m : Machine) → IsSpellable m → IsSpelled m
