-- The host: the files that it has by name, and those that it was asked for.
use Rattle.std.specs.Prelude.{◌≡◌, ℕ, Bool, List, Option, Some, IsSome}
use Rattle.xk_ports.specs.declared.host.FileSlot.{FileSlot}
use Rattle.xk_ports.specs.declared.host.FileSlot.TheVariants.{First, Second}

-- a file that was asked for: at which slot, by which name (its bytes in UTF-8), and whether it was picked
pub record FileAsked : Type 0 where
  pub slot : FileSlot
  pub name : List ℕ
  pub picked : Bool

-- the slot that isn't this one
abbrev pub other_slot : FileSlot → FileSlot
other_slot First = Second
other_slot Second = First

-- where the host tells its files, it has one of that name, and that file's bytes are what is left
abbrev pub IsLeftOf : Option (List ℕ → Option (List ℕ)) → List ℕ → Option (List ℕ) → Type 0
IsLeftOf told name left =
    (file : List ℕ → Option (List ℕ)) → told ≡ Some file → IsSome (file name) × (left ≡ file name)
