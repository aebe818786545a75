-- The swap store: what its slots hold, and the preparations that were asked for.
use Rattle.std.specs.Prelude.{◌≡◌, ◌<◌, ◌==◌, ℕ, Bool, true, false, List, [], ◌∷◌, length, slice_index, Option, Some, Result, Ok, Err}
use Rattle.std.specs.Prelude.{if◌then◌else◌}
use Rattle.std.specs.Option.{option_map}
use Rattle.xk_ports.specs.declared.store.StoreFault.{StoreFault}
use Rattle.xk_ports.specs.declared.store.StoreFault.TheVariants.{Failed, NoMemory}
use Rattle.xk_ports.specs.Told.{Grows}

-- what the slots of a store hold, by their numbers
abbrev pub Contents : Type 0
Contents = ℕ → List ℕ

-- a preparation that was asked for: how many slots, by which name (its bytes in UTF-8) if any, and
-- whether the answer was Ok; else it was Failed
pub record StoreAsked : Type 0 where
  pub slots : ℕ
  pub name : Option (List ℕ)
  pub prepared : Bool

-- the list of preparations after one more, by its answer; one without memory leaves the list
abbrev pub AsksFor : Option (List StoreAsked) → Option (List StoreAsked) → ℕ → Option (List ℕ) → Result (Unit {0}) StoreFault → Type 0
AsksFor old new slots name (Ok done) = Grows old new (record { slots = slots; name = name; prepared = true } ∷ [])
AsksFor old new slots name (Err Failed) = Grows old new (record { slots = slots; name = name; prepared = false } ∷ [])
AsksFor old new slots name (Err NoMemory) = new ≡ old

-- a page of zeros
pub record IsZeroPage (page : List ℕ) : Type 0 where
  pub whole : length page ≡ 4096
  pub zero : (i : ℕ) → slice_index page i ≡ 0

-- where it is told, the first `slots` slots hold zeros
abbrev pub HoldsZeros : Option Contents → ℕ → Type 0
HoldsZeros told slots =
    (pages : Contents) → told ≡ Some pages → (slot : ℕ) → slot < slots → IsZeroPage (pages slot)

-- these slots with one page put into a slot
abbrev pub with_page : Contents → ℕ → List ℕ → Contents
with_page pages slot page other = if other == slot then page else pages other

-- what a failed put leaves: that slot may hold anything, and the others stay
abbrev pub SpoilsSlot : Option Contents → Option Contents → ℕ → Type 0
SpoilsSlot old new slot = (page : List ℕ) × (new ≡ option_map (λ pages. with_page pages slot page) old)

-- where it is told, the slot holds this page
abbrev pub GivesPage : Option Contents → ℕ → List ℕ → Type 0
GivesPage told slot page = (pages : Contents) → told ≡ Some pages → page ≡ pages slot
