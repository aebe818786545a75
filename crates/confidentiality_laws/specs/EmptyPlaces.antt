-- A system call moves pages to empty places alone: no page is moved onto another.
use Rattle.std.specs.Prelude.{◌≡◌, ℕ, ◌⊎◌, List, Some, None}
use Rattle.xk_base.specs.declared.ids.Place.{Place}
use Rattle.xk_base.specs.declared.ids.ThreadId.{ThreadId}
use Rattle.ledger_model.specs.Ledger.{Homed, Ledger, Page}
use Rattle.machine_model.specs.Runs.Isolation.{ChangesNoByte}
use Rattle.machine_model.specs.Runs.Matched.{Matched}
use Rattle.machine_model.specs.State.Machine.{Machine}
use Rattle.machine_model.specs.State.Order.{actor}
use Rattle.machine_model.specs.Stepping.Acts.{call_by}
use Rattle.machine_model.specs.Stepping.Step.{step}

-- No byte is changed. Where a page stood, that very page stands afterwards, or none: so a page that was moved stands at a place where
-- none stood before, also in the process that sent it.
pub record MovesToEmptyPlaces (before after : Ledger) : Type 0 where
  pub bytes : ChangesNoByte before after
  pub standing : (p : Place) (old : Page) → before.home p ≡ Some old → (after.home p ≡ None) ⊎ (bytes.from (Homed p) ≡ Some (Homed p))

-- so it is of the step of each system call
abbrev pub CallMovesToEmptyPlaces : Type 0
CallMovesToEmptyPlaces =
    (m : Machine) (who : ThreadId) (words : List ℕ) → Matched m → actor m ≡ Some who → call_by m who ≡ Some words
    → MovesToEmptyPlaces m.ledger (step m).machine.ledger
