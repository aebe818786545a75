-- Orders: threads whose slices follow each other.
use Rattle.std.specs.Prelude.{◌≡◌, ℕ, ◌+◌, true, List, [], ◌∷◌, ◌++◌}
use Rattle.std.specs.Bool.{⊤}
use Rattle.xk_base.specs.declared.events.Event.{Event}
use Rattle.xk_base.specs.declared.ids.ThreadId.{ThreadId}
use Rattle.machine_laws.specs.Interleaving.{AreReadyInTurn, steps_in_turn}
use Rattle.machine_model.specs.State.Machine.{Machine}
use Rattle.machine_model.specs.State.Order.{ready_at}
use Rattle.machine_model.specs.Stepping.Events.{nothing}
use Rattle.machine_model.specs.Stepping.Step.{Recorded}
use Rattle.order_model.specs.Slices.{slice, slice_events, turned}

-- the state after the thread's slice and the end of its turn
abbrev pub after_slice : ℕ → ThreadId → Machine → Machine
after_slice quantum who m = (turned (slice quantum who m)).machine

-- each of these threads is Ready at its slice: the first now, the others after its slice
unfoldable pub AreReadyInSlices : ℕ → List ThreadId → Machine → Type 0
AreReadyInSlices quantum [] m = ⊤
AreReadyInSlices quantum (who ∷ later) m = (ready_at m who ≡ true) × AreReadyInSlices quantum later (after_slice quantum who m)

-- the events of their slices
unfoldable pub order_events : ℕ → List ThreadId → Machine → List Event
order_events quantum [] m = []
order_events quantum (who ∷ later) m = slice_events quantum who m ++ order_events quantum later (after_slice quantum who m)

-- how many steps these are
unfoldable pub steps_of_order : ℕ → List ThreadId → Machine → ℕ
steps_of_order quantum [] m = 0
steps_of_order quantum (who ∷ later) m = (slice quantum who m).done + steps_of_order quantum later (after_slice quantum who m)

-- the slices one after another, each at the end of the turn before: the last state and all records
unfoldable pub slices_in_turn : ℕ → List ThreadId → Machine → Recorded
slices_in_turn quantum [] m = nothing m
slices_in_turn quantum (who ∷ later) m = record {
  machine = (slices_in_turn quantum later (after_slice quantum who m)).machine;
  records = (slice quantum who m).records ++ (slices_in_turn quantum later (after_slice quantum who m)).records;
}

-- threads that are each Ready at their turn are so at their slice of one step, and these slices in a row are their steps
pub record AreSteps (order : List ThreadId) (m : Machine) : Type 0 where
  pub ready : AreReadyInSlices 1 order m
  pub same : slices_in_turn 1 order m ≡ steps_in_turn order m

abbrev pub InterleavingsAreOrders : Type 0
InterleavingsAreOrders = (order : List ThreadId) (m : Machine) → AreReadyInTurn order m → AreSteps order m
