-- The reservation of a run whose start may have one, as the state has that a suspended run goes on from.
use Rattle.std.specs.Prelude.{◌≡◌, ℕ, ◌<◌, ◌⊎◌, List, slice_get, Some}
use Rattle.machine_model.specs.Runs.Moments.{IsRun, Moment, state_at}
use Rattle.machine_model.specs.Runs.Reserving.{IsOnlyBy, IsReservedSince, IsSucceeding}
use Rattle.machine_model.specs.State.Machine.{Machine, Reservation}

-- the reservation stood at the start, and from there up to before moment `end` only its thread did steps
pub record IsReservedFromStart (r : Reservation) (start : Machine) (moments : List Moment) (end : ℕ) : Type 0 where
  pub stood : start.reserved ≡ Some r
  pub alone : (k : ℕ) (between : Moment) → k < end → slice_get moments k ≡ Some between
      → IsOnlyBy r.who (state_at start moments k) between.cause

-- an LR of the thread reserved the address before moment `end`, or it was reserved at the start, and since then only that thread did
-- steps
abbrev pub IsReservedBefore : Reservation → Machine → List Moment → ℕ → Type 0
IsReservedBefore r start moments end = IsReservedSince r start moments end ⊎ IsReservedFromStart r start moments end

-- so it is of each SC that succeeds, in every run
abbrev pub EveryReservationHolds : Type 0
EveryReservationHolds =
    (start : Machine) (moments : List Moment) (i : ℕ) (moment : Moment) (r : Reservation) → IsRun start moments
    → slice_get moments i ≡ Some moment → IsSucceeding r (state_at start moments i) moment.cause
    → IsReservedBefore r start moments i
