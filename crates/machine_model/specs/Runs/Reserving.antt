-- What a reservation says of a run: between an LR and the SC that succeeds on it, only that thread did steps.
use Rattle.std.specs.Prelude.{◌≡◌, ℕ, ◌<◌, true, List, slice_get, Some, None}
use Rattle.std.specs.Bool.{⊤}
use Rattle.xk_base.specs.declared.ids.ThreadId.{ThreadId}
use Rattle.machine_model.specs.Hart.Atomics.{LoadReserved, StoreConditional, is_reserved}
use Rattle.machine_model.specs.Hart.Instructions.{x}
use Rattle.machine_model.specs.Runs.Moments.{Cause, ByStep, ByPick, ByIrq, ByKill, ByTurn, Moment, IsRun, state_at}
use Rattle.machine_model.specs.State.Machine.{Machine, Reservation, Thread}
use Rattle.machine_model.specs.State.Order.{actor}
use Rattle.machine_model.specs.Stepping.Acts.{atomic_by}
use Rattle.machine_model.specs.Stepping.Reservations.{reserved_by}
use Rattle.machine_model.specs.Stepping.Step.{performed}

-- the step is an LR of the thread, and reserves the address
pub record IsReserving (r : Reservation) (before : Machine) (cause : Cause) : Type 0 where
  pub step : cause ≡ ByStep
  pub by_who : actor before ≡ Some r.who
  pub thread : Thread
  pub there : before.threads r.who ≡ Some thread
  pub rd : ℕ
  pub rs1 : ℕ
  pub lr : atomic_by before r.who ≡ Some (LoadReserved rd rs1)
  pub address : x thread.regs rs1 ≡ r.address
  pub reserves : (performed before r.who thread).reserved ≡ Some r.address

-- the step is an SC of the thread at the address, which finds it reserved
pub record IsSucceeding (r : Reservation) (before : Machine) (cause : Cause) : Type 0 where
  pub step : cause ≡ ByStep
  pub by_who : actor before ≡ Some r.who
  pub thread : Thread
  pub there : before.threads r.who ≡ Some thread
  pub rd : ℕ
  pub rs1 : ℕ
  pub rs2 : ℕ
  pub sc : atomic_by before r.who ≡ Some (StoreConditional rd rs1 rs2)
  pub address : x thread.regs rs1 ≡ r.address
  pub succeeds : is_reserved (reserved_by r.who before.reserved) r.address ≡ true

-- it is no step of another thread, no interrupt event and no kill
abbrev pub IsOnlyBy : ThreadId → Machine → Cause → Type 0
IsOnlyBy who before ByStep = (other : ThreadId) → actor before ≡ Some other → other ≡ who
IsOnlyBy who before (ByPick other) = ⊤
IsOnlyBy who before (ByIrq k) = ⊥
IsOnlyBy who before (ByKill pid) = ⊥
IsOnlyBy who before ByTurn = ⊤

-- before moment `end` an LR of the thread reserved the address, and since then only that thread did steps
pub record IsReservedSince (r : Reservation) (start : Machine) (moments : List Moment) (end : ℕ) : Type 0 where
  pub from : ℕ
  pub moment : Moment
  pub there : slice_get moments from ≡ Some moment
  pub before : from < end
  pub reserving : IsReserving r (state_at start moments from) moment.cause
  pub alone : (k : ℕ) (between : Moment) → from < k → k < end → slice_get moments k ≡ Some between
      → IsOnlyBy r.who (state_at start moments k) between.cause

-- so it is of each SC that succeeds, in every run from a state without a reservation
abbrev pub ReservationHolds : Type 0
ReservationHolds =
    (start : Machine) (moments : List Moment) (i : ℕ) (moment : Moment) (r : Reservation) → start.reserved ≡ None → IsRun start moments
    → slice_get moments i ≡ Some moment → IsSucceeding r (state_at start moments i) moment.cause
    → IsReservedSince r start moments i
