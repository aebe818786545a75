-- The count of steps. While nobody has claimed the timer's interrupt it is a number that nobody reads: it stands in records alone.
use Rattle.std.specs.Prelude.{◌≡◌, ℕ, ◌+◌, true, is_some, map, None}
use Rattle.xk_base.specs.declared.ids.ThreadId.{ThreadId}
use Rattle.xk_base.specs.declared.limits.TheConstants.{TIMER_INTERRUPT}
use Rattle.xk_base.specs.declared.records.Rec.{Rec}
use Rattle.machine_model.specs.Runs.Matched.{Matched}
use Rattle.machine_model.specs.State.Machine.{Machine}
use Rattle.machine_model.specs.State.Order.{actor, ready_at}
use Rattle.machine_model.specs.Stepping.Step.{Recorded, step}
use Rattle.order_model.specs.Slices.{Slice, slice}

-- the state with this count of steps
abbrev pub with_count : ℕ → Machine → Machine
with_count n m = record m { steps = n }

-- nobody has claimed the timer's interrupt
abbrev pub IsUncounted : Machine → Type 0
IsUncounted m = m.claims TIMER_INTERRUPT ≡ None

-- the record with this number
abbrev pub numbered : ℕ → Rec → Rec
numbered n told = record told { step = n }

-- what was done, as the step of this number
abbrev pub recorded_as : ℕ → Recorded → Recorded
recorded_as n done = record { machine = with_count n done.machine; records = map (numbered n) done.records }

-- the same slice, begun after so many steps
abbrev pub slice_from : ℕ → Slice → Slice
slice_from n s = record {
  done = s.done;
  machine = with_count (n + s.done) s.machine;
  records = map (numbered (n + s.done)) s.records;
}

-- ---- laws

-- A step from the same state with another count does the same, but for the number in its records and the new count.
abbrev pub StepForgetsCount : Type 0
StepForgetsCount =
    (n : ℕ) (m : Machine) → Matched m → IsUncounted m → is_some (actor m) ≡ true
    → step (with_count n m) ≡ recorded_as (n + 1) (step m)

-- So does a slice.
abbrev pub SliceForgetsCount : Type 0
SliceForgetsCount =
    (quantum n : ℕ) (who : ThreadId) (m : Machine) → Matched m → IsUncounted m → ready_at m who ≡ true
    → slice quantum who (with_count n m) ≡ slice_from n (slice quantum who m)
