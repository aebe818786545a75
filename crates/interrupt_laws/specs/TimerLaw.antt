-- The timer's law over runs. Each arming raises at most once, and only in the step whose number is the compare value. It raises
-- there exactly where three things hold: that step is the arming step or a later one, the run reaches it, and from after the arming
-- up to and with that step's other effects nothing arms or disarms the timer, and the claim on its interrupt doesn't end. A run may
-- start armed, as one that was suspended does when it goes on: then the arming was before its first moment.
use Rattle.std.specs.Prelude.{◌≡◌, ℕ, zero, suc, ◌+◌, ◌≤◌, ◌⊎◌, ◌↔◌, true, is_some, List, slice_get, Some, None}
use Rattle.machine_model.specs.Runs.Moments.{ByStep, Moment, IsRun, state_at}
use Rattle.machine_model.specs.State.Machine.{Machine}
use Rattle.machine_model.specs.State.Order.{actor}
use Rattle.interrupt_laws.specs.Arming.{Arms, Disarms, EndsClaim, LeavesTimer}
use Rattle.interrupt_laws.specs.Raising.{IsRaise}

-- ---- moments of a run

-- moment i arms the timer with this compare value
pub record IsArming (compare : ℕ) (start : Machine) (moments : List Moment) (i : ℕ) : Type 0 where
  pub moment : Moment
  pub there : slice_get moments i ≡ Some moment
  pub arms : Arms compare (state_at start moments i) moment.cause

-- The timer was armed with this value before moment `place`, and last there: place 0 is that of a start in which it is armed, and
-- place i + 1 that of an arming in moment i.
abbrev pub IsArmedAt : ℕ → Machine → List Moment → ℕ → Type 0
IsArmedAt compare start moments zero = start.compare ≡ Some compare
IsArmedAt compare start moments (suc i) = IsArming compare start moments i

-- how many steps were done then: before the arming step, or at the start
abbrev pub steps_at : Machine → List Moment → ℕ → ℕ
steps_at start moments zero = start.steps
steps_at start moments (suc i) = (state_at start moments i).steps

-- moment j is the step of this number
pub record IsStepOf (number : ℕ) (start : Machine) (moments : List Moment) (j : ℕ) : Type 0 where
  pub moment : Moment
  pub there : slice_get moments j ≡ Some moment
  pub step : moment.cause ≡ ByStep
  pub acts : is_some (actor (state_at start moments j)) ≡ true
  pub numbered : (state_at start moments j).steps + 1 ≡ number

-- from moment `place` up to and with moment j nothing touches the timer
abbrev pub IsLeft : Machine → List Moment → ℕ → ℕ → Type 0
IsLeft start moments place j =
    (k : ℕ) (between : Moment) → place ≤ k → k ≤ j → slice_get moments k ≡ Some between → LeavesTimer (state_at start moments k) between

-- the timer raises in moment j
pub record IsRaising (start : Machine) (moments : List Moment) (j : ℕ) : Type 0 where
  pub moment : Moment
  pub there : slice_get moments j ≡ Some moment
  pub raise : IsRaise (state_at start moments j) moment.cause

-- the arming of the place raises in moment j: the timer raises there, and this is the last arming up to then
pub record IsRaisedBy (compare : ℕ) (start : Machine) (moments : List Moment) (place j : ℕ) : Type 0 where
  pub armed : IsArmedAt compare start moments place
  pub raising : IsRaising start moments j
  pub order : place ≤ j + 1
  pub last : (k : ℕ) (other : ℕ) → place ≤ k → k ≤ j → ¬ IsArming other start moments k

-- it is that of some arming
pub record IsRaisedByAny (start : Machine) (moments : List Moment) (j : ℕ) : Type 0 where
  pub compare : ℕ
  pub place : ℕ
  pub raised : IsRaisedBy compare start moments place j

-- ---- the law

-- what an arming needs to raise in moment j
pub record IsDueIn (compare : ℕ) (start : Machine) (moments : List Moment) (place j : ℕ) : Type 0 where
  -- 1. That step is the arming step or a later one.
  pub order : place ≤ j + 1
  -- 2. The run reaches it.
  pub reached : IsStepOf compare start moments j
  -- 3. Nothing touches the timer in between.
  pub left : IsLeft start moments place j

pub record TimerLaw (start : Machine) (moments : List Moment) : Type 0 where
  -- Each raise is that of an arming.
  pub by_an_arming : (j : ℕ) → IsRaising start moments j → IsRaisedByAny start moments j
  -- An arming raises at most once,
  pub once : (compare place j k : ℕ) → IsRaisedBy compare start moments place j → IsRaisedBy compare start moments place k → j ≡ k
  -- .. only in the step whose number is its compare value,
  pub only_there : (compare place j : ℕ) → IsRaisedBy compare start moments place j → IsStepOf compare start moments j
  -- .. and there exactly where the three things hold.
  pub exactly : (compare place j : ℕ) → IsArmedAt compare start moments place
      → IsRaisedBy compare start moments place j ↔ IsDueIn compare start moments place j
  -- Until then the timer stays armed with that value, as long as nothing touches it,
  pub stays : (compare place j : ℕ) (moment : Moment) → IsArmedAt compare start moments place → place ≤ j + 1
      → slice_get moments j ≡ Some moment → IsLeft start moments place j
      → ((k : ℕ) → k ≤ j → ¬ IsRaisedBy compare start moments place k) → moment.machine.compare ≡ Some compare
  -- .. and forever where the value is at or below the steps done.
  pub never_past : (compare place j : ℕ) → IsArmedAt compare start moments place → compare ≤ steps_at start moments place
      → ¬ IsRaisedBy compare start moments place j
  -- What disarms it, or ends the claim on its interrupt, leaves it without a value.
  pub disarmed : (j : ℕ) (moment : Moment) → slice_get moments j ≡ Some moment
      → Disarms (state_at start moments j) moment.cause ⊎ EndsClaim (state_at start moments j) moment.machine
      → moment.machine.compare ≡ None

-- so it is in every run
abbrev pub TimerHolds : Type 0
TimerHolds = (start : Machine) (moments : List Moment) → IsRun start moments → TimerLaw start moments

-- Where the start isn't armed, every arming is that of a moment.
abbrev pub ArmingsAreMoments : Type 0
ArmingsAreMoments =
    (start : Machine) (moments : List Moment) (compare place : ℕ) → start.compare ≡ None → IsArmedAt compare start moments place
    → (i : ℕ) × (place ≡ i + 1) × IsArming compare start moments i
