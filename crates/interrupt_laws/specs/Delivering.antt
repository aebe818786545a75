-- Interrupts over a run: how often a number is raised, and how often it is delivered.
use Rattle.std.specs.Prelude.{◌≡◌, ℕ, ◌+◌, ◌≤◌, ◌==◌, Bool, true, false, ◌&&◌, is_some, List, [], ◌∷◌, count_by, length, if◌then◌else◌}
use Rattle.xk_base.specs.declared.limits.TheConstants.{TIMER_INTERRUPT}
use Rattle.xk_base.specs.declared.records.Rec.{Rec}
use Rattle.xk_base.specs.declared.records.What.{What}
use Rattle.xk_base.specs.declared.records.What.TheVariants.{Irq}
use Rattle.machine_model.specs.Runs.Matched.{Matched}
use Rattle.machine_model.specs.Runs.Moments.{Cause, ByStep, ByPick, ByIrq, ByKill, ByTurn, Moment, IsRun, state_at}
use Rattle.machine_model.specs.State.Machine.{Machine}
use Rattle.machine_model.specs.State.Order.{actor}
use Rattle.machine_model.specs.Stepping.Timer.{is_due}
use Rattle.machine_laws.specs.Records.{records_of}
use Rattle.interrupt_laws.specs.Raising.{other_effects}

-- once where the test holds
abbrev pub once_if : Bool → ℕ
once_if b = if b then 1 else 0

-- ---- deliveries

-- the record tells that the number is delivered
abbrev pub is_delivery : ℕ → What → Bool
is_delivery k (Irq pid number) = number == k
is_delivery k _ = false

-- how often the records tell it
abbrev pub deliveries : ℕ → List Rec → ℕ
deliveries k records = count_by (λ rec. is_delivery k rec.what) records

-- ---- raises

-- the next step is one that the timer raises its interrupt in
abbrev pub timer_raises : Machine → Bool
timer_raises m = is_some (actor m) && is_due (other_effects m).compare (other_effects m).steps

-- how often the number is raised in a moment: by an event, where it is claimed, or by the timer
abbrev pub raises_in : ℕ → Cause → Machine → ℕ
raises_in k ByStep m = once_if ((TIMER_INTERRUPT == k) && timer_raises m)
raises_in k (ByPick who) m = 0
raises_in k (ByIrq number) m = once_if ((number == k) && is_some (m.claims number))
raises_in k (ByKill pid) m = 0
raises_in k ByTurn m = 0

-- .. and in a run
unfoldable pub raises : ℕ → Machine → List Moment → ℕ
raises k start [] = 0
raises k start (moment ∷ moments) = raises_in k moment.cause start + raises k moment.machine moments

-- ---- the laws

-- A run delivers no number more often than it raises it, and what is pending at its end is a raise that isn't delivered. A number
-- that is pending at the start was raised once before. The front of a run is one too, so this holds at each of its moments.
abbrev pub DeliveredAtMostOnce : Type 0
DeliveredAtMostOnce =
    (k : ℕ) (start : Machine) (moments : List Moment) → IsRun start moments
    → deliveries k (records_of start moments) + once_if ((state_at start moments (length moments)).pending k)
    ≤ raises k start moments + once_if (start.pending k)

-- A pending number is claimed.
abbrev pub PendingAreClaimed : Type 0
PendingAreClaimed =
    (k : ℕ) (start : Machine) (moments : List Moment) (i : ℕ) → Matched start → IsRun start moments
    → (state_at start moments i).pending k ≡ true → is_some ((state_at start moments i).claims k) ≡ true
