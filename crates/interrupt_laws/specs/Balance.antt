-- No interrupt is lost: the balance of a number over a run. Each raise is delivered, or merges with one that is pending, or is given
-- up as the claim ends, or is pending at the end.
use Rattle.std.specs.Prelude.{◌≡◌, ℕ, ◌+◌, ◌==◌, ◌&&◌, not, is_some, List, [], ◌∷◌, length}
use Rattle.xk_base.specs.declared.limits.TheConstants.{TIMER_INTERRUPT}
use Rattle.machine_model.specs.Runs.Matched.{Matched}
use Rattle.machine_model.specs.Runs.Moments.{Cause, ByStep, ByPick, ByIrq, ByKill, ByTurn, Moment, IsRun, state_at}
use Rattle.machine_model.specs.State.Machine.{Machine}
use Rattle.machine_laws.specs.Records.{records_of}
use Rattle.interrupt_laws.specs.Raising.{other_effects}
use Rattle.interrupt_laws.specs.Delivering.{deliveries, once_if, raises, timer_raises}

-- ---- raises that merge

-- how often a raise finds the number pending in a moment: the two are one from then on
abbrev pub merges_in : ℕ → Cause → Machine → ℕ
merges_in k ByStep m = once_if (((TIMER_INTERRUPT == k) && timer_raises m) && (other_effects m).pending k)
merges_in k (ByPick who) m = 0
merges_in k (ByIrq number) m = once_if (((number == k) && is_some (m.claims number)) && m.pending k)
merges_in k (ByKill pid) m = 0
merges_in k ByTurn m = 0

-- .. and in a run
unfoldable pub merges : ℕ → Machine → List Moment → ℕ
merges k start [] = 0
merges k start (moment ∷ moments) = merges_in k moment.cause start + merges k moment.machine moments

-- ---- raises that are given up

-- how often the number is given up from one state to the next: it was pending, and afterwards nobody has claimed it
abbrev pub given_up_in : ℕ → Machine → Machine → ℕ
given_up_in k before after = once_if (before.pending k && not (is_some (after.claims k)))

-- .. and in a run
unfoldable pub given_up : ℕ → Machine → List Moment → ℕ
given_up k start [] = 0
given_up k start (moment ∷ moments) = given_up_in k start moment.machine + given_up k moment.machine moments

-- ---- the law

-- What was pending at the start and what is raised since, on the one side, and where it is, on the other. None of these terms is read
-- off another, so a raise that vanishes breaks it.
abbrev pub IsBalanced : ℕ → Machine → List Moment → Type 0
IsBalanced k start moments =
    once_if (start.pending k) + raises k start moments
    ≡ deliveries k (records_of start moments) + merges k start moments + given_up k start moments
    + once_if ((state_at start moments (length moments)).pending k)

-- So it is of every number and every run from a matched start.
abbrev pub NoInterruptIsLost : Type 0
NoInterruptIsLost = (k : ℕ) (start : Machine) (moments : List Moment) → Matched start → IsRun start moments → IsBalanced k start moments
