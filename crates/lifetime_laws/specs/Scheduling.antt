-- How soon a thread that is Ready does its next step, if nothing comes but ticks of a bounded length.
use Rattle.std.specs.Prelude.{◌≡◌, ◌≢◌, ℕ, suc, ◌+◌, ◌-◌, ◌*◌, ◌<◌, ◌≤◌, ◌==◌, false, List, slice_get, Some}
use Rattle.std.specs.Bool.{⊤}
use Rattle.std.specs.List.{All}
use Rattle.xk_base.specs.declared.events.Event.{Event}
use Rattle.xk_base.specs.declared.events.Event.TheVariants.{Irq as IrqEvent, Kill, Pick, Tick}
use Rattle.xk_base.specs.declared.ids.ThreadId.{ThreadId}
use Rattle.xk_base.specs.declared.records.Rec.{Rec}
use Rattle.xk_base.specs.declared.records.What.{What}
use Rattle.xk_base.specs.declared.records.What.TheVariants.{Call, Reply, Retry, Byte, Fault, End, Irq, Gone}
use Rattle.syscall_codec.specs.CallNumbers.{yield_turn}
use Rattle.syscall_codec.specs.CallWords.{call_number}
use Rattle.xk_base.specs.Tables.Circle.{thread_ids}
use Rattle.machine_laws.specs.Records.{records_by}
use Rattle.machine_model.specs.Runs.Moments.{ByTurn, Moment, state_at}
use Rattle.machine_model.specs.State.Machine.{Machine}
use Rattle.transcript_laws.specs.Turns.{DoesStep, IsOrderKept, IsReadyThrough}

-- ---- the events

-- `tick N` with N from 1 to `most`
abbrev pub IsTickUpTo : ℕ → Event → Type 0
IsTickUpTo most (Tick n) = (1 ≤ n) × (n ≤ most)
IsTickUpTo most (Pick pid tid) = ⊥
IsTickUpTo most (IrqEvent k) = ⊥
IsTickUpTo most (Kill pid) = ⊥

-- .. and nothing else
abbrev pub AreTicksUpTo : ℕ → List Event → Type 0
AreTicksUpTo most events = All (IsTickUpTo most) events

-- ---- a thread that waits for its turn

-- a tick ends in moment i
abbrev pub IsTickEnd : List Moment → ℕ → Type 0
IsTickEnd moments i = (moment : Moment) × (slice_get moments i ≡ Some moment) × (moment.cause ≡ ByTurn)

-- The thread loses its turn. In moment i another thread gives it the turn: it yields, or its call is retried. That was the last step of
-- the tick, so that the end of the tick passes the turn on.
pub record LosesTurn (who : ThreadId) (start : Machine) (moments : List Moment) (i : ℕ) : Type 0 where
  pub other : ThreadId
  pub apart : other ≢ who
  pub step : DoesStep other start moments i
  pub given : (state_at start moments (suc i)).cursor ≡ who
  pub ends : IsTickEnd moments (suc i)

-- it doesn't, from the first moment to before the last
abbrev pub KeepsTurns : ThreadId → Machine → List Moment → ℕ → ℕ → Type 0
KeepsTurns who start moments first last = (i : ℕ) → first ≤ i → suc i < last → ¬ LosesTurn who start moments i

-- The thread waits for its turn: it is Ready all the while, no handler of an interrupt starts in another thread than the one that steps,
-- and it loses no turn.
pub record IsInLine (who : ThreadId) (start : Machine) (moments : List Moment) (first last : ℕ) : Type 0 where
  pub ready : IsReadyThrough who start moments first last
  pub order : IsOrderKept start moments first last
  pub turns : KeepsTurns who start moments first last

-- ---- turns that the records show to be kept

-- the record is no retry, no call of Yield and no start of a handler
abbrev pub KeepsTurn : What → Type 0
KeepsTurn (Call who words) = (call_number words == yield_turn) ≡ false
KeepsTurn (Reply who words) = ⊤
KeepsTurn (Retry who) = ⊥
KeepsTurn (Byte who byte) = ⊤
KeepsTurn (Fault who cause value) = ⊤
KeepsTurn (End who) = ⊤
KeepsTurn (Irq pid k) = ⊥
KeepsTurn (Gone pid) = ⊤

-- .. and so is each of the moments from the first to before the last
abbrev pub NobodyYields : Machine → List Moment → ℕ → ℕ → Type 0
NobodyYields start moments first last =
    (i : ℕ) (moment : Moment) → first ≤ i → i < last → slice_get moments i ≡ Some moment
    → All (λ (rec : Rec). KeepsTurn rec.what) (records_by moment.cause (state_at start moments i))

-- Then each thread that is Ready waits for its turn.
abbrev pub WaitsInLine : Machine → List Moment → Type 0
WaitsInLine start moments =
    (who : ThreadId) (first last : ℕ) → IsReadyThrough who start moments first last → NobodyYields start moments first last
    → IsInLine who start moments first last

-- ---- its next step

-- The most steps that come before that of a thread which waits for its turn: each other thread id has one turn of at most `most` steps.
abbrev pub steps_ahead : ℕ → ℕ → ℕ
steps_ahead most processes = most * (thread_ids processes - 1)

-- between the two moments the thread does a step, and at most so many steps come before it
pub record StepsWithin (who : ThreadId) (ahead : ℕ) (start : Machine) (moments : List Moment) (first last : ℕ) : Type 0 where
  pub at : ℕ
  pub from : first ≤ at
  pub until : at < last
  pub step : DoesStep who start moments at
  pub soon : (state_at start moments at).steps ≤ (state_at start moments first).steps + ahead

-- As soon as more steps are done, one of them was the thread's. So it is from whichever moment on a thread waits for its turn; nothing is
-- said of one that ceases to be Ready, or of a run that ends before, as at the step limit.
abbrev pub AreStepsFair : ℕ → Machine → List Moment → Type 0
AreStepsFair most start moments =
    (who : ThreadId) (first last : ℕ) → first ≤ last → IsInLine who start moments first last
    → (state_at start moments first).steps + steps_ahead most start.processes < (state_at start moments last).steps
    → StepsWithin who (steps_ahead most start.processes) start moments first last
