-- Turns over a run: whose turn it is, and how the turns go round the circle of threads. A thread that is Ready gets its turn before any
-- other thread gets a second one, unless a pick or the handler of an interrupt takes a turn out of the order.
use Rattle.std.specs.Prelude.{◌≡◌, ◌≢◌, ℕ, ◌<◌, ◌≤◌, ◌⊎◌, true, false, List, [], replicate, Option, Some, None, slice_get}
use Rattle.std.specs.Bool.{⊤}
use Rattle.std.specs.List.{All}
use Rattle.xk_base.specs.declared.events.Event.{Event}
use Rattle.xk_base.specs.declared.ids.ThreadId.{ThreadId}
use Rattle.xk_base.specs.declared.records.Rec.{Rec}
use Rattle.xk_base.specs.declared.records.What.{What}
use Rattle.xk_base.specs.declared.records.What.TheVariants.{Call, Reply, Retry, Byte, Fault, End, Irq, Gone}
use Rattle.xk_base.specs.Tables.Circle.{same_thread}
use Rattle.machine_laws.specs.Records.{records_by}
use Rattle.machine_laws.specs.Interleaving.{picks_and_ticks}
use Rattle.machine_model.specs.Hart.Atomics.{execute_at}
use Rattle.machine_model.specs.Hart.Instructions.{Next}
use Rattle.machine_model.specs.Runs.Moments.{Cause, ByStep, ByPick, ByIrq, ByKill, ByTurn, Moment, caused, state_at}
use Rattle.machine_model.specs.State.Machine.{Machine, Ready, Thread}
use Rattle.machine_model.specs.State.Order.{actor, ready_at}
use Rattle.machine_model.specs.State.Threads.{thread_id}
use Rattle.machine_model.specs.State.Views.{memory_of}
use Rattle.machine_model.specs.Stepping.Step.{ends_handler, ends_thread}

-- ---- turns

-- the thread has the turn: if a step comes next, it is the thread's
abbrev pub HasTurn : ThreadId → Machine → Type 0
HasTurn who m = actor m ≡ Some who

-- a moment of the run is a step of the thread
pub record DoesStep (who : ThreadId) (start : Machine) (moments : List Moment) (i : ℕ) : Type 0 where
  pub moment : Moment
  pub there : slice_get moments i ≡ Some moment
  pub step : moment.cause ≡ ByStep
  pub turn : HasTurn who (state_at start moments i)

-- the thread is Ready in each state from the first moment to the second
abbrev pub IsReadyThrough : ThreadId → Machine → List Moment → ℕ → ℕ → Type 0
IsReadyThrough who start moments first second = (i : ℕ) → first ≤ i → i ≤ second → ready_at (state_at start moments i) who ≡ true

-- ---- the order of turns

-- A handler that starts is that of the thread which has the turn: it ends one handler and begins the next. Of other records nothing
-- is asked.
abbrev pub StartsNoOther : Machine → What → Type 0
StartsNoOther m (Call who words) = ⊤
StartsNoOther m (Reply who words) = ⊤
StartsNoOther m (Retry who) = ⊤
StartsNoOther m (Byte who byte) = ⊤
StartsNoOther m (Fault who cause value) = ⊤
StartsNoOther m (End who) = ⊤
StartsNoOther m (Irq pid k) = HasTurn (thread_id pid 1) m
StartsNoOther m (Gone pid) = ⊤

-- No turn is given out of its order: a pick leaves the cursor, an interrupt event starts no handler, and in a step the timer starts none
-- in another thread.
abbrev pub KeepsOrder : Cause → Machine → Type 0
KeepsOrder ByStep m = All (λ (rec : Rec). StartsNoOther m rec.what) (records_by ByStep m)
KeepsOrder (ByPick who) m = (caused (ByPick who) m).cursor ≡ m.cursor
KeepsOrder (ByIrq k) m = records_by (ByIrq k) m ≡ []
KeepsOrder (ByKill pid) m = ⊤
KeepsOrder ByTurn m = ⊤

-- .. by each moment from the first to before the second
abbrev pub IsOrderKept : Machine → List Moment → ℕ → ℕ → Type 0
IsOrderKept start moments first second =
    (i : ℕ) (moment : Moment) → first ≤ i → i < second → slice_get moments i ≡ Some moment
    → KeepsOrder moment.cause (state_at start moments i)

-- ---- fair turns

-- between the two moments the turn left the thread: another did a step, or the cursor went on
abbrev pub IsLeftBetween : ThreadId → Machine → List Moment → ℕ → ℕ → Type 0
IsLeftBetween who start moments first second =
    ((k : ℕ) × (other : ThreadId) × (first < k) × (k < second) × (other ≢ who) × DoesStep other start moments k)
    ⊎ ((k : ℕ) × (first < k) × (k ≤ second) × ((state_at start moments k).cursor ≢ who))

-- the thread does steps of two turns, one at the first moment and one at the second
pub record HasTwoTurns (who : ThreadId) (start : Machine) (moments : List Moment) (first second : ℕ) : Type 0 where
  pub later : first < second
  pub step : DoesStep who start moments first
  pub again : DoesStep who start moments second
  pub left : IsLeftBetween who start moments first second

-- one thread has two turns, and another is Ready all the while
pub record IsWaitedFor (who other : ThreadId) (start : Machine) (moments : List Moment) (first second : ℕ) : Type 0 where
  pub turns : HasTwoTurns who start moments first second
  pub ready : IsReadyThrough other start moments first second
  pub apart : who ≢ other
  pub order : IsOrderKept start moments first second

-- no turn of the thread ends with a tick before it did a step
abbrev pub IsTurnUsed : ThreadId → Machine → List Moment → ℕ → ℕ → Type 0
IsTurnUsed who start moments first second =
    (i : ℕ) (moment : Moment) → first ≤ i → i < second → slice_get moments i ≡ Some moment → moment.cause ≡ ByTurn
    → (state_at start moments i).cursor ≢ who

-- Between two turns of one thread each other thread that was Ready all the while had one; and it did a step in it, unless a tick ended
-- there.
pub record AreTurnsFair (start : Machine) (moments : List Moment) : Type 0 where
  pub turn : (who other : ThreadId) (first second : ℕ) → IsWaitedFor who other start moments first second
      → (k : ℕ) × (first < k) × (k < second) × HasTurn other (state_at start moments k)
  pub step : (who other : ThreadId) (first second : ℕ) → IsWaitedFor who other start moments first second
      → IsTurnUsed other start moments first second
      → (k : ℕ) × (first < k) × (k < second) × DoesStep other start moments k

-- ---- starved threads

-- The thread is Ready, and jumps to itself: whatever it has reserved, and however many steps are done, its step leaves its registers
-- and its pc.
pub record Spins (who : ThreadId) (m : Machine) : Type 0 where
  pub thread : Thread
  pub there : m.threads who ≡ Some thread
  pub ready : thread.state ≡ Ready
  pub thread_goes_on : ends_thread who thread.pc ≡ false
  pub handler_goes_on : ends_handler who thread.pc ≡ false
  pub jumps : (reserved : Option ℕ) (steps : ℕ)
      → (execute_at thread.regs thread.pc reserved (memory_of (record m { steps = steps }) who.pid)).executed
      ≡ Next thread.regs thread.pc

-- all the while a thread is Ready, and each step is that of another
pub record IsStarvedBy (who other : ThreadId) (start : Machine) (moments : List Moment) : Type 0 where
  pub ready : (i : ℕ) → ready_at (state_at start moments i) other ≡ true
  pub steps : (i : ℕ) (moment : Moment) → slice_get moments i ≡ Some moment → moment.cause ≡ ByStep → HasTurn who (state_at start moments i)

-- so many picks of the one thread, with a tick of one step behind each
abbrev pub picks_of : ThreadId → ℕ → List Event
picks_of who n = picks_and_ticks (replicate n who)

-- a thread that spins, and another that is Ready
pub record IsAtRisk (who other : ThreadId) (m : Machine) : Type 0 where
  pub spins : Spins who m
  pub unarmed : m.compare ≡ None
  pub ready : ready_at m other ≡ true
  pub apart : same_thread other who ≡ false
