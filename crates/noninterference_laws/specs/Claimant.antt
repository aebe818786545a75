-- The process that claimed the timer's interrupt: what the steps of other processes make of its interrupt thread and of its pending
-- numbers. Before the timer comes, nothing of it is excepted. The timer starts its handler only in a step in which the timer is due and
-- the thread is Idle, and then as an event would.
use Rattle.std.specs.Prelude.{◌≡◌, ◌≢◌, ℕ, true, false, List, slice_get, Some, None}
use Rattle.xk_base.specs.declared.events.Event.{Event}
use Rattle.xk_base.specs.declared.ids.Pid.{Pid}
use Rattle.xk_base.specs.declared.ids.ThreadId.{ThreadId}
use Rattle.xk_base.specs.declared.limits.TheConstants.{TIMER_INTERRUPT}
use Rattle.machine_model.specs.Runs.Matched.{Matched}
use Rattle.machine_model.specs.Runs.Moments.{ByStep, Moment, state_at}
use Rattle.machine_model.specs.State.Machine.{Claim, Machine}
use Rattle.machine_model.specs.State.Order.{actor}
use Rattle.machine_model.specs.State.Threads.{handler_thread, thread_id}
use Rattle.machine_model.specs.Stepping.Acts.{does_instruction}
use Rattle.machine_model.specs.Stepping.Events.{killed, raised}
use Rattle.machine_model.specs.Stepping.Interrupts.{is_free_for_interrupt}
use Rattle.machine_model.specs.Stepping.Step.{step}
use Rattle.machine_laws.specs.HistoryMoments.{moments_of}
use Rattle.interrupt_laws.specs.Raising.{IsRaise, other_effects}
use Rattle.noninterference_laws.specs.Causes.{by_kill, by_step}
use Rattle.noninterference_laws.specs.Fates.{ThreadFate}

-- ---- the exception

-- In the next step the timer is due, and after its other effects this is the claimant's interrupt thread, Idle.
pub record TimerStarts (m : Machine) (id : ThreadId) : Type 0 where
  pub raise : IsRaise m ByStep
  pub claim : Claim
  pub claimed : (other_effects m).claims TIMER_INTERRUPT ≡ Some claim
  pub thread : id ≡ thread_id claim.pid 1
  pub idle : is_free_for_interrupt (other_effects m) claim.pid ≡ true

-- ---- what is kept

-- what becomes of another's thread: an instruction leaves it, and any other step gives it a fate with a cause
pub record KeepsThread (who : ThreadId) (m : Machine) (id : ThreadId) (after : Machine) : Type 0 where
  pub instruction : does_instruction m who ≡ true → after.threads id ≡ m.threads id
  pub other : does_instruction m who ≡ false → ThreadFate (by_step who m) after.servers id (after.threads id)

-- The other effects of a step keep each thread of another process, the claimant's too,
abbrev pub EffectsKeepThreads : Type 0
EffectsKeepThreads =
    (m : Machine) (who id : ThreadId) → Matched m → actor m ≡ Some who → id.pid ≢ who.pid → KeepsThread who m id (other_effects m)

-- .. and so does the whole step, unless the timer starts the thread in it.
abbrev pub KeepsAllThreads : Machine → Machine → Type 0
KeepsAllThreads m after =
    (who id : ThreadId) → actor m ≡ Some who → id.pid ≢ who.pid → ¬ TimerStarts m id → KeepsThread who m id after

abbrev pub StepsKeepThreads : Type 0
StepsKeepThreads = (m : Machine) → Matched m → KeepsAllThreads m (step m).machine

-- So it is in each step of every history from a matched start.
abbrev pub HistoriesKeepThreads : Type 0
HistoriesKeepThreads =
    (events : List Event) (limit : ℕ) (start : Machine) → Matched start → (i : ℕ) (moment : Moment)
    → slice_get (moments_of events limit start) i ≡ Some moment → moment.cause ≡ ByStep
    → KeepsAllThreads (state_at start (moments_of events limit start) i) moment.machine

-- A step leaves which numbers of other processes are pending, the claimant's too, unless the timer is due in it.
abbrev pub StepsKeepPending : Type 0
StepsKeepPending =
    (m : Machine) (who : ThreadId) (k : ℕ) (claim : Claim) → Matched m → actor m ≡ Some who → m.claims k ≡ Some claim → claim.pid ≢ who.pid
    → ¬ IsRaise m ByStep → (step m).machine.pending k ≡ m.pending k

-- A kill, in which no timer comes, keeps each thread of other processes, and which of their numbers are pending.
pub record KillKeeps (pid : Pid) (m : Machine) : Type 0 where
  pub threads : (id : ThreadId) → id.pid ≢ pid
      → ThreadFate (by_kill pid m) (killed pid m).machine.servers id ((killed pid m).machine.threads id)
  pub pending : (k : ℕ) (claim : Claim) → m.claims k ≡ Some claim → claim.pid ≢ pid → (killed pid m).machine.pending k ≡ m.pending k

abbrev pub KillsKeepClaimants : Type 0
KillsKeepClaimants = (pid : Pid) (m : Machine) → Matched m → KillKeeps pid m

-- ---- what the timer starts

-- The thread begins the handler of a number that its process claimed.
pub record BeginsHandler (m : Machine) (id : ThreadId) : Type 0 where
  pub number : ℕ
  pub claim : Claim
  pub claimed : (other_effects m).claims number ≡ Some claim
  pub own : claim.pid ≡ id.pid
  pub begins : (step m).machine.threads id ≡ Some (handler_thread number claim)
  -- the step is its other effects, and then the event of the timer's interrupt, but for the reservation
  pub event : (step m).machine
      ≡ record (raised TIMER_INTERRUPT (record (other_effects m) { compare = None })).machine { reserved = (other_effects m).reserved }

-- If the timer starts the thread, it begins a handler of its process, as by an event.
abbrev pub TimerStartsHandlers : Type 0
TimerStartsHandlers = (m : Machine) (id : ThreadId) → TimerStarts m id → BeginsHandler m id
