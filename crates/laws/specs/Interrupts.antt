-- Interrupts over histories: the balance of a number as it is read off the records and the last state, and who waits for an interrupt.
use Rattle.std.specs.Prelude.{◌≡◌, ℕ, ◌+◌, false, List, Some}
use Rattle.xk_base.specs.declared.events.Event.{Event}
use Rattle.xk_base.specs.declared.ids.Pid.{Pid}
use Rattle.xk_base.specs.declared.ids.ThreadId.{ThreadId}
use Rattle.machine_model.specs.Runs.Matched.{Matched}
use Rattle.machine_model.specs.Runs.Moments.{state_at}
use Rattle.machine_model.specs.State.Machine.{Claim, Idle, Machine, Thread}
use Rattle.machine_model.specs.State.Start.{IsStart}
use Rattle.machine_laws.specs.History.{history}
use Rattle.machine_laws.specs.HistoryMoments.{moments_of}
use Rattle.transcript_laws.specs.Stuck.{WaitsFor}
use Rattle.interrupt_laws.specs.Balance.{given_up, merges}
use Rattle.interrupt_laws.specs.Busy.{PendingMeansBusy}
use Rattle.interrupt_laws.specs.Delivering.{deliveries, once_if, raises}

-- ---- the balance

-- What was pending at the start and what is raised since is delivered by the records, merges, is given up, or is pending in the last
-- state.
abbrev pub IsHistoryBalanced : ℕ → List Event → ℕ → Machine → Type 0
IsHistoryBalanced k events limit start =
    once_if (start.pending k) + raises k start (moments_of events limit start)
    ≡ deliveries k (history events limit start).records + merges k start (moments_of events limit start)
    + given_up k start (moments_of events limit start) + once_if ((history events limit start).machine.pending k)

abbrev pub HistoriesAreBalanced : Type 0
HistoriesAreBalanced = (k : ℕ) (events : List Event) (limit : ℕ) (start : Machine) → Matched start → IsHistoryBalanced k events limit start

-- ---- who waits for an interrupt

-- no number that the process claimed is pending
abbrev pub HasNonePending : Machine → Pid → Type 0
HasNonePending m pid = (k : ℕ) (claim : Claim) → m.claims k ≡ Some claim → claim.pid ≡ pid → m.pending k ≡ false

-- Each Idle thread waits for an interrupt, and none that could be delivered to it is pending.
abbrev pub IdleMeansNothingPending : Machine → Type 0
IdleMeansNothingPending m =
    (who : ThreadId) (thread : Thread) → m.threads who ≡ Some thread → thread.state ≡ Idle
    → WaitsFor m who thread.state × HasNonePending m who.pid

-- So it is in each state of every history that begins at the start of a machine,
abbrev pub IdleSinceBoot : Type 0
IdleSinceBoot =
    (events : List Event) (limit : ℕ) (start : Machine) → IsStart start → (i : ℕ)
    → IdleMeansNothingPending (state_at start (moments_of events limit start) i)

-- .. and in its last state, so in one that is stuck.
abbrev pub IdleAtTheEnd : Type 0
IdleAtTheEnd =
    (events : List Event) (limit : ℕ) (start : Machine) → IsStart start
    → IdleMeansNothingPending (history events limit start).machine

-- It stays so from any matched state in which pending numbers have handlers that run.
abbrev pub IdleSinceBusy : Type 0
IdleSinceBusy =
    (events : List Event) (limit : ℕ) (start : Machine) → Matched start → PendingMeansBusy start → (i : ℕ)
    → IdleMeansNothingPending (state_at start (moments_of events limit start) i)
