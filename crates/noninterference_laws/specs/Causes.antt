-- Integrity over runs and histories: what each moment leaves and keeps of others, whatever leads to it.
use Rattle.std.specs.Prelude.{◌≡◌, ℕ, Bool, true, false, List, Some, None, slice_get}
use Rattle.std.specs.Option.{option_map, option_map_or}
use Rattle.xk_base.specs.declared.events.Event.{Event}
use Rattle.xk_base.specs.declared.ids.Pid.{Pid}
use Rattle.xk_base.specs.declared.ids.ThreadId.{ThreadId}
use Rattle.xk_base.specs.Tables.Circle.{same_thread}
use Rattle.machine_model.specs.Runs.Matched.{Matched}
use Rattle.machine_model.specs.Runs.Moments.{ByIrq, ByKill, ByPick, ByStep, ByTurn, Cause, Moment, caused, state_at}
use Rattle.machine_model.specs.State.Machine.{Claim, Machine}
use Rattle.machine_model.specs.State.Order.{actor}
use Rattle.machine_model.specs.State.Threads.{thread_id}
use Rattle.machine_model.specs.Stepping.Acts.{call_by, does_instruction}
use Rattle.machine_laws.specs.HistoryMoments.{moments_of}
use Rattle.noninterference_laws.specs.Integrity.{LeavesOthers}
use Rattle.noninterference_laws.specs.Fates.{Doing}
use Rattle.noninterference_laws.specs.KeptOthers.{KeepsOthers}

-- ---- by a process

-- the step of the thread, by the call that it makes, where it makes one
abbrev pub by_step : ThreadId → Machine → Doing
by_step who m = record { pid = who.pid; call = option_map (λ words. record { who = who; words = words }) (call_by m who); before = m }

-- the death of a process by a kill
abbrev pub by_kill : Pid → Machine → Doing
by_kill pid m = record { pid = pid; call = None; before = m }

-- an instruction leaves what is another's; a system call, a fault and an end keep it
pub record StepKeepsOthers (who : ThreadId) (m after : Machine) : Type 0 where
  pub instruction : does_instruction m who ≡ true → LeavesOthers who.pid m after
  pub other : does_instruction m who ≡ false → KeepsOthers (by_step who m) after

-- ---- by no process

-- tid 1 of the process that claimed the interrupt, whose handler may start
abbrev pub is_of_claimant : ℕ → Machine → ThreadId → Bool
is_of_claimant k m id = option_map_or (λ claim. same_thread id (thread_id claim.pid 1)) (m.claims k) false

-- all is as before, but for threads that pass the test
pub record LeavesAll (started : ThreadId → Bool) (m after : Machine) : Type 0 where
  pub threads : (id : ThreadId) → started id ≡ false → after.threads id ≡ m.threads id
  pub process : after.process ≡ m.process
  pub claims : after.claims ≡ m.claims
  pub servers : after.servers ≡ m.servers
  pub ledger : after.ledger ≡ m.ledger
  -- which numbers are pending, but for those of the process whose interrupt thread passes
  pub pending : (k : ℕ) (claim : Claim) → m.claims k ≡ Some claim → started (thread_id claim.pid 1) ≡ false → after.pending k ≡ m.pending k

-- ---- whatever it is

abbrev pub OthersAt : Cause → Machine → Machine → Type 0
OthersAt ByStep m after = (who : ThreadId) → actor m ≡ Some who → StepKeepsOthers who m after
OthersAt (ByPick who) m after = LeavesAll (λ id. false) m after
OthersAt (ByIrq k) m after = LeavesAll (is_of_claimant k m) m after
OthersAt (ByKill pid) m after = KeepsOthers (by_kill pid m) after
OthersAt ByTurn m after = LeavesAll (λ id. false) m after

-- ---- the laws

abbrev pub AllKeepOthers : Type 0
AllKeepOthers = (cause : Cause) (m : Machine) → Matched m → OthersAt cause m (caused cause m)

-- .. at each moment of a history
abbrev pub HistoriesKeepOthers : Type 0
HistoriesKeepOthers =
    (events : List Event) (limit : ℕ) (start : Machine) → Matched start → (i : ℕ) (moment : Moment)
    → slice_get (moments_of events limit start) i ≡ Some moment
    → OthersAt moment.cause (state_at start (moments_of events limit start) i) moment.machine
