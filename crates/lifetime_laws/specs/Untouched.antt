-- A process that shares nothing is left as it is by all others.
use Rattle.std.specs.Prelude.{◌≡◌, ◌≢◌, ℕ, false, List, Some, slice_get}
use Rattle.std.specs.Bool.{⊤}
use Rattle.xk_base.specs.declared.ids.Number.{Number}
use Rattle.xk_base.specs.declared.ids.Pid.{Pid}
use Rattle.xk_base.specs.declared.ids.Place.{Place}
use Rattle.xk_base.specs.declared.ids.ThreadId.{ThreadId}
use Rattle.ledger_model.specs.Ledger.{PageLoan, loan_at}
use Rattle.machine_model.specs.Runs.Matched.{Matched, waits_for}
use Rattle.machine_model.specs.Runs.Moments.{ByIrq, ByKill, ByPick, ByStep, ByTurn, Cause, IsRun, Moment, caused, state_at}
use Rattle.machine_model.specs.State.Machine.{Claim, Machine, Server}
use Rattle.machine_model.specs.State.Order.{actor}

-- the process has no server, no message for whose answer a thread of it waits, no page on loan, and no claim of an interrupt
pub record SharesNothing (pid : Pid) (m : Machine) : Type 0 where
  pub servers : (n : ℕ) (server : Server) → m.servers n ≡ Some server → server.pid ≢ pid
  pub messages : (id : ThreadId) (number : Number) → id.pid ≡ pid → waits_for m.threads id number ≡ false
  pub loans : (p : Place) (loan : PageLoan) → loan_at m.ledger p ≡ Some loan → p.pid ≢ pid
  pub claims : (k : ℕ) (claim : Claim) → m.claims k ≡ Some claim → claim.pid ≢ pid

-- it is no step of a thread of the process, and no kill of it
abbrev pub IsOfOthers : Pid → Machine → Cause → Type 0
IsOfOthers pid m ByStep = (who : ThreadId) → actor m ≡ Some who → who.pid ≢ pid
IsOfOthers pid m (ByPick who) = ⊤
IsOfOthers pid m (ByIrq k) = ⊤
IsOfOthers pid m (ByKill other) = other ≢ pid
IsOfOthers pid m ByTurn = ⊤

-- Each page of the process stands where it stood with its right and its bytes, and no other came; each thread of it is as it was; and so are
-- its life, its heap and its connections.
pub record IsUntouched (pid : Pid) (m after : Machine) : Type 0 where
  pub pages : (p : Place) → p.pid ≡ pid → after.ledger.home p ≡ m.ledger.home p
  pub threads : (id : ThreadId) → id.pid ≡ pid → after.threads id ≡ m.threads id
  pub process : after.process pid.0 ≡ m.process pid.0

-- so it is after whatever others do from a matched state in which the process shares nothing
abbrev pub OthersLeaveIt : Type 0
OthersLeaveIt =
    (cause : Cause) (m : Machine) (pid : Pid) → Matched m → SharesNothing pid m → IsOfOthers pid m cause
    → IsUntouched pid m (caused cause m) × SharesNothing pid (caused cause m)

-- .. and at each moment of a run in which only others do anything
abbrev pub RunsOfOthersLeaveIt : Type 0
RunsOfOthersLeaveIt =
    (start : Machine) (moments : List Moment) (pid : Pid) → Matched start → SharesNothing pid start → IsRun start moments
    → ((j : ℕ) (moment : Moment) → slice_get moments j ≡ Some moment → IsOfOthers pid (state_at start moments j) moment.cause)
    → (i : ℕ) → IsUntouched pid start (state_at start moments i) × SharesNothing pid (state_at start moments i)
