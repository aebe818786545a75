-- Processes that wait for one another: each thread of them waits for what only a thread of them could do, and so waits for good.
use Rattle.std.specs.Prelude.{◌≡◌, ℕ, ◌≤◌, Bool, true, false, List, Some, slice_get}
use Rattle.std.specs.Bool.{⊤}
use Rattle.xk_base.specs.declared.ids.Number.{Number}
use Rattle.xk_base.specs.declared.ids.Pid.{Pid}
use Rattle.xk_base.specs.declared.ids.Serial.{Serial}
use Rattle.xk_base.specs.declared.ids.ThreadId.{ThreadId}
use Rattle.xk_base.specs.declared.messages.Message.{Message}
use Rattle.machine_model.specs.Messaging.MessageCounts.{count_in}
use Rattle.machine_model.specs.Messaging.Receivers.{receiving_at}
use Rattle.machine_model.specs.Runs.Matched.{Matched, is_sent_as, waits_for}
use Rattle.machine_model.specs.Runs.Moments.{ByIrq, ByKill, ByPick, ByStep, ByTurn, Cause, IsRun, Moment, caused, state_at}
use Rattle.machine_model.specs.State.Machine.{Claim, Machine, Server}
use Rattle.machine_model.specs.State.Order.{actor, ready_at}
use Rattle.machine_model.specs.State.Servers.{messages_of}
use Rattle.machine_model.specs.Stepping.Acts.{call_by}
use Rattle.noninterference_laws.specs.Claimant.{TimerStarts}
use Rattle.noninterference_laws.specs.Fates.{IsBrought, MadeCall}

-- ---- processes that wait

-- the message of that number, which the thread sent, is queued or held at a server of a process of the set
pub record IsAskedInside (set : Pid → Bool) (m : Machine) (who : ThreadId) (number : Number) : Type 0 where
  pub n : ℕ
  pub server : Server
  pub live : m.servers n ≡ Some server
  pub inside : set server.pid ≡ true
  pub has : 1 ≤ count_in (is_sent_as who number) (messages_of server)

-- The processes of the set wait for one another. In a matched state a thread of them waits for one of four things (`WaitsFor` of
-- `transcript_laws` Stuck): for an answer, which is asked of the set; for the end of a thread of its own process; for a message at a server of
-- its own process; or, as an interrupt thread, for an interrupt.
pub record WaitForOneAnother (set : Pid → Bool) (m : Machine) : Type 0 where
  -- no thread of them is Ready
  pub none_ready : (who : ThreadId) → set who.pid ≡ true → ready_at m who ≡ false
  -- who waits for the answer to a message waits for one of them
  pub answers : (who : ThreadId) (number : Number) → set who.pid ≡ true → waits_for m.threads who number ≡ true
      → IsAskedInside set m who number

-- ---- what could end it

-- the call of the next step sends or forwards a message to a server at which a thread of the set waits for one
pub record IsSentInside (set : Pid → Bool) (m : Machine) : Type 0 where
  pub made : MadeCall
  pub acts : actor m ≡ Some made.who
  pub calls : call_by m made.who ≡ Some made.words
  pub serial : Serial
  pub message : Message
  pub brought : IsBrought m made serial message
  pub receiver : ThreadId
  pub inside : set receiver.pid ≡ true
  pub receives : receiving_at m serial receiver ≡ true

-- the next step brings no such message, and the timer starts no handler of them in it
pub record StepLeavesInside (set : Pid → Bool) (m : Machine) : Type 0 where
  pub unsent : ¬ IsSentInside set m
  pub untimed : (who : ThreadId) → set who.pid ≡ true → ¬ TimerStarts m who

-- nothing comes from outside: neither of these, no interrupt that one of them claimed, and no kill of one of them
abbrev pub LeavesInside : (Pid → Bool) → Machine → Cause → Type 0
LeavesInside set m ByStep = StepLeavesInside set m
LeavesInside set m (ByPick who) = ⊤
LeavesInside set m (ByIrq k) = (claim : Claim) → m.claims k ≡ Some claim → set claim.pid ≡ false
LeavesInside set m (ByKill pid) = set pid ≡ false
LeavesInside set m ByTurn = ⊤

-- ---- the law

-- each thread of them is as it was, so that it waits for the same; and they wait for one another still
pub record StillWait (set : Pid → Bool) (m after : Machine) : Type 0 where
  pub threads : (who : ThreadId) → set who.pid ≡ true → after.threads who ≡ m.threads who
  pub waits : WaitForOneAnother set after

-- so it is after whatever leads from a matched state
abbrev pub DeadlockStays : Type 0
DeadlockStays =
    (cause : Cause) (m : Machine) (set : Pid → Bool) → Matched m → WaitForOneAnother set m → LeavesInside set m cause
    → StillWait set m (caused cause m)

-- .. and in each state of a run
abbrev pub DeadlocksLast : Type 0
DeadlocksLast =
    (start : Machine) (moments : List Moment) (set : Pid → Bool) → Matched start → WaitForOneAnother set start → IsRun start moments
    → ((j : ℕ) (moment : Moment) → slice_get moments j ≡ Some moment → LeavesInside set (state_at start moments j) moment.cause)
    → (i : ℕ) → StillWait set start (state_at start moments i)
