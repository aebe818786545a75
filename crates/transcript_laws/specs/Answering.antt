-- Who is answered: a reply comes to a thread that waits for one, or to the caller in the step of its call; and what a served call leaves
-- of who waits.
use Rattle.std.specs.Prelude.{◌≡◌, ℕ, ◌⊎◌, Bool, true, false, is_some, List, Option, Some, None}
use Rattle.std.specs.Bool.{⊤}
use Rattle.std.specs.List.{All}
use Rattle.std.specs.Option.{option_map_or}
use Rattle.xk_base.specs.declared.ids.ThreadId.{ThreadId}
use Rattle.xk_base.specs.declared.records.Rec.{Rec}
use Rattle.xk_base.specs.declared.records.What.{What}
use Rattle.xk_base.specs.declared.records.What.TheVariants.{Call, Reply, Retry, Byte, Fault, End, Irq, Gone}
use Rattle.xk_base.specs.Tables.Circle.{same_thread}
use Rattle.machine_laws.specs.Records.{records_by}
use Rattle.machine_model.specs.Calling.Calls.{call}
use Rattle.machine_model.specs.Ending.Ends.{death}
use Rattle.machine_model.specs.Runs.Matched.{Matched}
use Rattle.machine_model.specs.Runs.Moments.{Cause, ByStep}
use Rattle.machine_model.specs.State.Changes.{Change, Served}
use Rattle.machine_model.specs.State.Machine.{Machine, Thread, ThreadState, Ready, Receiving, Waiting, Joining, Idle}
use Rattle.machine_model.specs.State.Order.{actor, ready_at}
use Rattle.machine_model.specs.Stepping.Acts.{call_by}

-- a thread in this state waits for the reply to its last call: with a message, an answer, or the end of a thread
abbrev pub awaits_reply : ThreadState → Bool
awaits_reply Ready = false
awaits_reply (Receiving serial) = true
awaits_reply (Waiting number) = true
awaits_reply (Joining tid) = true
awaits_reply Idle = false

-- there is a thread, and it waits so
abbrev pub is_waiting : Option Thread → Bool
is_waiting o = option_map_or (λ t. awaits_reply t.state) o false

-- ---- what a served call leaves

-- Beside the caller only threads that wait are answered. The caller is answered, or it waits. Before the answers are given, no other
-- thread begins or ceases to wait; a new one doesn't wait. No process dies.
pub record AnswersWhoWaits (m : Machine) (change : Change) : Type 0 where
  pub others : (id : ThreadId) → same_thread id m.cursor ≡ false → is_some (change.answers id) ≡ true → is_waiting (m.threads id) ≡ true
  pub caller : (is_some (change.answers m.cursor) ≡ true) ⊎ (is_waiting (change.machine.threads m.cursor) ≡ true)
  pub threads : (id : ThreadId) → same_thread id m.cursor ≡ false → is_waiting (change.machine.threads id) ≡ is_waiting (m.threads id)
  pub alive : (pid : ℕ) → (change.machine.process pid).alive ≡ (m.process pid).alive
  pub gone : change.gone ≡ None

-- so it is of every served call but the one that ends the caller's process
abbrev pub CallsAnswerWhoWaits : Type 0
CallsAnswerWhoWaits =
    (m : Machine) (words : List ℕ) (change : Change) → Matched m → ready_at m m.cursor ≡ true → call m words ≡ Served change
    → AnswersWhoWaits m change ⊎ (change ≡ death m.cursor.pid m)

-- ---- replies

-- what leads from the state is a step in which the thread makes a system call
pub record IsCaller (who : ThreadId) (m : Machine) (cause : Cause) : Type 0 where
  pub step : cause ≡ ByStep
  pub acts : actor m ≡ Some who
  pub calls : is_some (call_by m who) ≡ true

-- a reply is to a thread that waits in the state before, or to the caller of the step; of other records nothing is asked
abbrev pub IsReplyDue : Machine → Cause → What → Type 0
IsReplyDue m cause (Call who words) = ⊤
IsReplyDue m cause (Reply who words) = (is_waiting (m.threads who) ≡ true) ⊎ IsCaller who m cause
IsReplyDue m cause (Retry who) = IsCaller who m cause
IsReplyDue m cause (Byte who byte) = ⊤
IsReplyDue m cause (Fault who kind value) = ⊤
IsReplyDue m cause (End who) = ⊤
IsReplyDue m cause (Irq pid k) = ⊤
IsReplyDue m cause (Gone pid) = ⊤

-- .. of whatever leads from a matched state
abbrev pub RepliesAreDue : Type 0
RepliesAreDue = (cause : Cause) (m : Machine) → Matched m → All (λ (rec : Rec). IsReplyDue m cause rec.what) (records_by cause m)
