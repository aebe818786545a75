-- The row of the call table that a call is: what it makes of the parts is what the outcome makes of the machine.
use Rattle.std.specs.Prelude.{◌≡◌, ◌++◌, ℕ, Bool, List, map, Result, Ok, Err, if◌then◌else◌}
use Rattle.machine_model.specs.Calling.Calls.{call_at, call_table}
use Rattle.machine_model.specs.Calling.ServerCalls.{own_server_refusals}
use Rattle.machine_model.specs.Messaging.ReceiveCalls.{receive_served, try_receive_served}
use Rattle.machine_model.specs.Messaging.ReturnCalls.{return_memory_refusals, return_memory_served}
use Rattle.machine_model.specs.Messaging.ReturnCalls.{return_scalar_refusals, return_scalar_served}
use Rattle.machine_model.specs.State.Changes.{Change, Outcome, Refused, Served, call_settled, unless_refused}
use Rattle.machine_model.specs.State.Machine.{Machine}
use Rattle.machine_model.specs.Stepping.Step.{record_of}
use Rattle.sv32_space.specs.Tie.{Held}
use Rattle.syscall_codec.specs.CallWords.{call_number}
use Rattle.xk_base.specs.Log.{LogState}
use Rattle.xk_base.specs.declared.errors.XousError.{XousError}
use Rattle.xk_base.specs.declared.ids.Number.{Number}
use Rattle.xk_base.specs.declared.ids.Sid.{Sid}
use Rattle.xk_base.specs.declared.ids.ThreadId.{ThreadId}
use Rattle.xk_base.specs.declared.records.What.{What}
use Rattle.xk_parts.specs.Parts.{Parts, machine_at}

-- the log with these records of its step
abbrev pub log_with : List What → LogState → LogState
log_with told log = record log { records = log.records ++ map (record_of log.step) told }

-- The outcome is a change of the first machine, to which it led once its answers were given and its caller was past the call,
-- and exactly the records of it were added.
pub record IsServed (outcome : Outcome) (old new : Machine) (log_before log_after : LogState) : Type 0 where
  pub change : Change
  pub served : outcome ≡ Served change
  pub machine : new ≡ (call_settled old outcome).machine
  pub log : log_after ≡ log_with (call_settled old outcome).told log_before

-- A call of the thread is this row, whatever the rest of the machine is: it does all that comes of it, or answers the error of which
-- it is refused and changes nothing.
abbrev pub IsRow : {W A : Type 0} → (W → Held) → (Machine → Outcome) → ThreadId → Parts W → Parts W → Result A XousError → Type 0
IsRow held row who old new (Ok done) =
    (m : Machine) →
    let before = machine_at held who old m in
    IsServed (row before) before (machine_at held who new m) old.log new.log
IsRow held row who old new (Err error) = (new ≡ old) × ((m : Machine) → row (machine_at held who old m) ≡ Refused error)

-- ReceiveMessage, which waits where no message is queued, and TryReceiveMessage, which doesn't
abbrev pub receive_row : Sid → Bool → Machine → Outcome
receive_row sid wait m =
    unless_refused (own_server_refusals m sid) (Served (if wait then receive_served m sid else try_receive_served m sid))

-- the row of the call with these words
abbrev pub table_row : List ℕ → Machine → Outcome
table_row words m = call_at (call_number words) call_table m words

-- ReturnScalar1 and ReturnScalar2 of the message with that number, by these words for its sender
abbrev pub scalar_row : Number → List ℕ → Machine → Outcome
scalar_row number words m = unless_refused (return_scalar_refusals m number) (Served (return_scalar_served m number words))

-- ReturnMemory of the message with that number
abbrev pub memory_row : Number → ℕ → ℕ → ℕ → ℕ → Machine → Outcome
memory_row number address size offset valid m =
    unless_refused (return_memory_refusals m number address size) (Served (return_memory_served m number offset valid))
