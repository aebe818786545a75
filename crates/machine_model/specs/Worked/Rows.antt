-- How the worked rows are played: what is told of calls and events, one after another, on a small machine.
use Rattle.std.specs.Prelude.{ℕ, ◌==◌, false, List, [], ◌∷◌, ◌++◌, map, if◌then◌else◌, Option, Some, None}
use Rattle.xk_base.specs.declared.ids.Pid.{Pid}
use Rattle.xk_base.specs.declared.ids.ThreadId.{ThreadId}
use Rattle.xk_base.specs.declared.records.Rec.{Rec}
use Rattle.xk_base.specs.declared.records.What.{What}
use Rattle.xk_base.specs.Tables.Circle.{is_pid}
use Rattle.syscall_codec.specs.ReplyWords.{eight_words}
use Rattle.ledger_model.specs.Ledger.{empty_ledger}
use Rattle.machine_model.specs.Calling.Calls.{call}
use Rattle.machine_model.specs.State.Changes.{Told, settled, call_settled}
use Rattle.machine_model.specs.Ending.Ends.{handler_ended}
use Rattle.machine_model.specs.Stepping.Events.{raised, killed}
use Rattle.machine_model.specs.State.Machine.{Machine, Thread}
use Rattle.machine_model.specs.Stepping.Step.{Recorded}
use Rattle.machine_model.specs.State.Threads.{thread_id, first_thread, first_handler_thread}

abbrev pub pid_of : ℕ → Pid
pid_of n = record { 0 = n }

abbrev pub id_of : ℕ → ℕ → ThreadId
id_of pid tid = thread_id (pid_of pid) tid

-- of n processes each has its idle interrupt thread and its first thread, at 0x10000
abbrev pub small_threads : ℕ → ThreadId → Option Thread
small_threads n id =
    if is_pid n id.pid.0
    then (if id.tid.0 == 1 then Some first_handler_thread else (if id.tid.0 == 2 then Some (first_thread 65536) else None))
    else None

-- n processes, each with its first thread, and room for 16 pages
unfoldable pub small_machine : ℕ → Machine
small_machine n = record {
  capacity = 16;
  processes = n;
  ledger = empty_ledger;
  steps = 0;
  cursor = id_of 2 2;
  threads = small_threads n;
  process = λ pid. record { alive = is_pid n pid; heap = 0; connections = [] };
  servers = λ serial. None;
  claims = λ number. None;
  pending = λ number. false;
  next_number = 1;
  next_serial = 1;
  compare = None;
  reserved = None;
}

-- a call by a thread, of these words and zeros; an interrupt; the end of a process's handler; a kill
pub data Deed : Type 0 where
  Calls : ThreadId → List ℕ → Deed
  Raises : ℕ → Deed
  EndsHandler : Pid → Deed
  Kills : Pid → Deed

abbrev pub what_of : Rec → What
what_of r = r.what

-- a step or an event without the numbers of its records
abbrev pub told_of : Recorded → Told
told_of s = record { machine = s.machine; told = map what_of s.records }

-- a call of the cursor's thread, without the fetch of its ECALL
abbrev pub called : Machine → List ℕ → Told
called m words = call_settled m (call m words)

abbrev pub done : Deed → Machine → Told
done (Calls who words) m = called (record m { cursor = who }) (eight_words words)
done (Raises k) m = told_of (raised k m)
done (EndsHandler pid) m = settled (handler_ended pid m)
done (Kills pid) m = told_of (killed pid m)

-- what is told of the deeds, one after another
unfoldable pub told_all : List Deed → Machine → List What
told_all [] m = []
told_all (deed ∷ deeds) m = (done deed m).told ++ told_all deeds (done deed m).machine

-- the machine after them
unfoldable pub after_all : List Deed → Machine → Machine
after_all [] m = m
after_all (deed ∷ deeds) m = after_all deeds (done deed m).machine
