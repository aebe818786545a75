-- The state in which a run starts.
use Rattle.std.specs.Prelude.{ℕ, ◌==◌, false, List, [], length, Option, Some, None, if◌then◌else◌}
use Rattle.std.specs.Option.{option_and_then}
use Rattle.boot_plan.specs.Capacity.{capacity}
use Rattle.boot_plan.specs.declared.plans.BootPlan.{BootPlan}
use Rattle.machine_model.specs.State.Machine.{Machine, Thread}
use Rattle.machine_model.specs.State.Threads.{first_thread, first_handler_thread}
use Rattle.vm_memory.specs.FirstLedger.{first_ledger, process_of}
use Rattle.xk_base.specs.declared.ids.ThreadId.{ThreadId}
use Rattle.xk_base.specs.Tables.Circle.{is_pid}

-- the threads with which a process with that entry starts: thread 1 is the interrupt thread and thread 2 the first thread
abbrev pub first_threads : ℕ → ℕ → Option Thread
first_threads entry tid =
    if tid == 1 then Some first_handler_thread else (if tid == 2 then Some (first_thread entry) else None)

-- .. and those of all processes of the plan
abbrev pub threads_at_start : BootPlan → ThreadId → Option Thread
threads_at_start plan id = option_and_then (λ process. first_threads process.entry id.tid.0) (process_of plan id.pid.0)

-- The start: all processes are alive, with empty heaps and no connection; it is the turn of the first thread of the
-- first process; there is no server, no message and no claim, no step was done, the timer isn't armed, and nothing is reserved.
unfoldable pub start : BootPlan → List ℕ → Machine
start plan file = record {
  capacity = capacity plan.frames (length plan.procs) plan.slots;
  processes = length plan.procs;
  ledger = first_ledger plan file;
  steps = 0;
  cursor = record { pid = record { 0 = 2 }; tid = record { 0 = 2 } };
  threads = threads_at_start plan;
  process = λ pid. record { alive = is_pid (length plan.procs) pid; heap = 0; connections = [] };
  servers = λ serial. None;
  claims = λ number. None;
  pending = λ number. false;
  next_number = 1;
  next_serial = 1;
  compare = None;
  reserved = None;
}
