-- The parts as lemmas take them, with those that a call takes at hand.
use Rattle.std.proofs.Common.{ℕ, List, Some, None}
use Rattle.machine_model.specs.State.Machine.{Machine}
use Rattle.msg_queue.specs.Seats.{Seat}
use Rattle.process_table.specs.declared.table.Processes.{Processes}
use Rattle.server_table.specs.declared.table.Servers.{Servers}
use Rattle.thread_table.specs.declared.table.Threads.{Threads}
use Rattle.vm_memory.specs.declared.memory.Memory.{Memory}
use Rattle.xk_base.specs.Log.{LogState}
use Rattle.xk_base.specs.declared.ids.ThreadId.{ThreadId}
use Rattle.xk_ports.specs.declared.store.SwapStore.{Ghosts as SwapStore}
use Rattle.xk_parts.specs.Parts.{Parts, Tables, machine_at}
use Rattle.xk_parts.specs.Shown.{processes_shown}
use Rattle.xk_parts.specs.Sound.{AreSound}

-- ---- the parts at hand

-- those that each call takes
pub record CallTables : Type 0 where
  pub threads : Threads
  pub servers : Servers
  pub queues : List Seat
  pub log : LogState

abbrev pub tables_of : Threads → Servers → List Seat → LogState → CallTables
tables_of threads servers queues log = record { threads = threads; servers = servers; queues = queues; log = log }

-- .. with the memory
pub record CallParts (W : Type 0) : Type 0 where
  pub mem : Memory W
  pub tables : CallTables

abbrev pub parts_of : {W : Type 0} → Memory W → Threads → Servers → List Seat → LogState → CallParts W
parts_of mem threads servers queues log = record { mem = mem; tables = tables_of threads servers queues log }

-- ---- what is taken

abbrev pub without_memory : CallTables → Tables
without_memory t = record { mem = None; threads = t.threads; procs = None; servers = t.servers; queues = t.queues; claims = None; log = t.log }

abbrev pub taken : {W : Type 0} → CallParts W → Parts W
taken p = record {
  mem = Some p.mem;
  threads = p.tables.threads;
  procs = None;
  servers = p.tables.servers;
  queues = p.tables.queues;
  claims = None;
  log = p.tables.log;
}

abbrev pub over : {W : Type 0} → Processes → CallParts W → Parts W
over procs p = record (taken p) { procs = Some procs }

-- ---- the machine

-- the one whose processes are those of the table
abbrev pub with_processes : Processes → Machine → Machine
with_processes procs m = record m { process = processes_shown procs }

-- .. and whose next accepted message gets the number
abbrev pub with_next : Processes → ℕ → Machine → Machine
with_next procs number m = record m { process = processes_shown procs; next_number = number }

-- ---- sound

-- the parts of a call that looks at connections too are sound without the processes
pub without_processes : {W : Type 0} (S : SwapStore W) (who : ThreadId) (procs : Processes) (parts : CallParts W)
    → AreSound S who (over procs parts) → AreSound S who (taken parts)
unfolding machine_at
without_processes S who procs parts s = record {
  machine = with_processes procs s.machine;
  matched = s.matched;
  mem = s.mem;
  processes = s.processes;
  procs = tt;
  seats = s.seats;
  loans = s.loans;
}
