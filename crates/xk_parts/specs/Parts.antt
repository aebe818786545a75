-- The parts of a kernel, and the machine that they stand for.
use Rattle.std.specs.Prelude.{ℕ, false, List, Option, Some, None}
use Rattle.std.specs.Option.{option_map_or}
use Rattle.irq_claims.specs.declared.claims.Claims.{Claims}
use Rattle.ledger_model.specs.Ledger.{empty_ledger}
use Rattle.machine_model.specs.Ending.Ends.{dead_process}
use Rattle.machine_model.specs.State.Machine.{Machine, Reservation}
use Rattle.msg_queue.specs.Seats.{Seat}
use Rattle.process_table.specs.declared.table.Processes.{Processes}
use Rattle.server_table.specs.ServersOf.{servers_of}
use Rattle.server_table.specs.declared.table.Servers.{Servers}
use Rattle.sv32_space.specs.Tie.{Held}
use Rattle.thread_table.specs.Shown.{process_count}
use Rattle.thread_table.specs.declared.table.Threads.{Threads}
use Rattle.vm_memory.specs.Memory.{capacity_of, ledger}
use Rattle.vm_memory.specs.declared.memory.Memory.{Memory}
use Rattle.xk_base.specs.Log.{LogState}
use Rattle.xk_base.specs.declared.ids.ThreadId.{ThreadId}
use Rattle.xk_ports.specs.declared.store.SwapStore.{Ghosts as SwapStore}
use Rattle.xk_parts.specs.Shown.{claims_shown, pending_shown, processes_shown, servers_shown, threads_shown}

-- ---- the parts

-- The parts that a call takes. All take threads, servers, messages and the log. For the memory, the processes and the claims None
-- stands where a call doesn't take them: it leaves them as they are.
pub record Parts (W : Type 0) : Type 0 where
  pub mem : Option (Memory W)
  pub threads : Threads
  pub procs : Option Processes
  pub servers : Servers
  pub queues : List Seat
  pub claims : Option Claims
  pub log : LogState

-- those of a call that moves no page: it knows of no store
abbrev pub Tables : Type 0
Tables = Parts (Unit {0})

abbrev pub tables_of : Threads → Servers → List Seat → LogState → Tables
tables_of threads servers queues log = record {
  mem = None;
  threads = threads;
  procs = None;
  servers = servers;
  queues = queues;
  claims = None;
  log = log;
}

-- those of a call that makes or ends a loan
abbrev pub parts_of : {W : Type 0} → Memory W → Threads → Servers → List Seat → LogState → Parts W
parts_of mem threads servers queues log = record {
  mem = Some mem;
  threads = threads;
  procs = None;
  servers = servers;
  queues = queues;
  claims = None;
  log = log;
}

-- ---- the machine

-- THE MACHINE OF THE PARTS, laid over another: what no part holds, and what a part holds that isn't taken, is as in `m`. No part alone
-- holds how many processes there are, since each was made for as many.
abbrev pub machine_over : {W : Type 0} → (W → Held) → Parts W → Machine → Machine
machine_over held parts m = record m {
  capacity = option_map_or capacity_of parts.mem m.capacity;
  ledger = option_map_or (ledger held) parts.mem m.ledger;
  threads = threads_shown parts.threads;
  process = option_map_or processes_shown parts.procs m.process;
  servers = servers_shown parts.servers parts.queues;
  claims = option_map_or claims_shown parts.claims m.claims;
  pending = option_map_or pending_shown parts.claims m.pending;
  next_serial = (servers_of parts.servers).next;
}

-- .. at the turn of a thread, with as many processes as the threads were made for
unfoldable pub machine_at : {W : Type 0} → (W → Held) → ThreadId → Parts W → Machine → Machine
machine_at held who parts m = machine_over held parts (record m { processes = process_count parts.threads; cursor = who })

-- a call that moves no page knows of no store
abbrev pub no_store : SwapStore (Unit {0})
no_store = record {
  held = λ store. None;
  is_honest = λ store. false;
  slot_count = λ store. 0;
  asked = λ store. None;
  faults = λ store. 0;
}

-- ---- what no part holds

-- a thread with the address that it has reserved
abbrev pub as_reservation : ThreadId × ℕ → Reservation
as_reservation r = record { who = r.0; address = r.1 }

-- how many processes there are, the steps done, whose turn it is, the number of the next message, the step at which the timer is due, and
-- the reservation
pub record Beside : Type 0 where
  pub processes : ℕ
  pub steps : ℕ
  pub cursor : ThreadId
  pub next_number : ℕ
  pub compare : Option ℕ
  pub reserved : Option Reservation

-- A machine that has nothing else: no page, thread, server or claim, and each process is dead. All parts laid over it are a whole machine.
abbrev pub bare_machine : Beside → Machine
bare_machine beside = record {
  capacity = 0;
  processes = beside.processes;
  ledger = empty_ledger;
  steps = beside.steps;
  cursor = beside.cursor;
  threads = λ id. None;
  process = λ pid. dead_process;
  servers = λ n. None;
  claims = λ n. None;
  pending = λ n. false;
  next_number = beside.next_number;
  next_serial = 1;
  compare = beside.compare;
  reserved = beside.reserved;
}
