-- The machine that is saved: what its parts stand for, with the numbers that no part holds.
use Rattle.std.specs.Prelude.{ℕ, [], List, Some}
use Rattle.std.specs.Option.{option_map, option_map_or}
use Rattle.irq_claims.specs.declared.claims.Claims.{Claims}
use Rattle.machine_model.specs.State.Machine.{Machine}
use Rattle.msg_queue.specs.Seats.{Seat}
use Rattle.process_table.specs.declared.table.Processes.{Processes}
use Rattle.save_path.specs.declared.numbers.Numbers.{Numbers}
use Rattle.server_table.specs.declared.table.Servers.{Servers}
use Rattle.sv32_space.specs.Tie.{Held}
use Rattle.thread_table.specs.declared.table.Threads.{Threads}
use Rattle.vm_memory.specs.Memory.{processes}
use Rattle.vm_memory.specs.declared.memory.Memory.{Memory}
use Rattle.xk_parts.specs.Parts.{Beside, Parts, as_reservation, bare_machine, machine_over}

-- the parts whose state is saved; the log of a step isn't
abbrev pub saved_parts : {W : Type 0} → Memory W → Threads → Processes → Servers → List Seat → Claims → Parts W
saved_parts mem threads procs servers queues claims = record {
  mem = Some mem;
  threads = threads;
  procs = Some procs;
  servers = servers;
  queues = queues;
  claims = Some claims;
  log = record { step = 0; records = []; room = 0 };
}

-- what no part holds, of a machine that was made for so many processes
abbrev pub beside_of : ℕ → Numbers → Beside
beside_of count numbers = record {
  processes = count;
  steps = numbers.steps;
  cursor = numbers.cursor;
  next_number = numbers.next;
  compare = numbers.compare;
  reserved = option_map as_reservation numbers.reserved;
}

-- THE MACHINE of the parts and the numbers
unfoldable pub saved_machine : {W : Type 0} → (W → Held) → Numbers → Parts W → Machine
saved_machine held numbers parts = machine_over held parts (bare_machine (beside_of (option_map_or processes parts.mem 0) numbers))
