-- The machine that a kernel stands for: that of its parts, with what no part holds.
use Rattle.std.specs.Prelude.{Some}
use Rattle.std.specs.Option.{option_map}
use Rattle.machine_model.specs.State.Machine.{Machine}
use Rattle.sv32_space.specs.Tie.{Held}
use Rattle.vm_memory.specs.Memory.{processes}
use Rattle.xk_kernel.specs.declared.kernel.Kernel.{Kernel}
use Rattle.xk_parts.specs.Parts.{Beside, Parts, bare_machine, machine_over}
pub use Rattle.xk_parts.specs.Parts.{as_reservation}
pub use Rattle.xk_parts.specs.Shown.{claim_of}

-- the parts of the kernel
abbrev pub all_parts : {W : Type 0} → Kernel W → Parts W
all_parts k = record {
  mem = Some k.mem;
  threads = k.threads;
  procs = Some k.procs;
  servers = k.servers;
  queues = k.queues;
  claims = Some k.claims;
  log = k.log;
}

-- what no part holds
abbrev pub beside : {W : Type 0} → Kernel W → Beside
beside k = record {
  processes = processes k.mem;
  steps = k.steps;
  cursor = k.cursor;
  next_number = k.next;
  compare = k.timer;
  reserved = option_map as_reservation k.reserved;
}

unfoldable pub machine_of : {W : Type 0} → (W → Held) → Kernel W → Machine
machine_of held k = machine_over held (all_parts k) (bare_machine (beside k))
