-- What the next step of a machine is: an instruction, a system call, or neither.
use Rattle.std.specs.Prelude.{ℕ, Bool, true, false, List, Option, Some, None, if◌then◌else◌}
use Rattle.std.specs.Option.{option_and_then, option_map_or}
use Rattle.xk_base.specs.declared.ids.ThreadId.{ThreadId}
use Rattle.machine_model.specs.Calling.Calls.{call}
use Rattle.machine_model.specs.State.Changes.{Outcome, Refused, Retried, Served}
use Rattle.machine_model.specs.Hart.Atomics.{Atomic, atomic_at}
use Rattle.machine_model.specs.Hart.Instructions.{Executed, Next, Stores, StoresToConsole, StoresToTimer, CallsKernel, Traps}
use Rattle.machine_model.specs.State.Machine.{Machine, Thread}
use Rattle.machine_model.specs.Stepping.Step.{ends_thread, ends_handler, performed}
use Rattle.machine_model.specs.State.Views.{memory_of}
use Rattle.xk_base.specs.declared.pages.Access.TheVariants.{Fetch}
use Rattle.xk_base.specs.declared.pages.Width.TheVariants.{Word}
use Rattle.xk_base.specs.Calls.Registers.{arguments_of}
use Rattle.xk_base.specs.UserMemory.{Memory, number_at}

-- what comes of the thread's fetch, where it doesn't end and ends no handler
abbrev pub executes : Machine → ThreadId → Thread → Option Executed
executes m who thread =
    if ends_thread who thread.pc then None else (
    if ends_handler who thread.pc then None else
    Some (performed m who thread).executed)

-- neither a system call nor a trap
abbrev pub is_instruction : Executed → Bool
is_instruction (Next regs pc) = true
is_instruction (Stores address width value regs pc) = true
is_instruction (StoresToConsole offset value regs pc) = true
is_instruction (StoresToTimer offset width value regs pc) = true
is_instruction CallsKernel = false
is_instruction (Traps cause value) = false

abbrev pub is_call : Executed → Bool
is_call (Next regs pc) = false
is_call (Stores address width value regs pc) = false
is_call (StoresToConsole offset value regs pc) = false
is_call (StoresToTimer offset width value regs pc) = false
is_call CallsKernel = true
is_call (Traps cause value) = false

-- the step of this thread is that of an instruction
unfoldable pub does_instruction : Machine → ThreadId → Bool
does_instruction m who =
    option_map_or is_instruction (option_and_then (executes m who) (m.threads who)) false

-- the atomic instruction that stands at the pc, where the process may fetch it
abbrev pub atomic_there : Memory → ℕ → Option Atomic
atomic_there mem pc = if mem.may Fetch pc then atomic_at (number_at mem.byte pc Word) else None

abbrev pub atomic_fetched : Machine → ThreadId → Thread → Option Atomic
atomic_fetched m who thread =
    if ends_thread who thread.pc then None else (
    if ends_handler who thread.pc then None else
    atomic_there (memory_of m who.pid) thread.pc)

-- the atomic instruction that the step of this thread does, if it does one
unfoldable pub atomic_by : Machine → ThreadId → Option Atomic
atomic_by m who = option_and_then (atomic_fetched m who) (m.threads who)

-- the words of the call, where it is one
abbrev pub words_if_call : Thread → Executed → Option (List ℕ)
words_if_call thread executed = if is_call executed then Some (arguments_of thread.regs) else None

-- the words of the system call that the step of this thread makes; none where it makes none
unfoldable pub call_by : Machine → ThreadId → Option (List ℕ)
call_by m who =
    option_and_then (λ thread. option_and_then (words_if_call thread) (executes m who thread)) (m.threads who)

abbrev pub is_served : Outcome → Bool
is_served (Refused error) = false
is_served Retried = false
is_served (Served change) = true

-- the call of this thread with these words is served
unfoldable pub is_call_served : Machine → ThreadId → List ℕ → Bool
is_call_served m who words = is_served (call (record m { cursor = who }) words)
