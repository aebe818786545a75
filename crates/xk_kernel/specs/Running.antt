-- What the instruction of a thread makes of the machine.
use Rattle.std.specs.Prelude.{◌≡◌, ℕ, Bool, true, false, Option, if◌then◌else◌}
use Rattle.machine_model.specs.Hart.Atomics.{Atomic, Performed, leaving, perform}
use Rattle.machine_model.specs.Hart.Instructions.{Executed, Next, Stores, StoresToConsole, StoresToTimer, CallsKernel, Traps, fetch_page_fault}
use Rattle.machine_model.specs.Runs.Isolation.{without_bytes}
use Rattle.machine_model.specs.Runs.Matched.{Matched}
use Rattle.machine_model.specs.State.Machine.{Machine, Thread}
use Rattle.machine_model.specs.State.Order.{ready_at}
use Rattle.machine_model.specs.State.Threads.{change_thread, with_registers}
use Rattle.machine_model.specs.State.Views.{memory_of, stored, timer_set}
use Rattle.machine_model.specs.Stepping.Reservations.{reserved_by}
use Rattle.machine_model.specs.Stepping.Step.{performed}
use Rattle.rv32_atomics.specs.Performing.{Core}
use Rattle.rv32_hart.specs.Running.{IfFailed, UnlessFailed, View, ran_of}
use Rattle.rv32_hart.specs.declared.ran.Ran.{Ran}
use Rattle.timer_device.specs.Page.{console_with_timer, may_with_timer, timer_with}
use Rattle.vm_memory.specs.Bytes.{none_out}
use Rattle.vm_memory.specs.Memory.{has_failed, store_of}
use Rattle.xk_base.specs.Outside.{Rose}
use Rattle.xk_base.specs.UserMemory.{Memory}
use Rattle.xk_base.specs.declared.ids.ThreadId.{ThreadId}
use Rattle.xk_base.specs.declared.pages.Access.TheVariants.{Fetch}
use Rattle.xk_kernel.specs.Knowing.{PutsNoneOut}
use Rattle.xk_kernel.specs.Sound.{IsUsable, IsWhole, Keeps}
use Rattle.xk_kernel.specs.State.{machine_of}
use Rattle.xk_kernel.specs.declared.kernel.Kernel.{Kernel}
use Rattle.xk_ports.specs.declared.store.SwapStore.{Ghosts as SwapStore}

-- the thread goes on with its registers and its pc, and a store is made; a call of the kernel and a trap change nothing yet
abbrev pub machine_after : ThreadId → Machine → Executed → Machine
machine_after who m (Next regs pc) = change_thread who (with_registers regs pc) m
machine_after who m (Stores address width value regs pc) = change_thread who (with_registers regs pc) (stored who.pid address width value m)
machine_after who m (StoresToConsole offset value regs pc) = change_thread who (with_registers regs pc) m
machine_after who m (StoresToTimer offset width value regs pc) = change_thread who (with_registers regs pc) (timer_set offset width value m)
machine_after who m CallsKernel = m
machine_after who m (Traps cause value) = m

-- what is told of a memory with the page of a timer over it, where that is there
abbrev pub timed_view : Bool → ℕ → Option ℕ → View → View
timed_view on steps compare inner = record {
  may = may_with_timer on inner.may;
  console = console_with_timer on inner.console;
  content = inner.content;
  timer = timer_with on (record { steps = steps; compare = compare }) inner.timer;
}

-- ---- where bytes aren't known

-- what may stand in a memory whose bytes aren't known: these bytes, and at the pc this word, which is that atomic instruction, or
-- without one an instruction of the base table
pub record Unknown : Type 0 where
  pub byte : ℕ → ℕ
  pub word : ℕ
  pub atomic : Option Atomic

-- the instruction at the pc is performed where that stands in memory; what the process may reach is known all the same
abbrev pub performed_where : Unknown → Core → ℕ → Memory → Performed
performed_where stands core pc mem =
    if mem.may Fetch pc
    then perform (record mem { byte = stands.byte }) core.regs pc stands.word core.reserved stands.atomic
    else leaving core.reserved (Traps fetch_page_fault pc)

-- .. by a thread of the machine
abbrev pub thread_performed_where : Unknown → Machine → ThreadId → Thread → Performed
thread_performed_where stands m who t =
    performed_where stands (record { regs = t.regs; reserved = reserved_by who m.reserved }) t.pc (memory_of m who.pid)

-- ONE INSTRUCTION OF THE THREAD, whatever stands in memory: the answer, the reservation and the machine but for the bytes of pages are
-- what it makes of them. So it changes no other thread, and of its own no more than an instruction does.
pub record RunsSome (m new : Machine) (who : ThreadId) (t : Thread) (left : Option ℕ) (answer : Ran) : Type 0 where
  pub stands : Unknown
  pub answered : answer ≡ ran_of (thread_performed_where stands m who t).executed
  pub machine : without_bytes new ≡ without_bytes (machine_after who m (thread_performed_where stands m who t).executed)
  pub reserved : left ≡ (thread_performed_where stands m who t).reserved

-- .. and over known bytes it is the instruction that stands there: the answer, the reservation and the machine are what it makes of them
pub record RunsKnown (m new : Machine) (who : ThreadId) (t : Thread) (left : Option ℕ) (answer : Ran) : Type 0 where
  pub answered : answer ≡ ran_of (performed m who t).executed
  pub machine : new ≡ machine_after who m (performed m who t).executed
  pub reserved : left ≡ (performed m who t).reserved

-- What is left over any bytes: a whole kernel with a matched machine, in which the thread is as ready as before and no step is counted.
-- It fails only where the count of the store's faults rose and a page was out.
pub record LeavesRun {W : Type 0} (S : SwapStore W) (old new : Kernel W) (who : ThreadId) (answer : Ran) : Type 0 where
  pub whole : IsWhole S new
  pub usable : UnlessFailed answer (IsUsable new)
  pub keeps : Keeps S old new
  pub failed : IfFailed answer (has_failed new.mem ≡ true)
  pub cause : IfFailed answer (Rose (S.faults (store_of old.mem)) (S.faults (store_of new.mem)))
  pub out : IfFailed answer (none_out old.mem ≡ false)
  pub none : PutsNoneOut old new
  pub matched : Matched (machine_of S.held new)
  pub ready : ready_at (machine_of S.held new) who ≡ ready_at (machine_of S.held old) who
  pub steps : new.steps ≡ old.steps
  pub log : new.log ≡ old.log
