-- One step of the machine: one instruction of the current thread, or one whole system call, or one end of a thread or of an
-- interrupt handler, or one fatal trap; and then the timer.
use Rattle.std.specs.Prelude.{ℕ, ◌+◌, ◌%◌, Bool, ◌&&◌, ◌==◌, nat_lt, List, [], ◌∷◌, map, if◌then◌else◌, Option, Some, None}
use Rattle.xk_base.specs.declared.ids.ThreadId.{ThreadId}
use Rattle.xk_base.specs.declared.records.Rec.{Rec}
use Rattle.xk_base.specs.declared.records.What.{What}
use Rattle.xk_base.specs.declared.records.What.TheVariants.{Call, Byte, Fault, End}
use Rattle.xk_base.specs.Calls.Registers.{reg_at, arguments_of}
use Rattle.machine_model.specs.Calling.Calls.{call}
use Rattle.machine_model.specs.State.Changes.{Told, settled, call_settled}
use Rattle.machine_model.specs.Ending.Ends.{death, thread_ended, handler_ended}
use Rattle.machine_model.specs.Hart.Atomics.{Performed, execute_at}
use Rattle.machine_model.specs.Hart.Instructions.{Executed, Next, Stores, StoresToConsole, StoresToTimer, CallsKernel, Traps}
use Rattle.machine_model.specs.State.Machine.{Machine, Reservation, Thread}
use Rattle.machine_model.specs.State.Order.{actor}
use Rattle.machine_model.specs.State.Threads.{thread_return, handler_return, change_thread, with_registers}
use Rattle.machine_model.specs.State.Views.{memory_of, stored, timer_set}
use Rattle.machine_model.specs.Stepping.Reservations.{reserved_by, reservation_of}
use Rattle.machine_model.specs.Stepping.Timer.{timed}

-- the next state, and the records of the step in their order
pub record Recorded : Type 0 where
  pub machine : Machine
  pub records : List Rec

-- what happened, with this before it
abbrev pub after : What → Told → Told
after first told = record told { told = first ∷ told.told }

-- a store to the console's page writes the low byte where it goes to the first place there, and else does nothing
abbrev pub console_told : ThreadId → ℕ → ℕ → List What
console_told who offset value = if offset == 0 then Byte who (value % 256) ∷ [] else []

-- what comes of the cursor's thread when its instruction was executed
abbrev pub executed : Machine → Thread → Executed → Told
executed m thread (Next regs pc) = record {
  machine = change_thread m.cursor (with_registers regs pc) m;
  told = [];
}
executed m thread (Stores address width value regs pc) = record {
  machine = change_thread m.cursor (with_registers regs pc) (stored m.cursor.pid address width value m);
  told = [];
}
executed m thread (StoresToConsole offset value regs pc) = record {
  machine = change_thread m.cursor (with_registers regs pc) m;
  told = console_told m.cursor offset value;
}
executed m thread (StoresToTimer offset width value regs pc) = record {
  machine = change_thread m.cursor (with_registers regs pc) (timer_set offset width value m);
  told = [];
}
executed m thread CallsKernel =
    let words = arguments_of thread.regs in
    after (Call m.cursor words) (call_settled m (call m words))
executed m thread (Traps cause value) = after (Fault m.cursor cause value) (settled (death m.cursor.pid m))

-- the pc is where a thread above tid 1 ends
abbrev pub ends_thread : ThreadId → ℕ → Bool
ends_thread who pc = nat_lt 1 who.tid.0 && (pc == thread_return)

-- the pc is where tid 1 ends its handler
abbrev pub ends_handler : ThreadId → ℕ → Bool
ends_handler who pc = (who.tid.0 == 1) && (pc == handler_return)

-- what the instruction does that the thread fetches
abbrev pub performed : Machine → ThreadId → Thread → Performed
performed m who thread = execute_at thread.regs thread.pc (reserved_by who m.reserved) (memory_of m who.pid)

-- the step of the cursor's thread
abbrev pub acted : Machine → Thread → Told
acted m thread =
    if ends_thread m.cursor thread.pc then after (End m.cursor) (settled (thread_ended m.cursor (reg_at thread.regs 10) m)) else (
    if ends_handler m.cursor thread.pc then after (End m.cursor) (settled (handler_ended m.cursor.pid m)) else
    executed m thread (performed m m.cursor thread).executed)

-- the same where there is such a thread
abbrev pub acted_if_there : Machine → Option Thread → Told
acted_if_there m None = record { machine = m; told = [] }
acted_if_there m (Some thread) = acted m thread

-- The reservation that the step of the cursor's thread leaves: what its instruction leaves of its own, and none where it or its
-- handler ends. A reservation of another thread goes.
abbrev pub reservation_left : Machine → Thread → Option Reservation
reservation_left m thread =
    if ends_thread m.cursor thread.pc then None else (
    if ends_handler m.cursor thread.pc then None else
    reservation_of m.cursor (performed m m.cursor thread).reserved)

-- .. where there is such a thread
abbrev pub reservation_left_if_there : Machine → Option Thread → Option Reservation
reservation_left_if_there m None = None
reservation_left_if_there m (Some thread) = reservation_left m thread

-- what the step did, counted, with the reservation that it leaves
abbrev pub counted : Machine → Option Thread → Told → Told
counted m thread done = record done {
  machine = record done.machine { steps = m.steps + 1; reserved = reservation_left_if_there m thread };
}

-- what happened, with the number of its step
abbrev pub record_of : ℕ → What → Rec
record_of step what = record { step = step; what = what }

-- The thread `who` does a step. The cursor goes to it first. Each step counts one, and its records carry its number. Last comes
-- the timer.
unfoldable pub step_by : ThreadId → Machine → Recorded
step_by who m =
    let turned = record m { cursor = who } in
    let done = timed (counted turned (m.threads who) (acted_if_there turned (m.threads who))) in
    record { machine = done.machine; records = map (record_of (m.steps + 1)) done.told }

-- .. where there is one whose turn it is
abbrev pub step_by_if : Option ThreadId → Machine → Recorded
step_by_if None m = record { machine = m; records = [] }
step_by_if (Some who) m = step_by who m

-- The next step, by the thread whose it is. Where no thread is Ready there is no step.
unfoldable pub step : Machine → Recorded
step m = step_by_if (actor m) m
