-- Quiet steps: instructions of the cursor's thread that leave no record, end no turn and go by the timer's page.
use Rattle.std.specs.Prelude.{◌≡◌, ℕ, zero, suc, ◌+◌, ◌<◌, Bool, true, false, not, ◌&&◌, is_some, Option, Some, None}
use Rattle.std.specs.Option.{option_map_or}
use Rattle.machine_model.specs.Hart.Atomics.{Performed, execute_at}
use Rattle.machine_model.specs.Hart.Instructions.{Executed, Next, Stores, StoresToConsole, StoresToTimer, CallsKernel, Traps}
use Rattle.machine_model.specs.State.Machine.{Machine, Thread}
use Rattle.machine_model.specs.State.Order.{ready_at}
use Rattle.machine_model.specs.State.Threads.{put_thread}
use Rattle.machine_model.specs.State.Views.{memory_of}
use Rattle.machine_model.specs.Stepping.Reservations.{reservation_of, reserved_by}
use Rattle.machine_model.specs.Stepping.Step.{ends_handler, ends_thread, step}
use Rattle.machine_model.specs.Stepping.Timer.{is_due}
use Rattle.xk_base.specs.UserMemory.{Memory, timer_at}
use Rattle.xk_base.specs.declared.ids.ThreadId.{ThreadId}

-- ---- one step

-- the thread goes on, and beside it memory alone may change
abbrev pub goes_on : Executed → Bool
goes_on (Next regs pc) = true
goes_on (Stores address width value regs pc) = true
goes_on (StoresToConsole offset value regs pc) = false
goes_on (StoresToTimer offset width value regs pc) = false
goes_on CallsKernel = false
goes_on (Traps cause value) = false

-- memory as a process sees it, but for the timer's page: to that it has no access
abbrev pub without_timer : Memory → Memory
without_timer mem = record mem {
  may = λ access address. not (is_some (timer_at mem.timer address)) && mem.may access address;
  timer = None;
}

-- what the instruction of the cursor's thread does over that
abbrev pub done_without_timer : Machine → Thread → Performed
done_without_timer m thread =
    execute_at thread.regs thread.pc (reserved_by m.cursor m.reserved) (without_timer (memory_of m m.cursor.pid))

-- The step of the cursor's thread is an instruction by which it goes on so. It needs nothing of the timer's page: without that the
-- thread goes on as well, and so it does the same with it.
abbrev pub thread_goes_on : Machine → Thread → Bool
thread_goes_on m thread =
    not (ends_thread m.cursor thread.pc) && (not (ends_handler m.cursor thread.pc) && goes_on (done_without_timer m thread).executed)

-- the timer isn't due at the end of the next step
abbrev pub timer_rests : Machine → Bool
timer_rests m = not (is_due m.compare (m.steps + 1))

-- The next step is quiet: the cursor's thread is Ready and goes on by it, and the timer rests.
unfoldable pub is_quiet : Machine → Bool
is_quiet m = ready_at m m.cursor && (timer_rests m && option_map_or (thread_goes_on m) (m.threads m.cursor) false)

-- ---- steps in a row

-- so many steps of the machine, each of them quiet, lead from one state to another
abbrev pub GoesQuietly : ℕ → Machine → Machine → Type 0
GoesQuietly zero m new = new ≡ m
GoesQuietly (suc n) m new = (is_quiet m ≡ true) × GoesQuietly n (step m).machine new

-- A QUIET RUN of at most so many steps: so many were done, each of them quiet, and where they are fewer the next one isn't.
pub record RunsQuietly (most done : ℕ) (old new : Machine) : Type 0 where
  pub steps : GoesQuietly done old new
  pub next : done < most → is_quiet new ≡ false

-- ---- a thread out of its table

-- the machine with this thread in place of its own of that id, with the address that it has reserved, after so many steps
abbrev pub in_hand : ThreadId → Thread → Option ℕ → ℕ → Machine → Machine
in_hand who thread reserved steps m =
    record (put_thread who (Some thread) m) { steps = steps; reserved = reservation_of who reserved }

-- what came of a step that was to be done only if it is quiet: whether it is, and the state afterwards
abbrev pub StepsIfQuiet : Bool → Machine → Machine → Type 0
StepsIfQuiet true old new = (is_quiet old ≡ true) × (new ≡ (step old).machine)
StepsIfQuiet false old new = (is_quiet old ≡ false) × (new ≡ old)

-- so many steps done by then
abbrev pub steps_after : Bool → ℕ → ℕ
steps_after true n = n + 1
steps_after false n = n
