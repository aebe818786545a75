-- A thread that never has a turn, though it is Ready: another thread makes a call that is retried, and each tick ends there.
use Rattle.std.specs.Prelude.{◌≡◌, ℕ, true, false, List, replicate, Option, Some, None}
use Rattle.xk_base.specs.declared.events.Event.{Event}
use Rattle.xk_base.specs.declared.events.Event.TheVariants.{Tick}
use Rattle.xk_base.specs.declared.ids.ThreadId.{ThreadId}
use Rattle.xk_base.specs.Calls.Registers.{arguments_of}
use Rattle.machine_model.specs.Calling.Calls.{call}
use Rattle.machine_model.specs.Hart.Atomics.{execute_at}
use Rattle.machine_model.specs.Hart.Instructions.{CallsKernel}
use Rattle.machine_model.specs.State.Changes.{Retried}
use Rattle.machine_model.specs.State.Machine.{Machine, Ready, Reservation, Thread}
use Rattle.machine_model.specs.State.Order.{next_ready, ready_at}
use Rattle.machine_model.specs.State.Views.{memory_of}
use Rattle.machine_model.specs.Stepping.Step.{ends_handler, ends_thread}

-- The thread is Ready, at a call that is retried: whatever is reserved, and however many steps are done. So it is with SendMessage to a
-- full server.
pub record Retries (who : ThreadId) (m : Machine) : Type 0 where
  pub thread : Thread
  pub there : m.threads who ≡ Some thread
  pub ready : thread.state ≡ Ready
  pub thread_goes_on : ends_thread who thread.pc ≡ false
  pub handler_goes_on : ends_handler who thread.pc ≡ false
  pub calls : (reserved : Option ℕ) (steps : ℕ)
      → (execute_at thread.regs thread.pc reserved (memory_of (record m { steps = steps }) who.pid)).executed ≡ CallsKernel
  pub retried : (reserved : Option Reservation) (steps : ℕ)
      → call (record m { cursor = who; steps = steps; reserved = reserved }) (arguments_of thread.regs) ≡ Retried

-- It has the turn, and just one other thread is Ready.
pub record IsPassedOver (who other : ThreadId) (m : Machine) : Type 0 where
  pub retries : Retries who m
  pub unarmed : m.compare ≡ None
  pub turn : m.cursor ≡ who
  pub ready : ready_at m other ≡ true
  pub next : next_ready m who ≡ Some other
  pub back : next_ready m other ≡ Some who

-- `tick 1` so many times
abbrev pub ticks_of_one : ℕ → List Event
ticks_of_one n = replicate n (Tick 1)
