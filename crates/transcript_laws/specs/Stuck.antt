-- A machine that is stuck: no thread can do a step. Then each thread waits for something that has a name, and without an interrupt or
-- a kill nothing ever changes.
use Rattle.std.specs.Prelude.{◌≡◌, ℕ, Bool, true, false, Some}
use Rattle.xk_base.specs.declared.events.Event.{Event}
use Rattle.xk_base.specs.declared.events.Event.TheVariants.{Tick, Pick, Irq, Kill}
use Rattle.xk_base.specs.declared.ids.ThreadId.{ThreadId}
use Rattle.machine_laws.specs.History.{play}
use Rattle.machine_model.specs.Messaging.MessageCounts.{HasOne}
use Rattle.machine_model.specs.Runs.Matched.{IsServerAwaited, IsThreadAwaited, is_sent_as}
use Rattle.machine_model.specs.State.Machine.{Idle, Joining, Machine, Ready, Receiving, Thread, ThreadState, Waiting}
use Rattle.machine_model.specs.State.Order.{ready_at}

-- no thread is Ready
abbrev pub IsStuck : Machine → Type 0
IsStuck m = (who : ThreadId) → ready_at m who ≡ false

-- `tick N` does no step, and not for the limit
pub record DoesNoStep (n limit : ℕ) (m : Machine) : Type 0 where
  pub unmet : (play (Tick n) limit m).met ≡ false
  pub same : (play (Tick n) limit m).machine.steps ≡ m.steps

-- What a thread in this state waits for.
abbrev pub WaitsFor : Machine → ThreadId → ThreadState → Type 0
WaitsFor m who Ready = ⊥
-- for a message: to a live server of its own process, where none is queued
WaitsFor m who (Receiving serial) = IsServerAwaited m.servers who.pid serial
-- for an answer: to the one message of that number, which it sent, and which is queued or held at a live server
WaitsFor m who (Waiting number) = HasOne m.servers (is_sent_as who number)
-- for the end of another live thread of its process, above tid 1
WaitsFor m who (Joining tid) = IsThreadAwaited m.threads who tid
-- for an interrupt: it is the interrupt thread of its process, and runs no handler
WaitsFor m who Idle = who.tid.0 ≡ 1

-- each thread waits for one of these
abbrev pub EveryoneWaits : Machine → Type 0
EveryoneWaits m = (who : ThreadId) (thread : Thread) → m.threads who ≡ Some thread → WaitsFor m who thread.state

-- it comes from no one outside: neither an interrupt nor a kill
abbrev pub is_from_inside : Event → Bool
is_from_inside (Tick n) = true
is_from_inside (Pick pid tid) = true
is_from_inside (Irq k) = false
is_from_inside (Kill pid) = false
