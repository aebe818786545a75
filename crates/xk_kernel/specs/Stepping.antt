-- What the calls of a kernel do to the machine that it stands for.
use Rattle.std.specs.Prelude.{◌≡◌, ◌+◌, ◌⊎◌, true, false, is_some, List}
use Rattle.xk_base.specs.declared.events.Event.{Event}
use Rattle.xk_base.specs.declared.events.Event.TheVariants.{Tick, Pick, Irq, Kill}
use Rattle.machine_model.specs.Stepping.Events.{picked, raised, killed, nothing}
use Rattle.machine_model.specs.State.Machine.{Machine}
use Rattle.machine_model.specs.State.Order.{actor}
use Rattle.machine_model.specs.Stepping.Step.{Recorded, step}
use Rattle.sv32_space.specs.Tie.{Held}
use Rattle.vm_memory.specs.Bytes.{none_out}
use Rattle.xk_base.specs.declared.records.Rec.{Rec}
use Rattle.xk_kernel.specs.Knowing.{IsCrowded}
use Rattle.xk_kernel.specs.State.{machine_of}
use Rattle.xk_kernel.specs.declared.kernel.Kernel.{Kernel}
use Rattle.xk_kernel.specs.declared.kernel.Stepped.{Stepped}
use Rattle.xk_kernel.specs.declared.kernel.Stepped.TheVariants.{Did, Idle}

-- the records of the last step or event
abbrev pub last_of : {W : Type 0} → Kernel W → List Rec
last_of k = k.log.records

-- the next state is this one, and exactly these records tell of it
pub record Becomes {W : Type 0} (held : W → Held) (new : Kernel W) (taken : Recorded) : Type 0 where
  pub machine : machine_of held new ≡ taken.machine
  pub records : last_of new ≡ taken.records

-- Whatever the store does, a step is done exactly where a thread is ready, and counts one; else nothing changes.
abbrev pub CountsStep : {W : Type 0} → (W → Held) → Kernel W → Kernel W → Stepped → Type 0
CountsStep held old new Did = (is_some (actor (machine_of held old)) ≡ true) × (new.steps ≡ old.steps + 1)
CountsStep held old new Idle = (is_some (actor (machine_of held old)) ≡ false) × (new ≡ old)

-- Pages may move in the next step: one is out, or the state after the step has more pages than there are frames for.
abbrev pub MayExchange : {W : Type 0} → (W → Held) → Kernel W → Type 0
MayExchange held k = (none_out k.mem ≡ false) ⊎ IsCrowded k (step (machine_of held k)).machine.ledger

-- A step is that of the machine; where no thread is ready there is none, and the last records stay too.
abbrev pub DoesStep : {W : Type 0} → (W → Held) → Kernel W → Kernel W → Stepped → Type 0
DoesStep held old new Did =
    (is_some (actor (machine_of held old)) ≡ true) × Becomes held new (step (machine_of held old))
DoesStep held old new Idle =
    (is_some (actor (machine_of held old)) ≡ false) × (machine_of held new ≡ machine_of held old) × (last_of new ≡ last_of old)

-- what an event does beside the steps of a tick
abbrev pub event_done : Event → Machine → Recorded
event_done (Tick n) m = nothing m
event_done (Pick pid tid) m = picked (record { pid = pid; tid = tid }) m
event_done (Irq k) m = raised k m
event_done (Kill pid) m = killed pid m
