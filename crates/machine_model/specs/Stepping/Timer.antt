-- The timer: after the other effects of the step whose number is its compare value, that becomes none, and the timer's interrupt is
-- raised as by an event. The compare value also becomes none where the claim on that interrupt ends.
use Rattle.std.specs.Prelude.{ℕ, ◌==◌, nat_lt, Bool, true, false, List, [], ◌∷◌, if◌then◌else◌, Option, Some, None}
use Rattle.xk_base.specs.declared.ids.Pid.{Pid}
use Rattle.xk_base.specs.declared.limits.TheConstants.{TIMER_INTERRUPT}
use Rattle.xk_base.specs.declared.records.What.{What}
use Rattle.xk_base.specs.declared.records.What.TheVariants.{Irq, Gone}
use Rattle.machine_model.specs.State.Changes.{Change, Delivery, Told, only, settled}
use Rattle.machine_model.specs.State.Machine.{Machine, Claim}
use Rattle.machine_model.specs.Stepping.Interrupts.{pended}

-- the compare value is the number of steps done
abbrev pub is_due : Option ℕ → ℕ → Bool
is_due None steps = false
is_due (Some compare) steps = compare == steps

-- ---- its record

-- a record that stands after the Irq record of the process: of a death, or of an interrupt of a process with a greater pid
abbrev pub stands_after_irq : Pid → What → Bool
stands_after_irq pid (Gone dead) = true
stands_after_irq pid (Irq other k) = nat_lt pid.0 other.0
stands_after_irq pid _ = false

-- the records of a step with the Irq record of a delivery in its place
abbrev pub with_irq : Delivery → List What → List What
with_irq d [] = Irq d.pid d.number ∷ []
with_irq d (what ∷ told) =
    if stands_after_irq d.pid what then Irq d.pid d.number ∷ what ∷ told else what ∷ with_irq d told

abbrev pub with_irq_if : Option Delivery → List What → List What
with_irq_if None told = told
with_irq_if (Some d) told = with_irq d told

-- ---- its raise

-- the timer's interrupt, which was claimed so, is raised; without a claim nothing is
abbrev pub raised_by_timer : Option Claim → Machine → Change
raised_by_timer None m = only m
raised_by_timer (Some claim) m = pended TIMER_INTERRUPT claim m

-- the timer is disarmed, and its interrupt is raised
abbrev pub timer_change : Machine → Change
timer_change m = raised_by_timer (m.claims TIMER_INTERRUPT) (record m { compare = None })

abbrev pub timed_if : Bool → Told → Told
timed_if false done = done
timed_if true done =
    let change = timer_change done.machine in
    record { machine = (settled change).machine; told = with_irq_if change.delivery done.told }

-- what a step did, with its steps counted, and then the timer
abbrev pub timed : Told → Told
timed done = timed_if (is_due done.machine.compare done.machine.steps) done
