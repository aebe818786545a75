-- What a step is, with the timer: its other effects, and then the event of the timer's interrupt if it is due; nothing else.
use Rattle.std.specs.Prelude.{◌≡◌, ◌⊎◌, None}
use Rattle.xk_base.specs.declared.limits.TheConstants.{TIMER_INTERRUPT}
use Rattle.machine_model.specs.Runs.Moments.{ByStep}
use Rattle.machine_model.specs.State.Machine.{Machine}
use Rattle.machine_model.specs.Stepping.Events.{raised}
use Rattle.machine_model.specs.Stepping.Step.{step}
use Rattle.interrupt_laws.specs.Raising.{IsRaise, other_effects}

-- the timer is due: it is disarmed, and its interrupt comes last, as by an event, but for the reservation, which stays
pub record EndsInRaise (m : Machine) : Type 0 where
  pub raise : IsRaise m ByStep
  pub event : (step m).machine
      ≡ record (raised TIMER_INTERRUPT (record (other_effects m) { compare = None })).machine { reserved = (other_effects m).reserved }

-- it isn't: the step is its other effects
pub record EndsWithout (m : Machine) : Type 0 where
  pub none : ¬ IsRaise m ByStep
  pub same : (step m).machine ≡ other_effects m

-- every step is one of the two
abbrev pub TimerComesLast : Type 0
TimerComesLast = (m : Machine) → EndsInRaise m ⊎ EndsWithout m
