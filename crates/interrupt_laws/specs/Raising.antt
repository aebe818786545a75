-- The timer's raise: a step after whose other effects the compare value is its own number.
use Rattle.std.specs.Prelude.{◌≡◌, ◌+◌, true, is_some, Some, None}
use Rattle.std.specs.Option.{option_map_or}
use Rattle.xk_base.specs.declared.ids.ThreadId.{ThreadId}
use Rattle.xk_base.specs.declared.limits.TheConstants.{TIMER_INTERRUPT}
use Rattle.machine_model.specs.Runs.Matched.{Matched}
use Rattle.machine_model.specs.Runs.Moments.{Cause, ByStep}
use Rattle.machine_model.specs.State.Machine.{Machine}
use Rattle.machine_model.specs.State.Order.{actor}
use Rattle.machine_model.specs.Stepping.Events.{raised}
use Rattle.machine_model.specs.Stepping.Step.{step, acted_if_there, counted}

-- the machine after all that a step of this thread does before the timer
abbrev pub other_effects_of : Machine → ThreadId → Machine
other_effects_of m who =
    let turned = record m { cursor = who } in
    (counted turned (m.threads who) (acted_if_there turned (m.threads who))).machine

-- .. that the next step does; where no thread is Ready there is none
unfoldable pub other_effects : Machine → Machine
other_effects m = option_map_or (other_effects_of m) (actor m) m

-- there is a step, and after its other effects the compare value is its number
pub record IsRaise (before : Machine) (cause : Cause) : Type 0 where
  pub step : cause ≡ ByStep
  pub acts : is_some (actor before) ≡ true
  pub due : (other_effects before).compare ≡ Some (before.steps + 1)

-- ---- what a step is, with its raise

-- In a raise the timer is disarmed, and its interrupt comes as by an event, but for the reservation, which stays.
abbrev pub RaiseIsEvent : Type 0
RaiseIsEvent =
    (m : Machine) → IsRaise m ByStep
    → (step m).machine
    ≡ record (raised TIMER_INTERRUPT (record (other_effects m) { compare = None })).machine { reserved = (other_effects m).reserved }

-- Any other step is its other effects.
abbrev pub ElseNothing : Type 0
ElseNothing = (m : Machine) → ¬ IsRaise m ByStep → (step m).machine ≡ other_effects m

-- A raise finds the interrupt claimed, so that somebody gets it.
abbrev pub RaiseFindsClaim : Type 0
RaiseFindsClaim = (m : Machine) → Matched m → IsRaise m ByStep → is_some ((other_effects m).claims TIMER_INTERRUPT) ≡ true
