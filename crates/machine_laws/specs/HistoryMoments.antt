-- The moments that a history goes through: each is a step, an event, or the end of a turn.
use Rattle.std.specs.Prelude.{ℕ, zero, suc, ◌==◌, List, [], ◌∷◌, ◌++◌, if◌then◌else◌, is_some}
use Rattle.xk_base.specs.declared.events.Event.{Event}
use Rattle.xk_base.specs.declared.events.Event.TheVariants.{Tick, Pick, Irq, Kill}
use Rattle.machine_model.specs.State.Machine.{Machine}
use Rattle.machine_model.specs.Runs.Moments.{ByStep, ByPick, ByIrq, ByKill, ByTurn, Moment, moment_of}
use Rattle.machine_model.specs.State.Order.{actor}
use Rattle.machine_model.specs.Stepping.Step.{step}
use Rattle.machine_laws.specs.History.{play}

-- those of `tick N`: its steps, and then the end of the turn, unless the limit is met
unfoldable pub tick_moments : ℕ → ℕ → Machine → List Moment
tick_moments zero limit m = moment_of ByTurn m ∷ []
tick_moments (suc n) limit m =
    if is_some (actor m) then (
    if m.steps == limit then [] else
    moment_of ByStep m ∷ tick_moments n limit (step m).machine)
    else moment_of ByTurn m ∷ []

-- those of one event
unfoldable pub event_moments : Event → ℕ → Machine → List Moment
event_moments (Tick n) limit m = tick_moments n limit m
event_moments (Pick pid tid) limit m = moment_of (ByPick (record { pid = pid; tid = tid })) m ∷ []
event_moments (Irq k) limit m = moment_of (ByIrq k) m ∷ []
event_moments (Kill pid) limit m = moment_of (ByKill pid) m ∷ []

-- those of the events in order, up to where the limit is met
unfoldable pub moments_of : List Event → ℕ → Machine → List Moment
moments_of [] limit m = []
moments_of (event ∷ events) limit m =
    event_moments event limit m ++ (if (play event limit m).met then [] else moments_of events limit (play event limit m).machine)
