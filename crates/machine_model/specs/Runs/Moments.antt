-- A run as a list of moments: each is a state with what led to it from the one before.
use Rattle.std.specs.Prelude.{◌≡◌, ℕ, zero, suc, List, [], ◌∷◌}
use Rattle.std.specs.Bool.{⊤}
use Rattle.xk_base.specs.declared.ids.Pid.{Pid}
use Rattle.xk_base.specs.declared.ids.ThreadId.{ThreadId}
use Rattle.machine_model.specs.Stepping.Events.{picked, raised, killed}
use Rattle.machine_model.specs.State.Machine.{Machine}
use Rattle.machine_model.specs.State.Order.{turn}
use Rattle.machine_model.specs.Stepping.Step.{step}

-- what leads from a state to the next: a step, an event, or the end of a turn
pub data Cause : Type 0 where
  ByStep : Cause
  ByPick : ThreadId → Cause
  ByIrq : ℕ → Cause
  ByKill : Pid → Cause
  ByTurn : Cause

-- the state that it leads to
abbrev pub caused : Cause → Machine → Machine
caused ByStep m = (step m).machine
caused (ByPick who) m = (picked who m).machine
caused (ByIrq k) m = (raised k m).machine
caused (ByKill pid) m = (killed pid m).machine
caused ByTurn m = turn m

-- a state, and what led to it from the one before
pub record Moment : Type 0 where
  pub cause : Cause
  pub machine : Machine

-- the moment that this cause leads to
abbrev pub moment_of : Cause → Machine → Moment
moment_of cause m = record { cause = cause; machine = caused cause m }

-- each moment comes of the one before by its cause, the first of the start
unfoldable pub IsRun : Machine → List Moment → Type 0
IsRun start [] = ⊤
IsRun start (moment ∷ moments) = (moment.machine ≡ caused moment.cause start) × IsRun moment.machine moments

-- the state after so many moments; after none it is the start
unfoldable pub state_at : Machine → List Moment → ℕ → Machine
state_at start moments zero = start
state_at start [] (suc i) = start
state_at start (moment ∷ moments) (suc i) = state_at moment.machine moments i
