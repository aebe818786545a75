-- Any order of the threads' steps, as a list of events.
use Rattle.std.specs.Prelude.{List, [], ◌∷◌, ◌++◌, IsTrue}
use Rattle.std.specs.Bool.{⊤}
use Rattle.xk_base.specs.declared.events.Event.{Event}
use Rattle.xk_base.specs.declared.events.Event.TheVariants.{Tick, Pick}
use Rattle.xk_base.specs.declared.ids.ThreadId.{ThreadId}
use Rattle.machine_model.specs.Stepping.Events.{nothing}
use Rattle.machine_model.specs.State.Machine.{Machine}
use Rattle.machine_model.specs.State.Order.{ready_at, turn}
use Rattle.machine_model.specs.Stepping.Step.{Recorded, step_by}

-- `pick` and `tick 1` for each of these threads, in their order
unfoldable pub picks_and_ticks : List ThreadId → List Event
picks_and_ticks [] = []
picks_and_ticks (who ∷ later) = Pick who.pid who.tid ∷ Tick 1 ∷ picks_and_ticks later

-- the state after a step of the thread and the end of the turn
abbrev pub after_step_of : ThreadId → Machine → Machine
after_step_of who m = turn (step_by who m).machine

-- each of these threads is Ready at its turn: the first now, the others after its step
unfoldable pub AreReadyInTurn : List ThreadId → Machine → Type 0
AreReadyInTurn [] m = ⊤
AreReadyInTurn (who ∷ later) m = IsTrue (ready_at m who) × AreReadyInTurn later (after_step_of who m)

-- a step of each of these threads in their order, each at the end of the turn before: the last state and all records
unfoldable pub steps_in_turn : List ThreadId → Machine → Recorded
steps_in_turn [] m = nothing m
steps_in_turn (who ∷ later) m = record {
  machine = (steps_in_turn later (after_step_of who m)).machine;
  records = (step_by who m).records ++ (steps_in_turn later (after_step_of who m)).records;
}
