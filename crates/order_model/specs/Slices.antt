-- A slice of a thread: it is picked, and then steps are done up to the first that leaves a record, so many at most.
use Rattle.std.specs.Prelude.{ℕ, zero, suc, ◌+◌, List, [], ◌∷◌, is_some, if◌then◌else◌}
use Rattle.xk_base.specs.declared.events.Event.{Event}
use Rattle.xk_base.specs.declared.events.Event.TheVariants.{Tick, Pick}
use Rattle.xk_base.specs.declared.ids.ThreadId.{ThreadId}
use Rattle.xk_base.specs.declared.records.Rec.{Rec}
use Rattle.machine_model.specs.State.Machine.{Machine}
use Rattle.machine_model.specs.State.Order.{actor, turn}
use Rattle.machine_model.specs.Stepping.Events.{picked}
use Rattle.machine_model.specs.Stepping.Step.{Recorded, step}

-- how many steps were done, the state after them, and the records of the last
pub record Slice : Type 0 where
  pub done : ℕ
  pub machine : Machine
  pub records : List Rec

abbrev pub no_step : Machine → Slice
no_step m = record { done = 0; machine = m; records = [] }

-- a step with records is the last one; after one without, others follow
abbrev pub last_or : List Rec → Machine → Slice → Slice
last_or [] m later = record later { done = later.done + 1 }
last_or (first ∷ records) m later = record { done = 1; machine = m; records = first ∷ records }

-- steps up to the first with a record, so many at most, and no more where no thread is Ready
unfoldable pub steps_up_to : ℕ → Machine → Slice
steps_up_to zero m = no_step m
steps_up_to (suc most) m =
    if is_some (actor m) then last_or (step m).records (step m).machine (steps_up_to most (step m).machine) else no_step m

-- the slice of this thread with this quantum
unfoldable pub slice : ℕ → ThreadId → Machine → Slice
slice quantum who m = steps_up_to quantum (picked who m).machine

-- it as two events
abbrev pub slice_events : ℕ → ThreadId → Machine → List Event
slice_events quantum who m = Pick who.pid who.tid ∷ Tick (slice quantum who m).done ∷ []

-- after a slice the turn ends
abbrev pub turned : Slice → Recorded
turned s = record { machine = turn s.machine; records = s.records }
