-- What an event and a list of events make of a machine: its history up to the step limit.
use Rattle.std.specs.Prelude.{ℕ, zero, suc, ◌==◌, Bool, true, false, List, [], ◌∷◌, ◌++◌, if◌then◌else◌, is_some}
use Rattle.xk_base.specs.declared.events.Event.{Event}
use Rattle.xk_base.specs.declared.events.Event.TheVariants.{Tick, Pick, Irq, Kill}
use Rattle.xk_base.specs.declared.records.Rec.{Rec}
use Rattle.machine_model.specs.Stepping.Events.{picked, raised, killed, nothing}
use Rattle.machine_model.specs.State.Machine.{Machine}
use Rattle.machine_model.specs.State.Order.{actor, turn}
use Rattle.machine_model.specs.Stepping.Step.{Recorded, step}

-- The records in order, the last state, and whether the limit was met, at which the history ended. Its steps are those that the
-- last state counts.
pub record History : Type 0 where
  pub records : List Rec
  pub machine : Machine
  pub met : Bool

-- the limit wasn't met up to this state, of which these records tell
abbrev pub reached : Recorded → History
reached done = record { records = done.records; machine = done.machine; met = false }

-- the limit is met in this state, where the history ends
abbrev pub stopped : Machine → History
stopped m = record { records = []; machine = m; met = true }

-- the same history after some records
abbrev pub behind : List Rec → History → History
behind records h = record h { records = records ++ h.records }

-- .. by whether it was met
abbrev pub go_on : Bool → History → (Machine → History) → History
go_on true h next = h
go_on false h next = behind h.records (next h.machine)

-- a history, and what comes after it where the limit wasn't met
abbrev pub followed_by : History → (Machine → History) → History
followed_by h next = go_on h.met h next

-- `tick N`: N steps, fewer where no thread is Ready; then the turn ends, which has no record. Where a step is still to be done, a
-- thread is Ready and the steps done equal the limit, the limit is met.
unfoldable pub ticks : ℕ → ℕ → Machine → History
ticks zero limit m = reached (nothing (turn m))
ticks (suc n) limit m =
    if is_some (actor m) then (
    if m.steps == limit then stopped m else
    behind (step m).records (ticks n limit (step m).machine))
    else reached (nothing (turn m))

-- one event
unfoldable pub play : Event → ℕ → Machine → History
play (Tick n) limit m = ticks n limit m
play (Pick pid tid) limit m = reached (picked (record { pid = pid; tid = tid }) m)
play (Irq k) limit m = reached (raised k m)
play (Kill pid) limit m = reached (killed pid m)

-- the events in order
unfoldable pub history : List Event → ℕ → Machine → History
history [] limit m = reached (nothing m)
history (event ∷ events) limit m = followed_by (play event limit m) (history events limit)
