-- Whose turn it is. The threads stand in a circle by their ids.
use Rattle.std.specs.Prelude.{◌≡◌, ℕ, ◌<◌, Bool, true, false, List, length, slice_index_or, Option, Some, unwrap_or, if◌then◌else◌}
use Rattle.std.specs.Option.{option_map_or}
use Rattle.xk_base.specs.declared.ids.ThreadId.{ThreadId}
use Rattle.xk_base.specs.Tables.Circle.{thread_ids, id_at, next_id}
use Rattle.machine_model.specs.State.Machine.{Machine, ThreadState, Ready}

-- a thread of this state can do a step
abbrev pub is_ready : ThreadState → Bool
is_ready Ready = true
is_ready _ = false

-- there is a thread of this id, and it is Ready
abbrev pub ready_at : Machine → ThreadId → Bool
ready_at m id = option_map_or (λ t. is_ready t.state) (m.threads id) false

-- the list tells of each thread id, in ascending order, whether its thread is Ready
pub record TellsReady (ready : List Bool) (m : Machine) : Type 0 where
  pub size : length ready ≡ thread_ids m.processes
  pub each : (k : ℕ) → k < length ready → slice_index_or ready k false ≡ ready_at m (id_at k)

-- the next ready thread after `c`: the first Ready thread strictly after it in the circle of ids, `c` itself
-- last; none where no thread is Ready
unfoldable pub next_ready : Machine → ThreadId → Option ThreadId
next_ready m c = next_id m.processes (ready_at m) c

-- the end of a turn: the cursor moves to the next ready thread, where there is one
unfoldable pub turn : Machine → Machine
turn m = record m { cursor = unwrap_or (next_ready m m.cursor) m.cursor }

-- who does the next step: the thread of the cursor where it is Ready, else the next ready one; none where no
-- thread is Ready, and then there is no step
unfoldable pub actor : Machine → Option ThreadId
actor m = if ready_at m m.cursor then Some m.cursor else next_ready m m.cursor
