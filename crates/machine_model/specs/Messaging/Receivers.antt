-- The threads that are Receiving at a server.
use Rattle.std.specs.Prelude.{◌==◌, Bool, false, Option}
use Rattle.std.specs.Option.{option_map, option_map_or}
use Rattle.xk_base.specs.declared.ids.Serial.{Serial}
use Rattle.xk_base.specs.declared.ids.ThreadId.{ThreadId}
use Rattle.xk_base.specs.Tables.Circle.{thread_ids, id_by_tid}
use Rattle.xk_base.specs.Tables.Counting.{least_below}
use Rattle.machine_model.specs.State.Machine.{Machine, ThreadState, Receiving}

-- a thread of this state waits for a message at the server
abbrev pub is_receiving : Serial → ThreadState → Bool
is_receiving serial (Receiving other) = other.0 == serial.0
is_receiving serial _ = false

-- there is a thread of this id, and it is Receiving at the server
abbrev pub receiving_at : Machine → Serial → ThreadId → Bool
receiving_at m serial id = option_map_or (λ t. is_receiving serial t.state) (m.threads id) false

-- of the threads that are Receiving at the server the one with the least tid; none where there is none. They are all of the
-- server's process
unfoldable pub receiver : Machine → Serial → Option ThreadId
receiver m serial =
    option_map (id_by_tid m.processes) (least_below (thread_ids m.processes) (λ k. receiving_at m serial (id_by_tid m.processes k)))
