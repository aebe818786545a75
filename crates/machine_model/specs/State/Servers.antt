-- Servers: how one is found by its identifier or by a connection, and how one is changed.
use Rattle.std.specs.Prelude.{ℕ, ◌+◌, ◌==◌, Bool, false, List, length, ◌++◌, Option, Some, None, nat_eq}
use Rattle.std.specs.Option.{option_and_then, option_map}
use Rattle.xk_base.specs.declared.ids.Pid.{Pid}
use Rattle.xk_base.specs.declared.ids.Serial.{Serial}
use Rattle.xk_base.specs.declared.ids.Sid.{Sid}
use Rattle.xk_base.specs.declared.messages.Message.{Message}
use Rattle.xk_base.specs.declared.limits.TheConstants.{MESSAGE_LIMIT}
use Rattle.xk_base.specs.Tables.Sids.{serial_with, is_owned_by, live_below}
use Rattle.xk_base.specs.Tables.Counting.{put_at}
use Rattle.machine_model.specs.State.Connections.{own_connections}
use Rattle.xk_base.specs.Tables.Connections.{connected_to}
use Rattle.machine_model.specs.State.Machine.{Machine, Server}

-- ---- found

-- there is such a server, and it is one of that process
abbrev pub is_server_of : Pid → Option Server → Bool
is_server_of pid server = is_owned_by pid (option_map (λ s. s.pid) server)

-- the live server with that identifier
unfoldable pub with_sid : Machine → Sid → Option Serial
with_sid m sid = serial_with sid m.next_serial (λ n. option_map (λ server. server.sid) (m.servers n))

-- the server is one of the caller's process
abbrev pub is_own : Machine → Option Serial → Bool
is_own m None = false
is_own m (Some serial) = is_server_of m.cursor.pid (m.servers serial.0)

-- the live server that a connection of the caller's process leads to
abbrev pub server_at : Machine → ℕ → Option Server
server_at m cid = option_and_then (λ serial. m.servers serial.0) (connected_to (own_connections m) cid)

-- how many servers are alive
unfoldable pub live_servers : Machine → ℕ
live_servers m = live_below m.next_serial m.servers

-- ---- their messages

abbrev pub messages_of : Server → List Message
messages_of server = server.queued ++ server.held

-- every message has a slot, queued or held
abbrev pub slots_used : Server → ℕ
slots_used server = length server.queued + length server.held

-- there is such a server, and all its slots are in use
abbrev pub is_full : Option Server → Bool
is_full None = false
is_full (Some server) = slots_used server == MESSAGE_LIMIT

-- ---- changed

-- the machine with that server changed, where it is alive
abbrev pub change_server : Serial → (Server → Server) → Machine → Machine
change_server serial change m = record m { servers = put_at nat_eq m.servers serial.0 (option_map change (m.servers serial.0)) }
