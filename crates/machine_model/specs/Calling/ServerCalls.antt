-- The calls that make, find and end servers. Each is its list of refusals in their order, then its change and its reply, and
-- then the call from its words. The caller is the thread of the cursor.
use Rattle.std.specs.Prelude.{ℕ, ◌+◌, ◌==◌, Bool, not, nat_eq, is_none, is_some, unwrap_or, List, [], ◌∷◌, Some}
use Rattle.xk_base.specs.declared.errors.XousError.{XousError}
use Rattle.xk_base.specs.declared.errors.XousError.TheVariants.{ServerExists, ServerNotFound, InvalidLimit}
use Rattle.xk_base.specs.declared.ids.Serial.{Serial}
use Rattle.xk_base.specs.declared.ids.Sid.{Sid}
use Rattle.xk_base.specs.declared.limits.TheConstants.{SERVER_LIMIT}
use Rattle.syscall_codec.specs.CallWords.{sid_words}
use Rattle.xk_base.specs.Tables.Counting.{put_at}
use Rattle.syscall_codec.specs.ReplyWords.{plain_words, connection_words, new_server_words}
use Rattle.machine_model.specs.State.Changes.{Change, Served, Call, answering, unless_refused, unless_retried}
use Rattle.machine_model.specs.Ending.Closing.{destroyed}
use Rattle.machine_model.specs.State.Connections.{own_connections, connect_caller}
use Rattle.xk_base.specs.Tables.Connections.{has_room, cid_for}
use Rattle.machine_model.specs.State.Machine.{Machine, Server}
use Rattle.xk_base.specs.Tables.Sids.{serial_of}
use Rattle.machine_model.specs.State.Servers.{with_sid, is_own, live_servers}
use Rattle.machine_model.specs.State.Threads.{answer_to, both_answers}

-- the identifier that the call names
abbrev pub named_sid : List ℕ → Sid
named_sid w = record { 0 = sid_words w }

-- the live server with that identifier, which there is
abbrev pub named_server : Machine → Sid → Serial
named_server m sid = unwrap_or (with_sid m sid) (serial_of 0)

-- ---- CreateServerWithAddress

-- the serial that the next server gets
abbrev pub new_serial : Machine → Serial
new_serial m = serial_of m.next_serial

abbrev pub create_server_refusals : Machine → Sid → List (Bool × XousError)
create_server_refusals m sid =
    (is_some (with_sid m sid), ServerExists)
    ∷ (live_servers m == SERVER_LIMIT, InvalidLimit)
    ∷ (not (has_room (new_serial m) (own_connections m)), InvalidLimit)
    ∷ []

-- a server of the caller's process without a message
abbrev pub new_server : Machine → Sid → Server
new_server m sid = record { sid = sid; pid = m.cursor.pid; queued = []; held = [] }

abbrev pub with_server : Server → Machine → Machine
with_server server m = record m {
  servers = put_at nat_eq m.servers m.next_serial (Some server);
  next_serial = m.next_serial + 1;
}

-- the server is there, and the caller is connected to it
abbrev pub create_server_served : Machine → Sid → Change
create_server_served m sid =
    answering (answer_to m.cursor (new_server_words sid (cid_for (new_serial m) (own_connections m))))
    (connect_caller (new_serial m) (with_server (new_server m sid) m))

unfoldable pub create_server_call : Call
create_server_call m w =
    unless_refused (create_server_refusals m (named_sid w)) (Served (create_server_served m (named_sid w)))

-- ---- Connect and TryConnect

-- no live server has the identifier
abbrev pub is_missing : Machine → Sid → Bool
is_missing m sid = is_none (with_sid m sid)

-- where the server is alive
abbrev pub connect_refusals : Machine → Sid → List (Bool × XousError)
connect_refusals m sid =
    (not (has_room (named_server m sid) (own_connections m)), InvalidLimit)
    ∷ []

-- the connection that is there, or else a new one
abbrev pub connect_served : Machine → Sid → Change
connect_served m sid =
    answering (answer_to m.cursor (connection_words (cid_for (named_server m sid) (own_connections m))))
    (connect_caller (named_server m sid) m)

-- without a live server of the identifier Connect retries
unfoldable pub connect_call : Call
connect_call m w =
    unless_retried (is_missing m (named_sid w))
    (unless_refused (connect_refusals m (named_sid w)) (Served (connect_served m (named_sid w))))

-- .. and TryConnect is refused
unfoldable pub try_connect_call : Call
try_connect_call m w =
    unless_refused ((is_missing m (named_sid w), ServerNotFound) ∷ connect_refusals m (named_sid w))
    (Served (connect_served m (named_sid w)))

-- ---- DestroyServer

-- of the calls that serve a server of the caller's process: the identifier is not that of one
abbrev pub own_server_refusals : Machine → Sid → List (Bool × XousError)
own_server_refusals m sid =
    (not (is_own m (with_sid m sid)), ServerNotFound)
    ∷ []

abbrev pub destroy_served : Machine → Sid → Change
destroy_served m sid =
    let left = destroyed (named_server m sid) m in
    record left { answers = both_answers (answer_to m.cursor plain_words) left.answers }

unfoldable pub destroy_call : Call
destroy_call m w = unless_refused (own_server_refusals m (named_sid w)) (Served (destroy_served m (named_sid w)))
