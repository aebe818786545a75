-- The servers as a finite map from the serial to the living server. A serial is given once: only serials below the
-- next one ever have a value, and what has no value isn't alive.
use Rattle.std.specs.Prelude.{ℕ, ◌+◌, ◌==◌, Bool, false, List, Option, Some, None, Result, Ok, Err, nat_eq, is_some, is_none, if◌then◌else◌}
use Rattle.std.specs.Option.{option_map, option_and_then}
use Rattle.xk_base.specs.declared.errors.XousError.{XousError}
use Rattle.xk_base.specs.declared.errors.XousError.TheVariants.{ServerExists, InvalidLimit}
use Rattle.xk_base.specs.declared.ids.Pid.{Pid}
use Rattle.xk_base.specs.declared.ids.Serial.{Serial}
use Rattle.xk_base.specs.declared.ids.Sid.{Sid}
use Rattle.xk_base.specs.declared.limits.TheConstants.{SERVER_LIMIT}
use Rattle.xk_base.specs.Tables.Sids.{serial_of, serial_with, is_owned_by, live_below}
use Rattle.xk_base.specs.Tables.Counting.{least_below, listed_below, put_at}
use Rattle.server_table.specs.declared.table.ServerSeat.{ServerSeat}

-- a living server, as its serial finds it
pub record Server : Type 0 where
  pub sid : Sid
  pub pid : Pid
  pub seat : ℕ

-- the serial that the next server gets, and the living servers by serial
pub record ServerState : Type 0 where
  pub next : ℕ
  pub live : ℕ → Option Server

-- no server was ever made; serials begin at 1
abbrev pub no_servers : ServerState
no_servers = record { next = 1; live = λ _. None }

-- there is a server, and it is one of the process
abbrev pub is_of : Pid → Option Server → Bool
is_of pid server = is_owned_by pid (option_map (λ s. s.pid) server)

-- there is a server, and it has that seat
abbrev pub has_seat : ℕ → Option Server → Bool
has_seat seat None = false
has_seat seat (Some s) = s.seat == seat

-- the least serial of a living server that passes the test; none where none passes
abbrev pub least_serial : (Option Server → Bool) → ServerState → Option ℕ
least_serial test s = least_below s.next (λ n. test (s.live n))

-- the living server with that identifier
abbrev pub with_sid : Sid → ServerState → Option Serial
with_sid sid s = serial_with sid s.next (λ n. option_map (λ server. server.sid) (s.live n))

-- the living server of the process with the least serial
abbrev pub least_of : Pid → ServerState → Option Serial
least_of pid s = option_map serial_of (least_serial (is_of pid) s)

-- what stands at a seat
abbrev pub seat_view : ℕ → Server → ServerSeat
seat_view n s = record { sid = s.sid; serial = serial_of n; pid = s.pid }

-- the living server at the seat; none where the seat is empty
abbrev pub at_seat : ℕ → ServerState → Option ServerSeat
at_seat seat s = option_and_then (λ n. option_map (seat_view n) (s.live n)) (least_serial (has_seat seat) s)

-- the least empty seat; none where all are taken
abbrev pub free_seat : ServerState → Option ℕ
free_seat s = least_below SERVER_LIMIT (λ seat. is_none (at_seat seat s))

-- how many servers are alive
abbrev pub live_count : ServerState → ℕ
live_count s = live_below s.next s.live

-- the answer to a new server
abbrev pub made_answer : Sid → ServerState → Result Serial XousError
made_answer sid s =
    if is_some (with_sid sid s) then Err ServerExists else (
    if live_count s == SERVER_LIMIT then Err InvalidLimit else
    Ok (serial_of s.next))

-- the servers with a new one at that seat
abbrev pub with_server : Sid → Pid → Option ℕ → ServerState → ServerState
with_server sid pid None s = s
with_server sid pid (Some seat) s =
    record { next = s.next + 1; live = put_at nat_eq s.live s.next (Some (record { sid = sid; pid = pid; seat = seat })) }

-- the servers without the one with that serial
abbrev pub without_server : ℕ → ServerState → ServerState
without_server serial s = record s { live = put_at nat_eq s.live serial None }

-- the serials of the living servers in ascending order, each once
abbrev pub live_serials : ServerState → List ℕ
live_serials s = listed_below s.next (λ n. is_some (s.live n))
