-- The seats of servers, and how a serial is found among them. These words are for the table itself; callers see the
-- map of ServerState.
use Rattle.std.specs.Prelude.{ℕ, ◌<◌, ◌≡◌, ◌==◌, Bool, true, false, List, Option, Some, None, is_some, position, if◌then◌else◌}
use Rattle.std.specs.Option.{option_map, option_and_then}
use Rattle.xk_base.specs.declared.ids.Pid.{Pid}
use Rattle.xk_base.specs.declared.ids.Sid.{Sid}
use Rattle.xk_base.specs.declared.limits.TheConstants.{SERVER_LIMIT}
use Rattle.xk_base.specs.Tables.Counting.{count_below}
use Rattle.xk_base.specs.Tables.RowMap.{row_map}
use Rattle.server_table.specs.declared.table.ServerSeat.{ServerSeat}
use Rattle.xk_base.specs.Tables.Sids.{same_sid, is_sid}
use Rattle.server_table.specs.ServerState.{Server}

-- there is a server, and it has that serial
abbrev pub has_serial : ℕ → Option ServerSeat → Bool
has_serial n None = false
has_serial n (Some e) = e.serial.0 == n

-- there is a server, and it has that identifier
abbrev pub seat_has_sid : Sid → Option ServerSeat → Bool
seat_has_sid sid e = is_sid sid (option_map (λ server. server.sid) e)

-- the server at a seat, as its serial finds it
abbrev pub server_of : ℕ → ServerSeat → Server
server_of seat e = record { sid = e.sid; pid = e.pid; seat = seat }

-- the seat with that serial
abbrev pub seat_with : List (Option ServerSeat) → ℕ → Option ℕ
seat_with seats n = position (has_serial n) seats

-- the living server with that serial
unfoldable pub by_serial : List (Option ServerSeat) → ℕ → Option Server
by_serial seats n = option_and_then (λ i. option_map (server_of i) (row_map seats i)) (seat_with seats n)

-- serials are below the next one, and no two seats have one serial or one identifier
pub record AreApart (seats : List (Option ServerSeat)) (next : ℕ) : Type 0 where
  pub below : (i : ℕ) (e : ServerSeat) → row_map seats i ≡ Some e → e.serial.0 < next
  pub serials : (i j : ℕ) (a b : ServerSeat) → row_map seats i ≡ Some a → row_map seats j ≡ Some b → a.serial.0 ≡ b.serial.0 → i ≡ j
  pub sids : (i j : ℕ) (a b : ServerSeat) → row_map seats i ≡ Some a → row_map seats j ≡ Some b → same_sid a.sid b.sid ≡ true → i ≡ j

-- as many seats are taken as servers are alive
abbrev pub AreCounted : List (Option ServerSeat) → ℕ → Type 0
AreCounted seats next = count_below next (λ n. is_some (by_serial seats n)) ≡ count_below SERVER_LIMIT (λ i. is_some (row_map seats i))

-- the number of the server's serial, where there is one of the process
abbrev pub own_serial : Pid → Option ServerSeat → Option ℕ
own_serial pid None = None
own_serial pid (Some e) = if e.pid.0 == pid.0 then Some e.serial.0 else None
