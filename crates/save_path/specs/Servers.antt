-- The server with the next serial.
use Rattle.std.specs.Prelude.{◌≡◌, ℕ, ◌≤◌, ◌<◌, nat_le, nat_lt, Option, Some, None, if◌then◌else◌}
use Rattle.server_table.specs.ServerState.{Server, ServerState}
use Rattle.server_table.specs.declared.table.ServerSeat.{ServerSeat}
use Rattle.save_path.specs.declared.servers.Seated.{Seated}
use Rattle.xk_base.specs.declared.limits.TheConstants.{SERVER_LIMIT}

-- the server as its serial finds it
abbrev pub table_server : Seated → Server
table_server s = record { sid = s.server.sid; pid = s.server.pid; seat = s.seat }

-- the first of two servers, or the second where its serial is lower
abbrev pub lower_of : Option Seated → Seated → Option Seated
lower_of None other = Some other
lower_of (Some least) other = if nat_le least.server.serial.0 other.server.serial.0 then Some least else Some other

-- .. where the second counts only from a serial on
abbrev pub lower_seated : Option Seated → ℕ → Option ServerSeat → ℕ → Option Seated
lower_seated least seat None from = least
lower_seated least seat (Some server) from =
    if nat_lt server.serial.0 from then least else lower_of least (record { seat = seat; server = server })

-- the live server with the least serial from a serial on
pub record IsNext (servers : ServerState) (from : ℕ) (s : Seated) : Type 0 where
  pub live : servers.live s.server.serial.0 ≡ Some (table_server s)
  pub behind : from ≤ s.server.serial.0
  pub least : (n : ℕ) → from ≤ n → n < s.server.serial.0 → servers.live n ≡ None
  pub seat : s.seat < SERVER_LIMIT

-- .. or none, where there is none from there on
abbrev pub IsNextServer : ServerState → ℕ → Option Seated → Type 0
IsNextServer servers from None = (n : ℕ) → from ≤ n → servers.live n ≡ None
IsNextServer servers from (Some s) = IsNext servers from s
