-- The messages of a server's seat, each with its loan, and whose seat it is.
use Rattle.std.specs.Prelude.{◌≡◌, ◌≢◌, ℕ, List, ◌++◌, is_some, Option, Some, None, if◌then◌else◌}
use Rattle.std.specs.Option.{option_and_then}
use Rattle.machine_model.specs.Messaging.Messages.{is_lend}
use Rattle.msg_queue.specs.Seats.{Seat}
use Rattle.msg_queue.specs.declared.held.Held.{Held}
use Rattle.server_table.specs.ServerState.{Server, ServerState, is_of, with_sid}
use Rattle.xk_base.specs.declared.ids.Pid.{Pid}
use Rattle.xk_base.specs.declared.ids.Serial.{Serial}
use Rattle.xk_base.specs.declared.ids.Sid.{Sid}

-- all messages of a seat
abbrev pub messages_at : Seat → List Held
messages_at seat = seat.queued ++ seat.held

-- the message has a loan exactly where it is a lend or mutable lend
abbrev pub HasLoanIfLend : Held → Type 0
HasLoanIfLend h = is_some h.loan ≡ is_lend h.msg.kind

-- the live server of that serial has this seat
pub record IsSeatOf (servers : ServerState) (serial seat : ℕ) : Type 0 where
  pub server : Server
  pub live : servers.live serial ≡ Some server
  pub its : server.seat ≡ seat

-- the live server with that identifier, where it is one of the process
abbrev pub own_serial : Pid → Sid → ServerState → Option Serial
own_serial pid sid servers =
    option_and_then (λ serial. if is_of pid (servers.live serial.0) then Some serial else None) (with_sid sid servers)

-- no live server has the seat
abbrev pub HasNoServer : ServerState → ℕ → Type 0
HasNoServer servers seat = (serial : ℕ) (server : Server) → servers.live serial ≡ Some server → server.seat ≢ seat
