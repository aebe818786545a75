-- The messages of a server's seat, each with its loan.
use Rattle.std.specs.Prelude.{◌≡◌, ℕ, List, [], ◌∷◌, ◌++◌, Option, Some, None, if◌then◌else◌}
use Rattle.std.specs.Option.{option_map}
use Rattle.xk_base.specs.Calls.Kinds.{is_answered}
use Rattle.msg_queue.specs.Seats.{Seat, message_of, of_number, seat_of}
use Rattle.msg_queue.specs.declared.held.Held.{Held}
use Rattle.server_table.specs.ServerState.{ServerState, at_seat}
use Rattle.server_table.specs.declared.table.ServerSeat.{ServerSeat}
use Rattle.xk_base.specs.declared.ids.Number.{Number}
use Rattle.xk_base.specs.declared.ids.Pid.{Pid}
use Rattle.xk_base.specs.declared.messages.Message.{Message}
use Rattle.xk_parts.specs.Seats.{IsSeatOf}
use Rattle.send_path.specs.declared.holding.HeldAt.{HeldAt}

-- a thread received the message: one that is to be answered is held, any other leaves the seat
abbrev pub with_received : Held → Seat → Seat
with_received h seat = record seat { held = if is_answered h.msg.kind then seat.held ++ h ∷ [] else seat.held }

-- the message of that number that the server at a seat holds, as the server shows it
abbrev pub held_shown : Number → Seat → Option Message
held_shown number seat = option_map message_of (of_number number seat.held)

-- a server of the process holds the message of that number at this seat
pub record IsHeldAt (pid : Pid) (number : Number) (servers : ServerState) (seats : List Seat) (at : HeldAt) : Type 0 where
  pub seat : IsSeatOf servers at.serial.0 at.seat
  pub own : seat.server.pid.0 ≡ pid.0
  pub message : held_shown number (seat_of seats at.seat) ≡ Some at.message

-- no server of the process does at this seat
abbrev pub IsNotHeldAt : Pid → Number → ServerState → List Seat → ℕ → Type 0
IsNotHeldAt pid number servers seats seat =
    (e : ServerSeat) → at_seat seat servers ≡ Some e → e.pid.0 ≡ pid.0 → of_number number (seat_of seats seat).held ≡ None

-- what is found at this seat, and what a search of all seats finds
abbrev pub IsHolderAt : Pid → Number → ServerState → List Seat → ℕ → Option HeldAt → Type 0
IsHolderAt pid number servers seats seat None = IsNotHeldAt pid number servers seats seat
IsHolderAt pid number servers seats seat (Some at) = IsHeldAt pid number servers seats at

abbrev pub IsHolder : Pid → Number → ServerState → List Seat → Option HeldAt → Type 0
IsHolder pid number servers seats None = (seat : ℕ) → IsNotHeldAt pid number servers seats seat
IsHolder pid number servers seats (Some at) = IsHeldAt pid number servers seats at
