-- A message arrives at the live server to which a connection leads: what it does at its seat, and who is answered.
use Rattle.std.specs.Prelude.{◌≡◌, ℕ, List, is_some, Option, Some, None}
use Rattle.machine_model.specs.Messaging.ReturnCalls.{sender_gets as thread_gets}
use Rattle.machine_model.specs.Messaging.SendCalls.{sender_answered}
use Rattle.machine_model.specs.State.Machine.{Waiting}
use Rattle.machine_model.specs.State.Threads.{Answers, both_answers, with_state}
use Rattle.msg_queue.specs.Seats.{Seat, with_queued}
use Rattle.msg_queue.specs.declared.held.Held.{Held}
use Rattle.server_table.specs.ServerState.{ServerState}
use Rattle.syscall_codec.specs.ReplyWords.{message_words}
use Rattle.xk_base.specs.Tables.Connections.{connected_to}
use Rattle.xk_base.specs.declared.ids.Number.{Number}
use Rattle.xk_base.specs.declared.ids.Serial.{Serial}
use Rattle.xk_base.specs.declared.ids.ThreadId.{ThreadId}
use Rattle.xk_base.specs.declared.messages.Message.{Message}
use Rattle.xk_parts.specs.Seats.{IsSeatOf}
use Rattle.send_path.specs.Seats.{with_received}
use Rattle.xk_parts.specs.Threads.{ThreadMap, changed_thread}
use Rattle.send_path.specs.declared.seats.Reached.{Reached}

-- ---- the server

-- it is alive, and the connection of that number leads to it
pub record IsReached (connections : List Serial) (cid : ℕ) (servers : ServerState) (to : Reached) : Type 0 where
  pub connected : connected_to connections cid ≡ Some to.serial
  pub seat : IsSeatOf servers to.serial.0 to.seat
  pub own : seat.server.pid ≡ to.pid

-- a connection of that number leads to no live server
abbrev pub IsUnreached : List Serial → ℕ → ServerState → Type 0
IsUnreached connections cid servers = (serial : Serial) → connected_to connections cid ≡ Some serial → servers.live serial.0 ≡ None

abbrev pub IsReachedIf : List Serial → ℕ → ServerState → Option Reached → Type 0
IsReachedIf connections cid servers None = IsUnreached connections cid servers
IsReachedIf connections cid servers (Some to) = IsReached connections cid servers to

-- ---- what arrives there

-- the thread received the message; where none did it is the newest queued
abbrev pub with_arrived : Option ThreadId → Held → Seat → Seat
with_arrived None h seat = with_queued h seat
with_arrived (Some receiver) h seat = with_received h seat

-- ---- threads

-- the caller waits for the answer to the message of that number, or doesn't
abbrev pub waiting_if : Option Number → ThreadId → ThreadMap → ThreadMap
waiting_if None who threads = threads
waiting_if (Some number) who threads = changed_thread who (with_state (Waiting number)) threads

-- the thread that receives the message gets it, and the caller is answered that the call was served unless it waits
abbrev pub arrival_answers : Option ThreadId → Message → Option Number → ThreadId → Answers
arrival_answers receiver message waits who =
    both_answers (thread_gets (message_words message) receiver) (sender_answered (is_some waits) who)
