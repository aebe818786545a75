-- What a seat shows: the messages that wait for a server, and those that it received and owes an answer, each with its loan.
use Rattle.std.specs.Prelude.{◌≡◌, ℕ, ◌+◌, ◌≤◌, ◌==◌, Bool, ◌&&◌, true, false, List, [], ◌∷◌, ◌++◌, length, All, Option, Some, None}
use Rattle.std.specs.Prelude.{slice_index_or, slice_set}
use Rattle.std.specs.List.{insert, remove, find, position_or_len, list_any}
use Rattle.std.specs.Option.{option_map}
use Rattle.xk_base.specs.declared.ids.Number.{Number}
use Rattle.xk_base.specs.declared.ids.Pid.{Pid}
use Rattle.xk_base.specs.declared.ids.ThreadId.{ThreadId}
use Rattle.xk_base.specs.Tables.Circle.{is_thread_of}
use Rattle.xk_base.specs.Calls.Kinds.{is_answered}
use Rattle.xk_base.specs.declared.messages.Message.{Message}
use Rattle.ledger_model.specs.Loans.{same_number}
use Rattle.msg_queue.specs.declared.held.Held.{Held}

-- oldest queued first; the held in the order in which they stand
pub record Seat : Type 0 where
  pub queued : List Held
  pub held : List Held

abbrev pub empty_seat : Seat
empty_seat = record { queued = []; held = [] }

-- how many messages a seat has
abbrev pub used_of : Seat → ℕ
used_of seat = length seat.queued + length seat.held

-- the seat of that number; an empty one past the last
abbrev pub seat_of : List Seat → ℕ → Seat
seat_of seats k = slice_index_or seats k empty_seat

-- ---- one message

abbrev pub message_of : Held → Message
message_of h = h.msg

abbrev pub is_of_number : Number → Held → Bool
is_of_number number h = same_number h.msg.number number

-- the place of the first message of that number; past the end where none has it
abbrev pub message_place : Number → List Held → ℕ
message_place number messages = position_or_len (is_of_number number) messages

-- the first message of that number
abbrev pub of_number : Number → List Held → Option Held
of_number number messages = find (is_of_number number) messages

-- the place of that message, where there is one
abbrev pub place_found : Number → List Held → Option ℕ
place_found number messages = option_map (λ _. message_place number messages) (of_number number messages)

-- ---- what calls change

-- the seats after this one changed so
abbrev pub changed_at : ℕ → (Seat → Seat) → List Seat → List Seat
changed_at k change seats = slice_set seats k (change (seat_of seats k))

-- the message is the newest queued
abbrev pub with_queued : Held → Seat → Seat
with_queued h seat = record seat { queued = seat.queued ++ h ∷ [] }

-- the message stands at that place of the held
abbrev pub with_held_at : ℕ → Held → Seat → Seat
with_held_at place h seat = record seat { held = insert seat.held place h }

-- the message is the last of the held
abbrev pub with_held : Held → Seat → Seat
with_held h seat = record seat { held = seat.held ++ h ∷ [] }

-- without what stands at that place, if something does
abbrev pub without_queued_at : ℕ → Seat → Seat
without_queued_at place seat = record seat { queued = remove seat.queued place }

abbrev pub without_held_at : ℕ → Seat → Seat
without_held_at place seat = record seat { held = remove seat.held place }

-- without the first message of that number, if one has it
abbrev pub without_queued : Number → Seat → Seat
without_queued number seat = without_queued_at (message_place number seat.queued) seat

abbrev pub without_held : Number → Seat → Seat
without_held number seat = without_held_at (message_place number seat.held) seat

-- ---- the first message of a process

-- a thread of the process waits for the answer to the message: it sent a lend or a blocking scalar
unfoldable pub is_awaited_in : Pid → Held → Bool
is_awaited_in pid h = is_answered h.msg.kind && is_thread_of pid h.msg.sender

-- the number is that of such a message, and no such message has a lower one
pub record IsLeast (pid : Pid) (messages : List Held) (number : Number) : Type 0 where
  pub found : list_any (λ h. is_awaited_in pid h && is_of_number number h) messages ≡ true
  pub least : All (λ h. is_awaited_in pid h ≡ true → number.0 ≤ h.msg.number.0) messages

-- what is the first of these messages that a thread of the process waits for
abbrev pub IsFirstOf : Pid → List Held → Option Number → Type 0
IsFirstOf pid messages None = All (λ h. is_awaited_in pid h ≡ false) messages
IsFirstOf pid messages (Some number) = IsLeast pid messages number
