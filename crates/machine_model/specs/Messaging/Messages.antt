-- Messages: what the kinds mean, what a send makes, and what a message does at its server.
use Rattle.std.specs.Prelude.{ℕ, ◌*◌, ◌/◌, Bool, true, false, not, ◌&&◌, is_some, List, [], ◌∷◌, ◌++◌, drop, filter, if◌then◌else◌, Option}
use Rattle.std.specs.Prelude.{Some, None}
use Rattle.std.specs.Option.{option_map_or}
use Rattle.xk_base.specs.declared.ids.Number.{Number}
use Rattle.xk_base.specs.declared.ids.Pid.{Pid}
use Rattle.xk_base.specs.declared.ids.ThreadId.{ThreadId}
use Rattle.xk_base.specs.declared.ids.Vpn.{Vpn}
use Rattle.xk_base.specs.declared.limits.TheConstants.{PAGE_SIZE}
use Rattle.xk_base.specs.declared.messages.Message.{Message}
use Rattle.xk_base.specs.declared.messages.MsgKind.{MsgKind}
use Rattle.xk_base.specs.declared.messages.MsgKind.TheVariants.{LendMut, Lend, Move, Scalar, BlockingScalar}
use Rattle.xk_base.specs.declared.pages.LoanKind.{LoanKind}
use Rattle.xk_base.specs.declared.pages.LoanKind.TheVariants.{Shared, Exclusive}
use Rattle.syscall_codec.specs.CallWords.{send_id, send_words, send_length, send_offset, send_valid}
use Rattle.xk_base.specs.Tables.Circle.{same_thread, is_thread_of}
use Rattle.xk_base.specs.Calls.Kinds.{is_answered}
use Rattle.ledger_model.specs.Loans.{same_number}
use Rattle.machine_model.specs.State.Machine.{Machine, Server}

-- ---- kinds

-- it carries pages, and no arguments
abbrev pub carries_pages : MsgKind → Bool
carries_pages LendMut = true
carries_pages Lend = true
carries_pages Move = true
carries_pages Scalar = false
carries_pages BlockingScalar = false

-- the kind of the loan that it makes: a mutable lend leaves its pages to the holder alone; any other makes none
abbrev pub loan_kind : MsgKind → Option LoanKind
loan_kind LendMut = Some Exclusive
loan_kind Lend = Some Shared
loan_kind Move = None
loan_kind Scalar = None
loan_kind BlockingScalar = None

-- its pages are on loan until it is returned
abbrev pub is_lend : MsgKind → Bool
is_lend kind = is_some (loan_kind kind)

-- ---- tests

abbrev pub is_of_number : Number → Message → Bool
is_of_number number message = same_number message.number number

-- a lend or mutable lend of that number
abbrev pub is_lend_of : Number → Message → Bool
is_lend_of number message = is_of_number number message && is_lend message.kind

abbrev pub is_blocking_scalar : MsgKind → Bool
is_blocking_scalar LendMut = false
is_blocking_scalar Lend = false
is_blocking_scalar Move = false
is_blocking_scalar Scalar = false
is_blocking_scalar BlockingScalar = true

-- a blocking scalar of that number
abbrev pub is_blocking_of : Number → Message → Bool
is_blocking_of number message = is_of_number number message && is_blocking_scalar message.kind

-- the thread waits for the answer to the message
abbrev pub is_sent_by : ThreadId → Message → Bool
is_sent_by who message = option_map_or (same_thread who) message.sender false

-- .. a thread of the process does
abbrev pub is_sent_from : Pid → Message → Bool
is_sent_from pid message = is_thread_of pid message.sender

-- ---- what a send makes

-- the number that the next accepted message gets
abbrev pub new_number : Machine → Number
new_number m = record { 0 = m.next_number }

-- the thread that waits for the answer to a message of that kind, which it sent; none where none is to come
abbrev pub sender_of : MsgKind → ThreadId → Option ThreadId
sender_of kind who = if is_answered kind then Some who else None

-- The message that the caller sends by these words. `first` is the first page at the receiver, where it carries pages: its
-- words are then the address there, the length, offset and valid, and else the four arguments.
abbrev pub new_message : Machine → MsgKind → List ℕ → Vpn → Message
new_message m kind w first = record {
  number = new_number m;
  sender = sender_of kind m.cursor;
  kind = kind;
  id = send_id w;
  words = if carries_pages kind then PAGE_SIZE * first.0 ∷ send_length w ∷ send_offset w ∷ send_valid w ∷ [] else send_words w;
  first = record { 0 = if carries_pages kind then first.0 else 0 };
  count = if carries_pages kind then send_length w / PAGE_SIZE else 0;
}

-- ---- at a server

-- the message is the newest queued
abbrev pub with_queued : Message → Server → Server
with_queued message server = record server { queued = server.queued ++ message ∷ [] }

-- a thread received the message: one that is to be answered is held and keeps its slot, any other leaves it
abbrev pub with_received : Message → Server → Server
with_received message server = record server {
  held = if is_answered message.kind then server.held ++ message ∷ [] else server.held;
}

-- the oldest queued message
abbrev pub oldest : List Message → Option Message
oldest [] = None
oldest (message ∷ messages) = Some message

-- the oldest queued message is queued no more
abbrev pub without_oldest : Server → Server
without_oldest server = record server { queued = drop 1 server.queued }

-- the held message of that number was returned
abbrev pub without_held : Number → Server → Server
without_held number server = record server { held = filter (λ message. not (is_of_number number message)) server.held }
