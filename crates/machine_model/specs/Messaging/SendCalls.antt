-- SendMessage and TrySendMessage of all five kinds: the refusals in their order, then what an accepted send does, and then the
-- calls from their words. The caller is the thread of the cursor.
use Rattle.std.specs.Prelude.{ℕ, ◌+◌, ◌/◌, Bool, true, false, ◌&&◌, is_none, unwrap_or, List, [], ◌∷◌, ◌++◌, Option, Some, None}
use Rattle.std.specs.Option.{option_and_then, option_map_or}
use Rattle.xk_base.specs.declared.errors.XousError.{XousError}
use Rattle.xk_base.specs.declared.errors.XousError.TheVariants.{BadAlignment, BadAddress, MemoryInUse, ServerNotFound, ServerQueueFull}
use Rattle.xk_base.specs.declared.errors.XousError.TheVariants.{InvalidSyscall, ShareViolation}
use Rattle.xk_base.specs.declared.ids.Number.{Number}
use Rattle.xk_base.specs.declared.ids.Place.{Place}
use Rattle.xk_base.specs.declared.ids.Serial.{Serial}
use Rattle.xk_base.specs.declared.ids.ThreadId.{ThreadId}
use Rattle.xk_base.specs.declared.ids.Vpn.{Vpn}
use Rattle.xk_base.specs.declared.limits.TheConstants.{PAGE_SIZE}
use Rattle.xk_base.specs.declared.messages.Message.{Message}
use Rattle.xk_base.specs.declared.messages.MsgKind.{MsgKind}
use Rattle.xk_base.specs.declared.messages.MsgKind.TheVariants.{LendMut, Lend, Move, Scalar, BlockingScalar}
use Rattle.xk_base.specs.declared.pages.LoanKind.TheVariants.{Shared, Exclusive}
use Rattle.xk_base.specs.declared.windows.Window.TheVariants.{Message as MessageWindow}
use Rattle.syscall_codec.specs.CallWords.{send_cid, send_kind, send_address, send_length}
use Rattle.xk_base.specs.Calls.Kinds.{kind_at, is_answered}
use Rattle.syscall_codec.specs.ReplyWords.{plain_words, message_words}
use Rattle.ledger_model.specs.Ledger.{Ledger}
use Rattle.ledger_model.specs.LeastRun.{least_run}
use Rattle.ledger_model.specs.RunTests.{any_free, any_not_sent}
use Rattle.ledger_model.specs.Steps.{lend, give}
use Rattle.machine_model.specs.State.Changes.{Change, Outcome, Served, Call, only, answering, unless_refused, unless_retried}
use Rattle.machine_model.specs.State.Connections.{own_connections}
use Rattle.xk_base.specs.Tables.Connections.{connected_to}
use Rattle.xk_base.specs.Tables.Sids.{serial_of}
use Rattle.machine_model.specs.State.Machine.{Machine, Server, Waiting}
use Rattle.machine_model.specs.Calling.MemoryCalls.{is_bad_range, caller_place}
use Rattle.machine_model.specs.Messaging.Messages.{carries_pages, new_number, new_message, with_queued, with_received}
use Rattle.machine_model.specs.Messaging.Receivers.{receiver}
use Rattle.machine_model.specs.State.Servers.{server_at, is_full, change_server}
use Rattle.machine_model.specs.State.Threads.{Answers, no_answers, answer_to, both_answers, change_thread, with_state}

-- ---- what the words name

abbrev pub named_kind : List ℕ → Option MsgKind
named_kind w = kind_at (send_kind w)

-- the send carries pages: it is of kind 1, 2 or 3
abbrev pub sends_pages : List ℕ → Bool
sends_pages w = option_map_or carries_pages (named_kind w) false

abbrev pub is_lend_mut : MsgKind → Bool
is_lend_mut LendMut = true
is_lend_mut Lend = false
is_lend_mut Move = false
is_lend_mut Scalar = false
is_lend_mut BlockingScalar = false

-- a mutable lend
abbrev pub sends_lend_mut : List ℕ → Bool
sends_lend_mut w = option_map_or is_lend_mut (named_kind w) false

-- how many pages it sends, where it carries any
abbrev pub sent_pages : List ℕ → ℕ
sent_pages w = send_length w / PAGE_SIZE

-- the least free run of that many pages in the Message window of the server's process, where there is one
abbrev pub message_run : Machine → ℕ → Server → Option Vpn
message_run m n server = least_run m.processes m.ledger server.pid MessageWindow n

-- where the pages go at the receiver
unfoldable pub arrival : Machine → List ℕ → Option Vpn
arrival m w = option_and_then (message_run m (sent_pages w)) (server_at m (send_cid w))

-- ---- refusals

-- those of both calls, up to where the slots of the server are looked at
abbrev pub send_refusals : Machine → List ℕ → List (Bool × XousError)
send_refusals m w =
    let first = caller_place m (send_address w) in
    let n = sent_pages w in
    (is_none (server_at m (send_cid w)), ServerNotFound)
    ∷ (is_none (named_kind w), InvalidSyscall)
    ∷ (sends_pages w && is_bad_range (send_address w) (send_length w), BadAlignment)
    ∷ (sends_pages w && any_free m.processes m.ledger first n, BadAddress)
    ∷ (sends_pages w && any_not_sent m.processes m.ledger first n (sends_lend_mut w), ShareViolation)
    ∷ []

-- the server has 128 slots in use, whatever the kind
abbrev pub is_full_for : Machine → List ℕ → Bool
is_full_for m w = is_full (server_at m (send_cid w))

-- that after it
abbrev pub arrival_refusals : List ℕ → Option Vpn → List (Bool × XousError)
arrival_refusals w first =
    (sends_pages w && is_none first, MemoryInUse)
    ∷ []

-- ---- an accepted send

-- the pages from `from` on are lent or moved to the receiver's place at once
abbrev pub sent_ledger : MsgKind → Place → ℕ → Place → Number → Ledger → Ledger
sent_ledger LendMut from n to number ledger = lend from n to Exclusive number ledger
sent_ledger Lend from n to number ledger = lend from n to Shared number ledger
sent_ledger Move from n to number ledger = give from n to ledger
sent_ledger Scalar from n to number ledger = ledger
sent_ledger BlockingScalar from n to number ledger = ledger

-- the message gets to the thread that is Receiving, or is queued where there is none
abbrev pub arrived : Option ThreadId → Serial → Message → Machine → Change
arrived None serial message m = only (change_server serial (with_queued message) m)
arrived (Some who) serial message m =
    answering (answer_to who (message_words message)) (change_server serial (with_received message) m)

-- a sender that is to be answered waits for it, and any other is answered at once
abbrev pub sender_left : Bool → Number → Machine → Machine
sender_left true number m = change_thread m.cursor (with_state (Waiting number)) m
sender_left false number m = m

-- the answer to the sender in the step of its send
abbrev pub sender_answered : Bool → ThreadId → Answers
sender_answered true who = no_answers
sender_answered false who = answer_to who plain_words

-- the machine with the pages sent, and the next message number taken
abbrev pub with_sent : Machine → MsgKind → Place → ℕ → Place → Machine
with_sent m kind from n to = record m {
  ledger = sent_ledger kind from n to (new_number m) m.ledger;
  next_number = m.next_number + 1;
}

-- where the message goes: the server, which there is, and the place of its first page there
abbrev pub sent_serial : Machine → List ℕ → Serial
sent_serial m w = unwrap_or (connected_to (own_connections m) (send_cid w)) (serial_of 0)

abbrev pub sent_place : Machine → List ℕ → Vpn → Place
sent_place m w first = record { pid = option_map_or (λ server. server.pid) (server_at m (send_cid w)) m.cursor.pid; vpn = first }

-- the send is accepted, of this kind, with its first page there
abbrev pub sent : Machine → MsgKind → List ℕ → Vpn → Change
sent m kind w first =
    let serial = sent_serial m w in
    let paged = with_sent m kind (caller_place m (send_address w)) (sent_pages w) (sent_place m w first) in
    let left = arrived (receiver m serial) serial (new_message m kind w first) (sender_left (is_answered kind) (new_number m) paged) in
    record left { answers = both_answers left.answers (sender_answered (is_answered kind) m.cursor) }

-- of the kind that the words name, and with the first page that is free, which there are
abbrev pub send_served : Machine → List ℕ → Option Vpn → Change
send_served m w first = sent m (unwrap_or (named_kind w) Scalar) w (unwrap_or first (record { 0 = 0 }))

-- ---- the calls

-- what comes of a send to a server with a free slot, with its first page there, where a run is free
abbrev pub sent_to : Machine → List ℕ → Option Vpn → Outcome
sent_to m w first = unless_refused (arrival_refusals w first) (Served (send_served m w first))

-- to a full server SendMessage retries
unfoldable pub send_call : Call
send_call m w =
    unless_refused (send_refusals m w)
    (unless_retried (is_full_for m w) (sent_to m w (arrival m w)))

-- .. and TrySendMessage is refused
unfoldable pub try_send_call : Call
try_send_call m w =
    unless_refused (send_refusals m w ++ (is_full_for m w, ServerQueueFull) ∷ [])
    (sent_to m w (arrival m w))
