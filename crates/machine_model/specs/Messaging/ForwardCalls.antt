-- ForwardMessage: a server passes a lend on to another server, and the lender waits on. The caller is the thread of the cursor;
-- the call is its list of refusals in their order, then its change and its replies, and then the call from its words.
use Rattle.std.specs.Prelude.{ℕ, ◌*◌, ◌==◌, Bool, false, ◌&&◌, drop, is_none, is_some, unwrap_or, List, [], ◌∷◌, Option, Some, None}
use Rattle.std.specs.Option.{option_and_then, option_map_or}
use Rattle.xk_base.specs.declared.errors.XousError.{XousError}
use Rattle.xk_base.specs.declared.errors.XousError.TheVariants.{MemoryInUse, ServerNotFound, ServerQueueFull, InvalidSyscall, DoubleFree}
use Rattle.xk_base.specs.declared.ids.Number.{Number}
use Rattle.xk_base.specs.declared.ids.Place.{Place}
use Rattle.xk_base.specs.declared.ids.Serial.{Serial}
use Rattle.xk_base.specs.declared.ids.Vpn.{Vpn}
use Rattle.xk_base.specs.declared.limits.TheConstants.{PAGE_SIZE}
use Rattle.xk_base.specs.declared.messages.Message.{Message}
use Rattle.syscall_codec.specs.CallWords.{forward_token, forward_cid}
use Rattle.syscall_codec.specs.ReplyWords.{plain_words}
use Rattle.ledger_model.specs.Steps.{pass}
use Rattle.machine_model.specs.State.Changes.{Change, Outcome, Served, Call, only, unless_refused}
use Rattle.machine_model.specs.State.Connections.{own_connections}
use Rattle.xk_base.specs.Tables.Connections.{connected_to}
use Rattle.machine_model.specs.State.Machine.{Machine}
use Rattle.machine_model.specs.Messaging.Messages.{is_lend_of, without_held}
use Rattle.machine_model.specs.Messaging.Receivers.{receiver}
use Rattle.machine_model.specs.Messaging.ReturnCalls.{holder_of, held_by_caller}
use Rattle.machine_model.specs.Messaging.SendCalls.{message_run, arrived}
use Rattle.xk_base.specs.Tables.Sids.{serial_of}
use Rattle.machine_model.specs.State.Servers.{server_at, is_full, change_server}
use Rattle.machine_model.specs.State.Threads.{answer_to, both_answers}

-- ---- what the words name

-- the message number that the call names
abbrev pub passed_number : List ℕ → Number
passed_number w = record { 0 = forward_token w }

-- a lend or mutable lend of that number that has a sender
abbrev pub is_passable_of : Number → Message → Bool
is_passable_of number message = is_lend_of number message && is_some message.sender

-- .. which a server of the caller's process holds
abbrev pub passable : Machine → Number → Option Message
passable m number = held_by_caller m (is_passable_of number)

-- the server that holds it, and the one that a connection of the caller's process leads to, alive or dead
abbrev pub passed_from : Machine → Number → Option Serial
passed_from m number = holder_of m (is_passable_of number)

abbrev pub passed_to : Machine → ℕ → Option Serial
passed_to m cid = connected_to (own_connections m) cid

-- Where its pages go: the least free run of so many in the Message window of the other server's process. The places that they
-- leave are not free yet.
unfoldable pub next_arrival : Machine → Number → ℕ → Option Vpn
next_arrival m number cid =
    option_and_then (message_run m (option_map_or (λ message. message.count) (passable m number) 0)) (server_at m cid)

-- ---- refusals

-- both are there, and are one
abbrev pub are_one_server : Option Serial → Option Serial → Bool
are_one_server None b = false
are_one_server (Some a) None = false
are_one_server (Some a) (Some b) = a.0 == b.0

-- those before the new places are looked for
abbrev pub forward_refusals : Machine → Number → ℕ → List (Bool × XousError)
forward_refusals m number cid =
    (is_none (passable m number), DoubleFree)
    ∷ (is_none (server_at m cid), ServerNotFound)
    ∷ (are_one_server (passed_from m number) (passed_to m cid), InvalidSyscall)
    ∷ (is_full (server_at m cid), ServerQueueFull)
    ∷ []

-- that after it
abbrev pub next_arrival_refusals : Option Vpn → List (Bool × XousError)
next_arrival_refusals first =
    (is_none first, MemoryInUse)
    ∷ []

-- ---- an accepted forward

-- the message at its new server: its address, the first of its words, and its first page are new, and all else stays
abbrev pub with_first : Vpn → Message → Message
with_first first message = record message { words = PAGE_SIZE * first.0 ∷ drop 1 message.words; first = first }

-- where its pages begin at the caller's server, and at the other one
abbrev pub held_place : Machine → Message → Place
held_place m message = record { pid = m.cursor.pid; vpn = message.first }

abbrev pub passed_place : Machine → ℕ → Vpn → Place
passed_place m cid first = record { pid = option_map_or (λ server. server.pid) (server_at m cid) m.cursor.pid; vpn = first }

-- The message leaves its server, its pages go to their new places, and it gets to the other server as a send does. It takes no
-- message number.
abbrev pub passed_message : Machine → ℕ → Vpn → Serial → Serial → Message → Change
passed_message m cid first from to message =
    let gone = change_server from (without_held message.number) m in
    let paged = record gone { ledger = pass message.number (held_place m message) (passed_place m cid first) m.ledger } in
    let left = arrived (receiver m to) to (with_first first message) paged in
    record left { answers = both_answers left.answers (answer_to m.cursor plain_words) }

-- of the message that there is
abbrev pub forward_served_if : Machine → Number → ℕ → Vpn → Option Message → Change
forward_served_if m number cid first None = only m
forward_served_if m number cid first (Some message) =
    passed_message m cid first (unwrap_or (passed_from m number) (serial_of 0)) (unwrap_or (passed_to m cid) (serial_of 0)) message

-- with the first page that is free, which there is
abbrev pub forward_served : Machine → Number → ℕ → Option Vpn → Change
forward_served m number cid first = forward_served_if m number cid (unwrap_or first (record { 0 = 0 })) (passable m number)

-- ---- the call

-- what comes of a forward that no earlier test refuses, with its first page there, where a run is free
abbrev pub forwarded_to : Machine → List ℕ → Option Vpn → Outcome
forwarded_to m w first =
    unless_refused (next_arrival_refusals first) (Served (forward_served m (passed_number w) (forward_cid w) first))

unfoldable pub forward_call : Call
forward_call m w =
    unless_refused (forward_refusals m (passed_number w) (forward_cid w))
    (forwarded_to m w (next_arrival m (passed_number w) (forward_cid w)))
