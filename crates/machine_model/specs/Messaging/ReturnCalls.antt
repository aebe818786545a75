-- ReturnMemory, ReturnScalar1 and ReturnScalar2: a held message is answered. The caller is the thread of the cursor; each call
-- is its list of refusals in their order, then its change and its replies, and then the call from its words.
use Rattle.std.specs.Prelude.{ℕ, ◌*◌, ◌==◌, Bool, false, not, ◌&&◌, find, is_none, unwrap_or, List, [], ◌∷◌, Option, Some, None}
use Rattle.std.specs.List.{list_any}
use Rattle.std.specs.Option.{option_and_then, option_map, option_map_or}
use Rattle.xk_base.specs.declared.errors.XousError.{XousError}
use Rattle.xk_base.specs.declared.errors.XousError.TheVariants.{BadAddress, DoubleFree}
use Rattle.xk_base.specs.declared.ids.Number.{Number}
use Rattle.xk_base.specs.declared.ids.Serial.{Serial}
use Rattle.xk_base.specs.declared.ids.ThreadId.{ThreadId}
use Rattle.xk_base.specs.declared.limits.TheConstants.{PAGE_SIZE}
use Rattle.xk_base.specs.declared.messages.Message.{Message}
use Rattle.syscall_codec.specs.CallWords.{return_token, return_address, return_size, return_offset, return_valid, return_value1}
use Rattle.syscall_codec.specs.CallWords.{return_value2}
use Rattle.xk_base.specs.Tables.Counting.{least_below}
use Rattle.syscall_codec.specs.ReplyWords.{plain_words, returned_words, scalar1_words, scalar2_words}
use Rattle.ledger_model.specs.Steps.{end_loan}
use Rattle.machine_model.specs.State.Changes.{Change, Served, Call, answering, unless_refused}
use Rattle.machine_model.specs.State.Machine.{Machine, Server}
use Rattle.machine_model.specs.Messaging.Messages.{is_lend_of, is_blocking_of, without_held}
use Rattle.xk_base.specs.Tables.Sids.{serial_of}
use Rattle.machine_model.specs.State.Servers.{is_server_of, change_server}
use Rattle.machine_model.specs.State.Threads.{Answers, no_answers, answer_to, both_answers}

-- ---- the message that is answered

-- the message number that the call names
abbrev pub named_number : List ℕ → Number
named_number w = record { 0 = return_token w }

-- the server is alive and holds a message that passes the test
abbrev pub holds : (Message → Bool) → Option Server → Bool
holds test None = false
holds test (Some server) = list_any test server.held

-- the server of the caller's process that holds a message which passes the test
unfoldable pub holder_of : Machine → (Message → Bool) → Option Serial
holder_of m test =
    option_map serial_of (least_below m.next_serial (λ n. is_server_of m.cursor.pid (m.servers n) && holds test (m.servers n)))

-- the first held message of the server that passes the test
abbrev pub held_at : Machine → (Message → Bool) → Serial → Option Message
held_at m test serial = option_and_then (λ server. find test server.held) (m.servers serial.0)

-- the message that it holds
abbrev pub held_by_caller : Machine → (Message → Bool) → Option Message
held_by_caller m test = option_and_then (held_at m test) (holder_of m test)

-- ---- the answer

-- the thread that waits for the answer to it, where there is one
abbrev pub sender_of_message : Option Message → Option ThreadId
sender_of_message message = option_and_then (λ held. held.sender) message

-- a senderless message is answered to nobody
abbrev pub sender_gets : List ℕ → Option ThreadId → Answers
sender_gets words None = no_answers
sender_gets words (Some who) = answer_to who words

-- The held message of that number which passes the test leaves its list. Its sender is answered these words, and the caller
-- that the call was served.
abbrev pub given_back : Machine → Number → (Message → Bool) → List ℕ → Change
given_back m number test words =
    answering (both_answers (answer_to m.cursor plain_words) (sender_gets words (sender_of_message (held_by_caller m test))))
    (change_server (unwrap_or (holder_of m test) (serial_of 0)) (without_held number) m)

-- ---- ReturnMemory

-- the address and the size are those of the message's pages at the receiver
abbrev pub is_its_range : ℕ → ℕ → Message → Bool
is_its_range address size message = (address == PAGE_SIZE * message.first.0) && (size == PAGE_SIZE * message.count)

abbrev pub return_memory_refusals : Machine → Number → ℕ → ℕ → List (Bool × XousError)
return_memory_refusals m number address size =
    let message = held_by_caller m (is_lend_of number) in
    (is_none message, DoubleFree)
    ∷ (not (option_map_or (is_its_range address size) message false), BadAddress)
    ∷ []

-- its loan ends; a senderless message's pages go
abbrev pub return_memory_served : Machine → Number → ℕ → ℕ → Change
return_memory_served m number offset valid =
    let left = given_back m number (is_lend_of number) (returned_words offset valid) in
    record left { machine = record left.machine { ledger = end_loan number m.ledger } }

unfoldable pub return_memory_call : Call
return_memory_call m w =
    unless_refused (return_memory_refusals m (named_number w) (return_address w) (return_size w))
    (Served (return_memory_served m (named_number w) (return_offset w) (return_valid w)))

-- ---- ReturnScalar1 and ReturnScalar2

abbrev pub return_scalar_refusals : Machine → Number → List (Bool × XousError)
return_scalar_refusals m number =
    (is_none (held_by_caller m (is_blocking_of number)), DoubleFree)
    ∷ []

abbrev pub return_scalar_served : Machine → Number → List ℕ → Change
return_scalar_served m number words = given_back m number (is_blocking_of number) words

unfoldable pub return_scalar1_call : Call
return_scalar1_call m w =
    unless_refused (return_scalar_refusals m (named_number w))
    (Served (return_scalar_served m (named_number w) (scalar1_words (return_value1 w))))

unfoldable pub return_scalar2_call : Call
return_scalar2_call m w =
    unless_refused (return_scalar_refusals m (named_number w))
    (Served (return_scalar_served m (named_number w) (scalar2_words (return_value1 w) (return_value2 w))))
