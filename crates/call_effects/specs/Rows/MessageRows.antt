-- The verdicts on the calls that send, forward, receive and return messages.
use Rattle.std.specs.Prelude.{ℕ, ◌++◌, Bool, unwrap_or, List, [], ◌∷◌, Option, Some, None}
use Rattle.xk_base.specs.declared.errors.XousError.TheVariants.{ServerQueueFull}
use Rattle.xk_base.specs.declared.ids.Number.{Number}
use Rattle.xk_base.specs.declared.ids.Serial.{Serial}
use Rattle.xk_base.specs.declared.ids.ThreadId.{ThreadId}
use Rattle.xk_base.specs.declared.ids.Vpn.{Vpn}
use Rattle.xk_base.specs.declared.messages.Message.{Message}
use Rattle.xk_base.specs.declared.messages.MsgKind.TheVariants.{Scalar}
use Rattle.syscall_codec.specs.CallWords.{forward_cid, return_address, return_offset, return_size, return_valid, return_value1}
use Rattle.syscall_codec.specs.CallWords.{return_value2, send_address}
use Rattle.xk_base.specs.Calls.Kinds.{is_answered}
use Rattle.syscall_codec.specs.ReplyWords.{message_words, plain_words, returned_words, scalar1_words, scalar2_words}
use Rattle.xk_base.specs.Tables.Sids.{serial_of}
use Rattle.machine_model.specs.Calling.MemoryCalls.{caller_place}
use Rattle.machine_model.specs.Calling.ServerCalls.{named_server, named_sid, own_server_refusals}
use Rattle.machine_model.specs.Messaging.ForwardCalls.{forward_refusals, held_place, next_arrival, next_arrival_refusals, passable}
use Rattle.machine_model.specs.Messaging.ForwardCalls.{passed_from, passed_number, passed_place, passed_to, with_first}
use Rattle.machine_model.specs.Messaging.Messages.{is_blocking_of, is_lend_of, new_message, new_number}
use Rattle.machine_model.specs.Messaging.ReceiveCalls.{oldest_queued}
use Rattle.machine_model.specs.Messaging.Receivers.{receiver}
use Rattle.machine_model.specs.Messaging.ReturnCalls.{held_by_caller, holder_of, named_number, return_memory_refusals}
use Rattle.machine_model.specs.Messaging.ReturnCalls.{return_scalar_refusals, sender_gets, sender_of_message}
use Rattle.machine_model.specs.Messaging.SendCalls.{arrival, arrival_refusals, is_full_for, named_kind, send_refusals, sender_answered}
use Rattle.machine_model.specs.Messaging.SendCalls.{sent_pages, sent_place, sent_serial}
use Rattle.machine_model.specs.State.Machine.{Machine, Receiving}
use Rattle.machine_model.specs.State.Threads.{Answers, answer_to, both_answers, no_answers}
use Rattle.call_effects.specs.Effects.{Awaits, Effect, Ends, Pages, Passes, Returned, Sends, Serves, TakesNumber, Taken, Waits, arriving}
use Rattle.call_effects.specs.Verdicts.{RefusedIf, RetriedIf, Row, Verdict, answers_caller, answers_nobody, answers_with}

-- ---- sends

-- a thread that waits for a message is answered the one that comes
abbrev pub arrival_answers : Option ThreadId → Message → Answers
arrival_answers None message = no_answers
arrival_answers (Some who) message = answer_to who (message_words message)

-- an accepted send, with the first page of the free run at the receiver: the pages go, the message gets its number, a sender that
-- is to be answered waits, and the message arrives
abbrev pub sent_row : Vpn → Row
sent_row first m w =
    let kind = unwrap_or (named_kind w) Scalar in
    let serial = sent_serial m w in
    let message = new_message m kind w first in
    let pages = Sends kind (caller_place m (send_address w)) (sent_pages w) (sent_place m w first) (new_number m) in
    answers_with (both_answers (arrival_answers (receiver m serial) message) (sender_answered (is_answered kind) m.cursor))
    (Pages pages
    ∷ TakesNumber
    ∷ Awaits (is_answered kind) (new_number m)
    ∷ Serves serial (arriving (receiver m serial) message)
    ∷ [])

-- .. where there is a free run, if it carries pages
abbrev pub sent_to_row : Row
sent_to_row m w =
    RefusedIf (arrival_refusals w (arrival m w)) (sent_row (unwrap_or (arrival m w) (record { 0 = 0 })) m w)

-- SendMessage: to a full server it is to be made again
abbrev pub send_row : Row
send_row m w = RefusedIf (send_refusals m w) (RetriedIf (is_full_for m w) (sent_to_row m w))

-- TrySendMessage: to a full server it is refused
abbrev pub try_send_row : Row
try_send_row m w = RefusedIf (send_refusals m w ++ (is_full_for m w, ServerQueueFull) ∷ []) (sent_to_row m w)

-- ---- forwards

-- an accepted forward: the message leaves its server, its pages go to their new places, and it arrives at the other server
abbrev pub passed_row : Machine → ℕ → Vpn → Serial → Serial → Message → Verdict
passed_row m cid first from to message =
    let next = with_first first message in
    answers_with (both_answers (arrival_answers (receiver m to) next) (answer_to m.cursor plain_words))
    (Serves from (Returned message.number)
    ∷ Pages (Passes message.number (held_place m message) (passed_place m cid first))
    ∷ Serves to (arriving (receiver m to) next)
    ∷ [])

-- .. of the message that there is
abbrev pub passed_if : Machine → Number → ℕ → Vpn → Option Message → Verdict
passed_if m number cid first None = answers_nobody []
passed_if m number cid first (Some message) =
    passed_row m cid first (unwrap_or (passed_from m number) (serial_of 0)) (unwrap_or (passed_to m cid) (serial_of 0)) message

-- ForwardMessage: the tests before the new places are looked for, and that after it
abbrev pub forward_row : Row
forward_row m w =
    let number = passed_number w in
    let first = next_arrival m number (forward_cid w) in
    RefusedIf (forward_refusals m number (forward_cid w))
    (RefusedIf (next_arrival_refusals first)
    (passed_if m number (forward_cid w) (unwrap_or first (record { 0 = 0 })) (passable m number)))

-- ---- receives

-- the caller gets the oldest queued message; where none is queued the last is what comes
abbrev pub taken_or : Machine → Serial → Option Message → Verdict → Verdict
taken_or m serial None otherwise = otherwise
taken_or m serial (Some message) otherwise = answers_caller m (message_words message) (Serves serial (Taken message) ∷ [])

-- ReceiveMessage: without a queued message the caller waits
abbrev pub receive_row : Row
receive_row m w =
    let serial = named_server m (named_sid w) in
    RefusedIf (own_server_refusals m (named_sid w))
    (taken_or m serial (oldest_queued m serial) (answers_nobody (Waits m.cursor (Receiving serial) ∷ [])))

-- TryReceiveMessage: without one it answers that there is none
abbrev pub try_receive_row : Row
try_receive_row m w =
    let serial = named_server m (named_sid w) in
    RefusedIf (own_server_refusals m (named_sid w))
    (taken_or m serial (oldest_queued m serial) (answers_caller m plain_words []))

-- ---- returns

-- the held message of that number leaves its server, and these effects follow; its sender is answered these words, and the caller
-- that the call was served
abbrev pub returned_row : Machine → Number → (Message → Bool) → List ℕ → List Effect → Verdict
returned_row m number test words effects =
    let sender = sender_of_message (held_by_caller m test) in
    answers_with (both_answers (answer_to m.cursor plain_words) (sender_gets words sender))
    (Serves (unwrap_or (holder_of m test) (serial_of 0)) (Returned number) ∷ effects)

-- ReturnMemory: the loan ends
abbrev pub return_memory_row : Row
return_memory_row m w =
    let number = named_number w in
    RefusedIf (return_memory_refusals m number (return_address w) (return_size w))
    (returned_row m number (is_lend_of number) (returned_words (return_offset w) (return_valid w)) (Pages (Ends number) ∷ []))

-- ReturnScalar1: the sender gets one value
abbrev pub return_scalar1_row : Row
return_scalar1_row m w =
    let number = named_number w in
    RefusedIf (return_scalar_refusals m number)
    (returned_row m number (is_blocking_of number) (scalar1_words (return_value1 w)) [])

-- ReturnScalar2: .. and two
abbrev pub return_scalar2_row : Row
return_scalar2_row m w =
    let number = named_number w in
    RefusedIf (return_scalar_refusals m number)
    (returned_row m number (is_blocking_of number) (scalar2_words (return_value1 w) (return_value2 w)) [])
