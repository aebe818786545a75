-- Each call of the table is what the verdict of its row means.
use Rattle.std.proofs.Common.{◌≡◌, ℕ, Bool, true, false, List, [], ◌∷◌, Option, Some, None, refl, ap, unwrap_or, ◌++◌}
use Rattle.std.specs.Prelude.{◌==◌, if◌then◌else◌}
use Rattle.xk_base.specs.declared.messages.Message.{Message}
use Rattle.xk_base.specs.declared.ids.Number.{Number}
use Rattle.xk_base.specs.declared.ids.Pid.{Pid}
use Rattle.xk_base.specs.declared.messages.MsgKind.TheVariants.{Scalar}
use Rattle.xk_base.specs.declared.ids.Serial.{Serial}
use Rattle.xk_base.specs.declared.errors.XousError.TheVariants.{ServerQueueFull}
use Rattle.xk_base.specs.declared.ids.ThreadId.{ThreadId}
use Rattle.xk_base.specs.declared.ids.Vpn.{Vpn}
use Rattle.syscall_codec.specs.CallWords.{call_number, forward_cid, send_address}
use Rattle.xk_base.specs.Calls.Kinds.{is_answered}
use Rattle.syscall_codec.specs.ReplyWords.{plain_words}
use Rattle.xk_base.specs.Tables.Sids.{serial_of}
use Rattle.ledger_model.specs.Steps.{pass}
use Rattle.machine_model.specs.State.Changes.{Call, Change, Served, answering, unless_refused, unless_retried}
use Rattle.machine_model.specs.State.Machine.{Machine, Receiving}
use Rattle.machine_model.specs.State.Threads.{answer_to, both_answers}
use Rattle.machine_model.specs.Calling.Calls.{any_refusals, call, call_at, call_table}
use Rattle.machine_model.specs.Messaging.SendCalls.{arrival, arrival_refusals, arrived, is_full_for, named_kind, send_call, send_refusals, sender_answered, sender_left, sent_pages, sent_place, sent_serial, sent_to, try_send_call, with_sent}
use Rattle.machine_model.specs.Calling.MemoryCalls.{caller_place, decrease_call, increase_call, map_call, unmap_call, update_call}
use Rattle.machine_model.specs.State.Servers.{change_server}
use Rattle.machine_model.specs.Calling.InterruptCalls.{claim_call, free_call}
use Rattle.machine_model.specs.Ending.Closing.{closed, destroyed, servers_closed}
use Rattle.machine_model.specs.Calling.ServerCalls.{connect_call, create_server_call, destroy_call, named_server, named_sid, own_server_refusals, try_connect_call}
use Rattle.machine_model.specs.Calling.ThreadCalls.{create_call, join_call, terminate_call, yield_call}
use Rattle.machine_model.specs.Calling.Questions.{Question, asked, questions, with_questions}
use Rattle.machine_model.specs.Ending.Ends.{death}
use Rattle.machine_model.specs.Messaging.ForwardCalls.{forward_call, forward_refusals, forward_served_if, held_place, next_arrival, next_arrival_refusals, passable, passed_from, passed_number, passed_place, passed_to, with_first}
use Rattle.machine_model.specs.Messaging.Messages.{new_message, new_number, without_held}
use Rattle.machine_model.specs.Messaging.ReceiveCalls.{oldest_queued, receive_call, received, try_receive_call, waits_at}
use Rattle.machine_model.specs.Messaging.Receivers.{receiver}
use Rattle.machine_model.specs.Messaging.ReturnCalls.{return_memory_call, return_scalar1_call, return_scalar2_call}
use Rattle.call_effects.specs.Deciding.{CallsAreMeant, decide, row_at, rows}
use Rattle.call_effects.specs.Verdicts.{Does, Row, Verdict, answers_caller, answers_nobody, meant}
use Rattle.call_effects.specs.Effects.{Serves, Waits, apply, arriving}
use Rattle.call_effects.specs.Rows.MessageRows.{arrival_answers, forward_row, passed_if, receive_row, return_memory_row, return_scalar1_row, return_scalar2_row, send_row, sent_to_row, taken_or, try_receive_row, try_send_row}
use Rattle.call_effects.specs.Rows.InterruptRows.{claim_row, free_row}
use Rattle.call_effects.specs.Rows.ServerRows.{connect_row, create_server_row, destroy_row, try_connect_row}
use Rattle.call_effects.specs.Rows.ThreadRows.{create_row, death_plan, join_row, terminate_row, yield_row}
use Rattle.call_effects.specs.Rows.QuestionRows.{question_row}
use Rattle.call_effects.specs.Rows.MemoryRows.{decrease_row, increase_row, map_row, unmap_row, update_row}

-- a call is what the verdict of a row means
abbrev IsMeant : Call → Row → Type 0
IsMeant served row = (m : Machine) (w : List ℕ) → served m w ≡ meant m (row m w)

-- ---- memory

map_meant : IsMeant map_call map_row
unfolding map_call
map_meant m w = refl

unmap_meant : IsMeant unmap_call unmap_row
unfolding unmap_call
unmap_meant m w = refl

update_meant : IsMeant update_call update_row
unfolding update_call
update_meant m w = refl

increase_meant : IsMeant increase_call increase_row
unfolding increase_call
increase_meant m w = refl

decrease_meant : IsMeant decrease_call decrease_row
unfolding decrease_call
decrease_meant m w = refl

-- ---- threads

yield_meant : IsMeant yield_call yield_row
unfolding yield_call
yield_meant m w = refl

create_meant : IsMeant create_call create_row
unfolding create_call
create_meant m w = refl

join_meant : IsMeant join_call join_row
unfolding join_call
join_meant m w = refl

pub death_meant : (pid : Pid) (m : Machine) → Served (death pid m) ≡ meant m (Does (death_plan pid m))
unfolding death servers_closed closed
death_meant pid m = refl

terminate_meant : IsMeant terminate_call terminate_row
unfolding terminate_call
terminate_meant m w = death_meant m.cursor.pid m

question_meant : (question : Question) → IsMeant (asked question) (question_row question)
unfolding asked
question_meant question m w = refl

-- ---- servers

create_server_meant : IsMeant create_server_call create_server_row
unfolding create_server_call
create_server_meant m w = refl

connect_meant : IsMeant connect_call connect_row
unfolding connect_call
connect_meant m w = refl

try_connect_meant : IsMeant try_connect_call try_connect_row
unfolding try_connect_call
try_connect_meant m w = refl

destroy_meant : IsMeant destroy_call destroy_row
unfolding destroy_call destroyed closed
destroy_meant m w = refl

-- ---- interrupts

claim_meant : IsMeant claim_call claim_row
unfolding claim_call
claim_meant m w = refl

free_meant : IsMeant free_call free_row
unfolding free_call
free_meant m w = refl

-- ---- messages

-- a send whose message arrives so, where its sender waits or not
sent_meant : (m paged : Machine) (o : Option ThreadId) (waits : Bool) (number : Number) (serial : Serial) (message : Message)
    → (let left = arrived o serial message (sender_left waits number paged) in
    Served (record left { answers = both_answers left.answers (sender_answered waits m.cursor) }))
    ≡ Served (record {
      machine = apply (Serves serial (arriving o message)) (sender_left waits number paged);
      answers = both_answers (arrival_answers o message) (sender_answered waits m.cursor);
      delivery = None;
      gone = None;
    })
sent_meant m paged None waits number serial message = refl
sent_meant m paged (Some who) waits number serial message = refl

sent_to_meant : (m : Machine) (w : List ℕ) → sent_to m w (arrival m w) ≡ meant m (sent_to_row m w)
sent_to_meant m w =
    let first = unwrap_or (arrival m w) (record { 0 = 0 }) in
    let kind = unwrap_or (named_kind w) Scalar in
    let serial = sent_serial m w in
    let paged : Machine = with_sent m kind (caller_place m (send_address w)) (sent_pages w) (sent_place m w first) in
    ap (unless_refused (arrival_refusals w (arrival m w)))
    (sent_meant m paged (receiver m serial) (is_answered kind) (new_number m) serial (new_message m kind w first))

send_meant : IsMeant send_call send_row
unfolding send_call
send_meant m w = ap (λ x. unless_refused (send_refusals m w) (unless_retried (is_full_for m w) x)) (sent_to_meant m w)

try_send_meant : IsMeant try_send_call try_send_row
unfolding try_send_call
try_send_meant m w = ap (unless_refused (send_refusals m w ++ (is_full_for m w, ServerQueueFull) ∷ [])) (sent_to_meant m w)

passed_meant : (m : Machine) (number : Number) (cid : ℕ) (first : Vpn) (o : Option Message)
    → Served (forward_served_if m number cid first o) ≡ meant m (passed_if m number cid first o)
passed_meant m number cid first None = refl
passed_meant m number cid first (Some message) = go (receiver m (unwrap_or (passed_to m cid) (serial_of 0)))
  where
    go : (o : Option ThreadId)
        → (let from = unwrap_or (passed_from m number) (serial_of 0) in
        let to = unwrap_or (passed_to m cid) (serial_of 0) in
        let gone = change_server from (without_held message.number) m in
        let paged = record gone { ledger = pass message.number (held_place m message) (passed_place m cid first) m.ledger } in
        let left = arrived o to (with_first first message) paged in
        Served (record left { answers = both_answers left.answers (answer_to m.cursor plain_words) })
        ≡ Served (record {
          machine = apply (Serves to (arriving o (with_first first message))) paged;
          answers = both_answers (arrival_answers o (with_first first message)) (answer_to m.cursor plain_words);
          delivery = None;
          gone = None;
        }))
    go None = refl
    go (Some who) = refl

forward_meant : IsMeant forward_call forward_row
unfolding forward_call
forward_meant m w =
    let number = passed_number w in
    let first = next_arrival m number (forward_cid w) in
    ap (λ x. unless_refused (forward_refusals m number (forward_cid w)) (unless_refused (next_arrival_refusals first) x))
    (passed_meant m number (forward_cid w) (unwrap_or first (record { 0 = 0 })) (passable m number))

taken_meant : (m : Machine) (serial : Serial) (o : Option Message) (otherwise : Change) (verdict : Verdict)
    → Served otherwise ≡ meant m verdict → Served (received m serial o otherwise) ≡ meant m (taken_or m serial o verdict)
taken_meant m serial None otherwise verdict e = e
taken_meant m serial (Some message) otherwise verdict e = refl

receive_meant : IsMeant receive_call receive_row
unfolding receive_call
receive_meant m w =
    let serial = named_server m (named_sid w) in
    ap (unless_refused (own_server_refusals m (named_sid w)))
    (taken_meant m serial (oldest_queued m serial) (waits_at serial m) (answers_nobody (Waits m.cursor (Receiving serial) ∷ [])) refl)

try_receive_meant : IsMeant try_receive_call try_receive_row
unfolding try_receive_call
try_receive_meant m w =
    let serial = named_server m (named_sid w) in
    ap (unless_refused (own_server_refusals m (named_sid w)))
    (taken_meant m serial (oldest_queued m serial) (answering (answer_to m.cursor plain_words) m) (answers_caller m plain_words []) refl)

return_memory_meant : IsMeant return_memory_call return_memory_row
unfolding return_memory_call
return_memory_meant m w = refl

return_scalar1_meant : IsMeant return_scalar1_call return_scalar1_row
unfolding return_scalar1_call
return_scalar1_meant m w = refl

return_scalar2_meant : IsMeant return_scalar2_call return_scalar2_row
unfolding return_scalar2_call
return_scalar2_meant m w = refl

-- ---- the table

-- each call of the one table is what its row of the other means, at the same number
data AreMeant : List (ℕ × Call) → List (ℕ × Row) → Type 0 where
  NoRow : AreMeant [] []
  OneRow : (number : ℕ) (served : Call) (row : Row) (calls : List (ℕ × Call)) (others : List (ℕ × Row)) → IsMeant served row
      → AreMeant calls others → AreMeant ((number, served) ∷ calls) ((number, row) ∷ others)

infixr 5 ◌also◌
◌also◌ : {number : ℕ} {served : Call} {row : Row} {calls : List (ℕ × Call)} {others : List (ℕ × Row)} → IsMeant served row
    → AreMeant calls others → AreMeant ((number, served) ∷ calls) ((number, row) ∷ others)
◌also◌ one others = OneRow _ _ _ _ _ one others

-- calls that only ask, before others
questions_meant : (questions : List (ℕ × Question)) (calls : List (ℕ × Call)) (others : List (ℕ × Row)) → AreMeant calls others
    → AreMeant (with_questions asked questions calls) (with_questions question_row questions others)
questions_meant [] calls others rest = rest
questions_meant (question ∷ more) calls others rest =
    OneRow question.0 (asked question.1) (question_row question.1) (with_questions asked more calls) (with_questions question_row more others)
    (question_meant question.1) (questions_meant more calls others rest)

choice_meant : (b : Bool) (x y : Call) (u v : Row) → IsMeant x u → IsMeant y v → IsMeant (if b then x else y) (if b then u else v)
choice_meant true x y u v a b = a
choice_meant false x y u v a b = b

rows_meant : (number : ℕ) (calls : List (ℕ × Call)) (others : List (ℕ × Row)) → AreMeant calls others
    → IsMeant (call_at number calls) (row_at number others)
rows_meant number _ _ NoRow = λ m w. refl
rows_meant number _ _ (OneRow k served row calls others one rest) =
    choice_meant (number == k) served (call_at number calls) row (row_at number others) one (rows_meant number calls others rest)

table_meant : AreMeant call_table rows
table_meant =
    map_meant
    also yield_meant
    also claim_meant
    also free_meant
    also increase_meant
    also decrease_meant
    also update_meant
    also create_server_meant
    also receive_meant
    also send_meant
    also connect_meant
    also create_meant
    also unmap_meant
    also return_memory_meant
    also terminate_meant
    also try_send_meant
    also try_connect_meant
    also return_scalar1_meant
    also return_scalar2_meant
    also try_receive_meant
    also join_meant
    also destroy_meant
    also questions_meant questions _ _ (forward_meant also NoRow)

pub calls_meant : CallsAreMeant
unfolding call decide
calls_meant m w = ap (unless_refused (any_refusals m w)) (rows_meant (call_number w) call_table rows table_meant m w)
