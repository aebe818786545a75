-- The verdict on a call is the same in two machines of one view: where pages hold other bytes, threads have other registers, and the
-- count of steps, the reservation, the timer or the pending interrupts differ.
use Rattle.std.proofs.Common.{◌≡◌, ℕ, Bool, true, false, List, [], ◌∷◌, ◌++◌, ◌*◌, Option, Some, None, is_none, get_or, refl, sym, ap, ◌∙◌}
use Rattle.std.specs.Option.{option_and_then, option_map, option_map_or}
use Rattle.std.specs.Prelude.{◌+◌, ◌-◌, ◌/◌, ◌%◌, ◌==◌, ◌&&◌, ◌||◌, drop, if◌then◌else◌, is_some, map, nat_le, nat_lt, not, unwrap_or}
use Rattle.xk_base.specs.declared.errors.XousError.{XousError}
use Rattle.xk_base.specs.declared.errors.XousError.TheVariants.{AccessDenied, BadAddress, BadAlignment, InvalidLimit, InvalidSyscall, MemoryInUse, OutOfMemory, ServerNotFound, ServerQueueFull, ShareViolation}
use Rattle.xk_base.specs.declared.ids.Number.{Number}
use Rattle.xk_base.specs.declared.ids.Place.{Place}
use Rattle.xk_base.specs.declared.ids.Serial.{Serial}
use Rattle.xk_base.specs.declared.ids.Vpn.{Vpn}
use Rattle.xk_base.specs.declared.limits.TheConstants.{CONSOLE_ADDRESS, PAGE_SIZE}
use Rattle.xk_base.specs.declared.messages.Message.{Message}
use Rattle.xk_base.specs.declared.windows.Window.TheVariants.{Map, Message as MessageWindow}
use Rattle.syscall_codec.specs.CallNumbers.{forward_message}
use Rattle.syscall_codec.specs.CallWords.{call_number, forward_cid, heap_bytes, map_flags, map_phys, map_size, map_virt, range_address}
use Rattle.syscall_codec.specs.CallWords.{range_flags, range_size, send_address, send_cid, send_length}
use Rattle.syscall_codec.specs.Flags.{flag_execute, has_flag, right_of}
use Rattle.syscall_codec.specs.ReplyWords.{plain_words, range_words}
use Rattle.ledger_model.specs.LeastRun.{least_run}
use Rattle.ledger_model.specs.Loans.{bare}
use Rattle.ledger_model.specs.RunTests.{fits_window}
use Rattle.machine_model.specs.Calling.Calls.{any_refusals}
use Rattle.machine_model.specs.Calling.MemoryCalls.{are_bad_flags, are_too_many, caller_place, heap_limit, heap_of, heap_start, is_aligned, is_bad_range, map_address}
use Rattle.machine_model.specs.Calling.Questions.{Question, questions, with_questions}
use Rattle.machine_model.specs.Calling.ServerCalls.{named_server, named_sid, own_server_refusals}
use Rattle.machine_model.specs.Calling.ThreadCalls.{free_tid}
use Rattle.machine_model.specs.Ending.Closing.{any_server}
use Rattle.machine_model.specs.Messaging.ForwardCalls.{forward_refusals, next_arrival, next_arrival_refusals, passable, passed_number}
use Rattle.machine_model.specs.Messaging.ReceiveCalls.{oldest_queued}
use Rattle.machine_model.specs.Messaging.Receivers.{receiver}
use Rattle.machine_model.specs.Messaging.ReturnCalls.{holder_of}
use Rattle.machine_model.specs.Messaging.SendCalls.{arrival, arrival_refusals, is_full_for, named_kind, send_refusals, sends_lend_mut, sends_pages, sent_pages}
use Rattle.machine_model.specs.State.Machine.{Machine, Receiving}
use Rattle.machine_model.specs.State.Servers.{live_servers, server_at, with_sid}
use Rattle.call_effects.specs.Deciding.{decide, rows, unhandled_row}
use Rattle.call_effects.specs.Effects.{Maps, Pages, Waits}
use Rattle.call_effects.specs.Rows.MemoryRows.{decrease_row, increase_row, map_row, unmap_row, update_row}
use Rattle.call_effects.specs.Rows.MessageRows.{forward_row, passed_if, receive_row, send_row, sent_row, sent_to_row, taken_or, try_receive_row, try_send_row}
use Rattle.call_effects.specs.Rows.QuestionRows.{question_row}
use Rattle.call_effects.specs.Verdicts.{RefusedIf, RetriedIf, Row, Verdict, answers_caller, answers_nobody}
use Rattle.machine_model.proofs.Calling.TableLemmas.{OfRows, ◌also◌, of_row}
use Rattle.call_effects.proofs.Viewing.BareTestLemmas.{any_free_bare, any_lacks_bare, any_not_sent_bare, any_on_loan_bare}
use Rattle.call_effects.proofs.Viewing.BareTestLemmas.{console_mapped_bare, least_run_bare, pages_bare, used_bare}
use Rattle.call_effects.proofs.MeantLemmas.{calls_meant}
use Rattle.call_effects.specs.Effects.{Awaits, ClosesServers, Passes, Returned, Sends, Serves, Starts, TakesNumber, arriving}
use Rattle.call_effects.specs.Rows.MessageRows.{arrival_answers}
use Rattle.call_effects.specs.Rows.ServerRows.{destroy_row}
use Rattle.call_effects.specs.Rows.ThreadRows.{create_row, join_row}
use Rattle.call_effects.specs.Verdicts.{answers_with, meant}
use Rattle.call_effects.specs.CallViews.{CallsDependOnTheirView, call_view, state_alone}
use Rattle.machine_model.specs.Calling.ThreadCalls.{has_thread}
use Rattle.machine_model.specs.Ending.Closing.{is_sender_at, refused_server}
use Rattle.machine_model.specs.Messaging.ForwardCalls.{held_place, passed_from, passed_place, passed_to, with_first}
use Rattle.machine_model.specs.Messaging.Messages.{new_message, new_number}
use Rattle.machine_model.specs.Messaging.Receivers.{is_receiving, receiving_at}
use Rattle.machine_model.specs.Messaging.SendCalls.{sender_answered, sent_place, sent_serial}
use Rattle.machine_model.specs.State.Machine.{Joining, Thread, ThreadState}
use Rattle.machine_model.specs.State.Threads.{answer_to, both_answers, new_thread, thread_id}
use Rattle.syscall_codec.specs.CallWords.{join_tid, thread_arguments, thread_entry, thread_sp}
use Rattle.syscall_codec.specs.ReplyWords.{thread_words}
use Rattle.xk_base.specs.Calls.Kinds.{is_answered}
use Rattle.xk_base.specs.Tables.Circle.{id_by_tid, thread_ids}
use Rattle.xk_base.specs.Tables.Counting.{least_below}
use Rattle.xk_base.specs.Tables.Sids.{serial_of}
use Rattle.xk_base.specs.declared.errors.XousError.TheVariants.{InvalidThread, ThreadNotAvailable}
use Rattle.xk_base.specs.declared.ids.Pid.{Pid}
use Rattle.xk_base.specs.declared.ids.ThreadId.{ThreadId}
use Rattle.xk_base.specs.declared.limits.TheConstants.{TID_LIMIT}
use Rattle.xk_base.specs.declared.messages.MsgKind.TheVariants.{Scalar}

-- the same refusals, and then what follows
refused_alike : {refusals others : List (Bool × XousError)} {verdict : Verdict} → refusals ≡ others
    → RefusedIf refusals verdict ≡ RefusedIf others verdict
refused_alike {verdict = verdict} same = ap (λ x. RefusedIf x verdict) same

-- ---- threads without their registers

-- what is asked of a thread's state is the same
state_told : (f : ThreadState → Bool) (o : Option Thread) → option_map_or (λ t. f t.state) (option_map state_alone o) false ≡ option_map_or (λ t. f t.state) o false
state_told f None = refl
state_told f (Some t) = refl

some_alone : (o : Option Thread) → is_some (option_map state_alone o) ≡ is_some o
some_alone None = refl
some_alone (Some t) = refl

none_alone : (o : Option Thread) → is_none (option_map state_alone o) ≡ is_none o
none_alone None = refl
none_alone (Some t) = refl

module _ (m : Machine) where
  receiving_view : (serial : Serial) (id : ThreadId) → receiving_at (call_view m) serial id ≡ receiving_at m serial id
  receiving_view serial id = state_told (is_receiving serial) (m.threads id)

  receiver_view : (serial : Serial) → receiver (call_view m) serial ≡ receiver m serial
  unfolding receiver
  receiver_view serial = λ i.
      option_map (id_by_tid m.processes) (least_below (thread_ids m.processes) (λ k. receiving_view serial (id_by_tid m.processes k) i))

  free_tid_view : (pid : Pid) → free_tid (call_view m) pid ≡ free_tid m pid
  unfolding free_tid
  free_tid_view pid = λ i. least_below (TID_LIMIT + 1) (λ tid. nat_le 2 tid && none_alone (m.threads (thread_id pid tid)) i)

  has_thread_view : (pid : Pid) (tid : ℕ) → has_thread (call_view m) pid tid ≡ has_thread m pid tid
  has_thread_view pid tid = λ i. nat_le 2 tid && nat_le tid TID_LIMIT && some_alone (m.threads (thread_id pid tid)) i

-- ---- the rows

-- the verdict of the row depends on the view alone
abbrev IsAlike : Row → Type 0
IsAlike row = (m : Machine) (w : List ℕ) → row m w ≡ row (call_view m) w

-- ---- memory

unmap_alike : IsAlike unmap_row
unmap_alike m w =
    refused_alike (sym (λ i.
    (is_bad_range (range_address w) (range_size w), BadAlignment)
    ∷ (any_free_bare m.processes m.ledger first n i, BadAddress)
    ∷ (any_on_loan_bare m.processes m.ledger first n i, ShareViolation)
    ∷ []))
  where
    first : Place
    first = caller_place m (range_address w)

    n : ℕ
    n = range_size w / PAGE_SIZE

update_alike : IsAlike update_row
update_alike m w =
    refused_alike (sym (λ i.
    (is_bad_range (range_address w) (range_size w), BadAlignment)
    ∷ (are_bad_flags (range_flags w), InvalidSyscall)
    ∷ (any_free_bare m.processes m.ledger first n i, BadAddress)
    ∷ (any_on_loan_bare m.processes m.ledger first n i, ShareViolation)
    ∷ (any_lacks_bare (right_of (range_flags w)) m.ledger first n i, AccessDenied)
    ∷ []))
  where
    first : Place
    first = caller_place m (range_address w)

    n : ℕ
    n = range_size w / PAGE_SIZE

decrease_alike : IsAlike decrease_row
decrease_alike m w =
    let first = caller_place m (heap_start + (heap_of m - heap_bytes w)) in
    refused_alike (sym (λ i.
    (not (is_aligned (heap_bytes w)), BadAlignment)
    ∷ (nat_lt (heap_of m) (heap_bytes w), InvalidLimit)
    ∷ (any_on_loan_bare m.processes m.ledger first (heap_bytes w / PAGE_SIZE) i, ShareViolation)
    ∷ []))

too_many_alike : (m : Machine) (n : ℕ) → are_too_many (call_view m) n ≡ are_too_many m n
too_many_alike m n = ap (λ p. nat_lt m.capacity (p + n)) (pages_bare m.processes m.ledger)

increase_alike : IsAlike increase_row
increase_alike m w =
    refused_alike (sym (λ i.
    (not (is_aligned (heap_bytes w)), BadAlignment)
    ∷ (nat_lt heap_limit (heap_of m + heap_bytes w), InvalidLimit)
    ∷ (too_many_alike m (heap_bytes w / PAGE_SIZE) i, OutOfMemory)
    ∷ []))

map_alike : IsAlike map_row
map_alike m w = sym (λ i.
    RefusedIf
    ((is_bad_range (map_virt w) (map_size w), BadAlignment)
    ∷ (are_bad_flags (map_flags w), InvalidSyscall)
    ∷ (not (map_phys w == 0) && not console, BadAddress)
    ∷ (console && (not (map_size w == PAGE_SIZE) || has_flag (map_flags w) flag_execute), BadAddress)
    ∷ (console && console_mapped_bare m.processes m.ledger i, MemoryInUse)
    ∷ (not (map_virt w == 0) && not (fits_window Map (map_virt w / PAGE_SIZE) n), BadAddress)
    ∷ (not (map_virt w == 0) && used_bare m.processes m.ledger (caller_place m (map_virt w)) n i, MemoryInUse)
    ∷ (map_virt w == 0 && is_none (found i), MemoryInUse)
    ∷ (not console && too_many_alike m n i, OutOfMemory)
    ∷ [])
    (answers_caller m (range_words (address i) (map_size w)) (Pages (Maps console (caller_place m (address i)) n (right_of (map_flags w))) ∷ [])))
  where
    n : ℕ
    n = map_size w / PAGE_SIZE

    console : Bool
    console = map_phys w == CONSOLE_ADDRESS

    found : least_run m.processes (bare m.ledger) m.cursor.pid Map n ≡ least_run m.processes m.ledger m.cursor.pid Map n
    found = least_run_bare m.processes m.ledger m.cursor.pid Map n

    address : map_address (call_view m) (map_virt w) (map_size w) ≡ map_address m (map_virt w) (map_size w)
    address = λ i. if map_virt w == 0 then PAGE_SIZE * (unwrap_or (found i) (record { 0 = 0 })).0 else map_virt w

-- ---- messages

send_refusals_alike : (m : Machine) (w : List ℕ) → send_refusals m w ≡ send_refusals (call_view m) w
send_refusals_alike m w = sym (λ i.
    (is_none (server_at m (send_cid w)), ServerNotFound)
    ∷ (is_none (named_kind w), InvalidSyscall)
    ∷ (sends_pages w && is_bad_range (send_address w) (send_length w), BadAlignment)
    ∷ (sends_pages w && any_free_bare m.processes m.ledger (caller_place m (send_address w)) (sent_pages w) i, BadAddress)
    ∷ (sends_pages w && any_not_sent_bare m.processes m.ledger (caller_place m (send_address w)) (sent_pages w) (sends_lend_mut w) i, ShareViolation)
    ∷ [])

arrival_alike : (m : Machine) (w : List ℕ) → arrival m w ≡ arrival (call_view m) w
unfolding arrival
arrival_alike m w =
    sym (λ i. option_and_then (λ server. least_run_bare m.processes m.ledger server.pid MessageWindow (sent_pages w) i) (server_at m (send_cid w)))

sent_alike : (first : Vpn) → IsAlike (sent_row first)
sent_alike first m w = ap on (sym (receiver_view m (sent_serial m w)))
  where
    on : Option ThreadId → Verdict
    on who =
        let kind = unwrap_or (named_kind w) Scalar in
        let message = new_message m kind w first in
        answers_with (both_answers (arrival_answers who message) (sender_answered (is_answered kind) m.cursor))
        (Pages (Sends kind (caller_place m (send_address w)) (sent_pages w) (sent_place m w first) (new_number m))
        ∷ TakesNumber
        ∷ Awaits (is_answered kind) (new_number m)
        ∷ Serves (sent_serial m w) (arriving who message)
        ∷ [])

sent_to_alike : IsAlike sent_to_row
sent_to_alike m w =
    ap (λ first. RefusedIf (arrival_refusals w first) (sent_row (unwrap_or first (record { 0 = 0 })) m w)) (arrival_alike m w)
    ∙ ap (RefusedIf (arrival_refusals w (arrival (call_view m) w))) (sent_alike (unwrap_or (arrival (call_view m) w) (record { 0 = 0 })) m w)

send_alike : IsAlike send_row
send_alike m w = λ i. RefusedIf (send_refusals_alike m w i) (RetriedIf (is_full_for m w) (sent_to_alike m w i))

try_send_alike : IsAlike try_send_row
try_send_alike m w = λ i. RefusedIf (send_refusals_alike m w i ++ (is_full_for m w, ServerQueueFull) ∷ []) (sent_to_alike m w i)

next_arrival_alike : (m : Machine) (number : Number) (cid : ℕ) → next_arrival m number cid ≡ next_arrival (call_view m) number cid
unfolding next_arrival holder_of
next_arrival_alike m number cid =
    sym (λ i. option_and_then
    (λ server. least_run_bare m.processes m.ledger server.pid MessageWindow (option_map_or (λ message. message.count) (passable m number) 0) i)
    (server_at m cid))

passed_alike : (m : Machine) (number : Number) (cid : ℕ) (first : Vpn) (o : Option Message)
    → passed_if m number cid first o ≡ passed_if (call_view m) number cid first o
unfolding holder_of
passed_alike m number cid first None = refl
passed_alike m number cid first (Some message) = ap on (sym (receiver_view m to))
  where
    from : Serial
    from = unwrap_or (passed_from m number) (serial_of 0)

    to : Serial
    to = unwrap_or (passed_to m cid) (serial_of 0)

    on : Option ThreadId → Verdict
    on who =
        answers_with (both_answers (arrival_answers who (with_first first message)) (answer_to m.cursor plain_words))
        (Serves from (Returned message.number)
        ∷ Pages (Passes message.number (held_place m message) (passed_place m cid first))
        ∷ Serves to (arriving who (with_first first message))
        ∷ [])

forward_alike : IsAlike forward_row
unfolding holder_of
forward_alike m w = λ i.
    RefusedIf (forward_refusals m number cid)
    (RefusedIf (next_arrival_refusals (next_arrival_alike m number cid i)) (passed i))
  where
    number : Number
    number = passed_number w

    cid : ℕ
    cid = forward_cid w

    passed : passed_if m number cid (unwrap_or (next_arrival m number cid) (record { 0 = 0 })) (passable m number)
        ≡ passed_if (call_view m) number cid (unwrap_or (next_arrival (call_view m) number cid) (record { 0 = 0 }))
        (passable m number)
    passed =
        ap (λ first. passed_if m number cid (unwrap_or first (record { 0 = 0 })) (passable m number)) (next_arrival_alike m number cid)
        ∙ passed_alike m number cid (unwrap_or (next_arrival (call_view m) number cid) (record { 0 = 0 })) (passable m number)

taken_alike : (m : Machine) (serial : Serial) (o : Option Message) (verdict : Verdict)
    → taken_or m serial o verdict ≡ taken_or (call_view m) serial o verdict
taken_alike m serial None verdict = refl
taken_alike m serial (Some message) verdict = refl

receive_alike : IsAlike receive_row
unfolding with_sid
receive_alike m w =
    let serial = named_server m (named_sid w) in
    ap (RefusedIf (own_server_refusals m (named_sid w)))
    (taken_alike m serial (oldest_queued m serial) (answers_nobody (Waits m.cursor (Receiving serial) ∷ [])))

try_receive_alike : IsAlike try_receive_row
unfolding with_sid
try_receive_alike m w =
    let serial = named_server m (named_sid w) in
    ap (RefusedIf (own_server_refusals m (named_sid w)))
    (taken_alike m serial (oldest_queued m serial) (answers_caller m plain_words []))

-- ---- threads and servers

create_alike : IsAlike create_row
create_alike m w = ap on (sym (free_tid_view m m.cursor.pid))
  where
    on : Option ℕ → Verdict
    on tid =
        RefusedIf ((not (thread_entry w % 4 == 0), BadAlignment) ∷ (is_none tid, ThreadNotAvailable) ∷ [])
        (answers_caller m (thread_words (unwrap_or tid 0))
        (Starts (thread_id m.cursor.pid (unwrap_or tid 0)) (new_thread (thread_entry w) (thread_sp w) (thread_arguments w)) ∷ []))

join_alike : IsAlike join_row
join_alike m w =
    ap (λ b. RefusedIf ((not b || join_tid w == m.cursor.tid.0, InvalidThread) ∷ [])
    (answers_nobody (Waits m.cursor (Joining (record { 0 = join_tid w })) ∷ [])))
    (sym (has_thread_view m m.cursor.pid (join_tid w)))

destroy_alike : IsAlike destroy_row
unfolding any_server with_sid
destroy_alike m w = ap on (λ i id. sym (receiving_view m serial id) i)
  where
    serial : Serial
    serial = named_server m (named_sid w)

    this : ℕ → Bool
    this n = n == serial.0

    on : (ThreadId → Bool) → Verdict
    on test =
        RefusedIf (own_server_refusals m (named_sid w))
        (answers_with (both_answers (answer_to m.cursor plain_words) (both_answers (refused_server (is_sender_at this m)) (refused_server test)))
        (ClosesServers this ∷ []))

-- ---- the table

-- calls that only ask, whose answers are the same
questions_alike : (asking : List (ℕ × Question)) → ((m : Machine) → map (λ row. row.1 m) asking ≡ map (λ row. row.1 (call_view m)) asking)
    → (others : List (ℕ × Row)) → OfRows (λ number. true) (λ number row. IsAlike row) others
    → OfRows (λ number. true) (λ number row. IsAlike row) (with_questions question_row asking others)
questions_alike [] same others of = of
questions_alike (row ∷ more) same others of =
    ((λ m w. ap (λ answers. answers_caller m (get_or answers 0 []) []) (same m)), questions_alike more (λ m. ap (drop 1) (same m)) others of)

table_alike : OfRows (λ number. true) (λ number row. IsAlike row) rows
unfolding any_server holder_of live_servers with_sid
table_alike =
    map_alike
    also (λ m w. refl)
    also (λ m w. refl)
    also (λ m w. refl)
    also increase_alike
    also decrease_alike
    also update_alike
    also (λ m w. refl)
    also receive_alike
    also send_alike
    also (λ m w. refl)
    also create_alike
    also unmap_alike
    also (λ m w. refl)
    also (λ m w. refl)
    also try_send_alike
    also (λ m w. refl)
    also (λ m w. refl)
    also (λ m w. refl)
    also try_receive_alike
    also join_alike
    also destroy_alike
    also questions_alike questions (λ m. refl) ((forward_message, forward_row) ∷ []) (forward_alike also tt)

-- ---- machines of one view

pub decide_view : (m : Machine) (w : List ℕ) → decide m w ≡ decide (call_view m) w
unfolding decide
decide_view m w =
    ap (RefusedIf (any_refusals m w))
    (of_row (λ number. true) (λ number row. IsAlike row) (call_number w) refl unhandled_row (λ m w. refl) rows table_alike m w)

pub decide_same_view : (m n : Machine) (w : List ℕ) → call_view m ≡ call_view n → decide m w ≡ decide n w
decide_same_view m n w e = decide_view m w ∙ (ap (λ x. decide x w) e ∙ sym (decide_view n w))

pub calls_depend : CallsDependOnTheirView
calls_depend m n w e =
    let same = decide_same_view m n w e in
    record { verdict = same; one = calls_meant m w ∙ ap (meant m) same; other = calls_meant n w }
