-- What the verdict on each call names are words: effects and answers.
use Rattle.std.proofs.Common.{◌≡◌, ℕ, ◌+◌, ◌*◌, ◌/◌, ◌<◌, ◌≤◌, Bool, true, false, List, [], ◌∷◌, length, Option, Some, None, refl, sym, subst, arith}
use Rattle.std.specs.Prelude.{◌==◌, ◌&&◌, ◌++◌, All, if◌then◌else◌, drop, find, is_none, nat_le, slice_index, unwrap_or}
use Rattle.std.specs.Bool.{⊤}
use Rattle.std.specs.List.{AllByRecursion}
use Rattle.std.specs.Option.{option_and_then, option_map_or}
use Rattle.std.proofs.lemmas.List.Elements.{All-cons, All-drop, All-from_recursion, All-head, All-nil}
use Rattle.xk_base.proofs.CountingLemmas.{least_below-bound}
use Rattle.xk_base.specs.declared.errors.XousError.{XousError}
use Rattle.xk_base.specs.declared.ids.Number.{Number}
use Rattle.xk_base.specs.declared.ids.Pid.{Pid}
use Rattle.xk_base.specs.declared.ids.Serial.{Serial}
use Rattle.xk_base.specs.declared.ids.ThreadId.{ThreadId}
use Rattle.xk_base.specs.declared.ids.Vpn.{Vpn}
use Rattle.xk_base.specs.declared.limits.TheConstants.{PAGE_SIZE, TID_LIMIT}
use Rattle.xk_base.specs.declared.messages.Message.{Message}
use Rattle.xk_base.specs.declared.messages.MsgKind.{MsgKind}
use Rattle.xk_base.specs.declared.messages.MsgKind.TheVariants.{Scalar}
use Rattle.xk_base.specs.declared.windows.Window.{Window}
use Rattle.xk_base.specs.declared.windows.Window.TheVariants.{Image, Heap, Message as MessageWindow, Map, Stack}
use Rattle.syscall_codec.specs.CallNumbers.{reply_connection_id, reply_memory_range, reply_memory_returned, reply_new_server, reply_scalar1}
use Rattle.syscall_codec.specs.CallNumbers.{reply_scalar2, reply_thread_id}
use Rattle.syscall_codec.specs.CallWords.{call_number, forward_cid, heap_bytes, map_size}
use Rattle.syscall_codec.specs.CallWords.{map_virt, return_offset, return_valid, return_value1, return_value2, send_cid}
use Rattle.syscall_codec.specs.CallWords.{send_length, send_offset, send_valid, send_words, sid_words, thread_arguments}
use Rattle.syscall_codec.specs.CallWords.{thread_sp}
use Rattle.xk_base.specs.Calls.Kinds.{is_answered}
use Rattle.syscall_codec.specs.ReplyWords.{connection_words, message_words, plain_words, returned_words}
use Rattle.syscall_codec.specs.ReplyWords.{scalar1_words, scalar2_words, thread_words}
use Rattle.xk_base.specs.Numbers.Windows.{first_page}
use Rattle.xk_base.specs.Tables.Connections.{cid_for}
use Rattle.xk_base.specs.Tables.Counting.{least_below}
use Rattle.xk_base.specs.Tables.Sids.{serial_of}
use Rattle.ledger_model.specs.LeastRun.{is_free_run, least_run, window_pages, window_place}
use Rattle.ledger_model.specs.Ledger.{Ledger}
use Rattle.machine_model.specs.Calling.Calls.{call}
use Rattle.machine_model.specs.Calling.MemoryCalls.{heap_of, heap_start, map_address}
use Rattle.machine_model.specs.Calling.ServerCalls.{named_server, named_sid, new_serial}
use Rattle.machine_model.specs.Calling.ThreadCalls.{free_tid}
use Rattle.machine_model.specs.Ending.Closing.{is_sender_at, refused_server}
use Rattle.machine_model.specs.Messaging.ForwardCalls.{is_passable_of, next_arrival, passable, passed_number, passed_to, with_first}
use Rattle.machine_model.specs.Messaging.Messages.{carries_pages, is_blocking_of, is_lend_of, new_message}
use Rattle.machine_model.specs.Messaging.ReceiveCalls.{oldest_queued}
use Rattle.machine_model.specs.Messaging.Messages.{oldest}
use Rattle.machine_model.specs.Messaging.Receivers.{receiver, receiving_at}
use Rattle.machine_model.specs.Messaging.ReturnCalls.{held_at, held_by_caller, holder_of, named_number, sender_gets, sender_of_message}
use Rattle.machine_model.specs.Messaging.SendCalls.{arrival, message_run, named_kind, sender_answered, sent_pages, sent_serial}
use Rattle.machine_model.specs.Runs.Matched.{Matched}
use Rattle.machine_model.specs.State.Changes.{Outcome, Refused, Retried, Served, first_refusal, refused_or, unless_refused, unless_retried}
use Rattle.machine_model.specs.State.Connections.{own_connections}
use Rattle.machine_model.specs.State.Machine.{Machine, Receiving, Server}
use Rattle.machine_model.specs.State.Servers.{is_server_of, server_at}
use Rattle.machine_model.specs.State.Threads.{answer_to, both_answers, thread_id, thread_return}
use Rattle.call_effects.specs.Effects.{Effect, Ends, Pages, Waits, arriving}
use Rattle.call_effects.specs.Verdicts.{Does, RefusedIf, Refuses, RetriedIf, Row, Verdict, answers_caller, answers_nobody, meant}
use Rattle.call_effects.specs.Deciding.{decide, rows, unhandled_row}
use Rattle.call_effects.specs.Rows.InterruptRows.{claim_row, free_row}
use Rattle.call_effects.specs.Rows.MemoryRows.{decrease_row, increase_row, map_row, unmap_row, update_row}
use Rattle.call_effects.specs.Rows.MessageRows.{arrival_answers, forward_row, passed_if, receive_row, return_memory_row, return_scalar1_row, return_scalar2_row, returned_row, send_row, sent_row, taken_or, try_receive_row, try_send_row}
use Rattle.call_effects.specs.Rows.ServerRows.{connect_row, create_server_row, destroy_row, try_connect_row}
use Rattle.call_effects.specs.Rows.QuestionRows.{question_row}
use Rattle.call_effects.specs.Rows.ThreadRows.{create_row, join_row, terminate_row, yield_row}
use Rattle.call_effects.proofs.MeantLemmas.{calls_meant}
use Rattle.machine_model.proofs.Calling.TableLemmas.{OfRows, of_row, ◌also◌}
use Rattle.snapshot_laws.specs.Words.{AreFourWords, AreWords, IsMachineOfWords, IsMessageOfWords, greatest}
use Rattle.snapshot_laws.proofs.Calling.AnswerWordLemmas.{AreAnswersOfWords, answer_are, both_are, cid_fits, fresh_are, message_are}
use Rattle.snapshot_laws.proofs.Calling.AnswerWordLemmas.{nobody_are, plain_are, server_refused_are}
use Rattle.snapshot_laws.proofs.Changing.EffectWordLemmas.{IsEffectOfWords, IsMessageStepOfWords, run_keeps}
use Rattle.snapshot_laws.proofs.Changing.HoldingLemmas.{Holds, find_holds, left_all, map_holds, none_holds, right_all, some_holds}
use Rattle.snapshot_laws.proofs.Changing.HoldingLemmas.{then_holds}
use Rattle.snapshot_laws.proofs.Words.RegisterLemmas.{AreEightWords, eight_are, word_at}

-- ---- verdicts

abbrev pub IsVerdictOfWords : Verdict → Type 0
IsVerdictOfWords (Refuses error) = ⊤
IsVerdictOfWords (Does plan) = AllByRecursion IsEffectOfWords plan.effects × AreAnswersOfWords plan.answers
IsVerdictOfWords (RefusedIf refusals verdict) = IsVerdictOfWords verdict
IsVerdictOfWords (RetriedIf test verdict) = IsVerdictOfWords verdict

-- what is served is of words
abbrev pub IsOutcomeOfWords : Outcome → Type 0
IsOutcomeOfWords (Refused error) = ⊤
IsOutcomeOfWords Retried = ⊤
IsOutcomeOfWords (Served change) = IsMachineOfWords change.machine × AreAnswersOfWords change.answers

refused_outcome : (refusals : List (Bool × XousError)) (outcome : Outcome) → IsOutcomeOfWords outcome → IsOutcomeOfWords (unless_refused refusals outcome)
refused_outcome refusals outcome f = go (first_refusal refusals)
  where
    go : (o : Option XousError) → IsOutcomeOfWords (refused_or o outcome)
    go None = f
    go (Some error) = tt

retried_outcome : (test : Bool) (outcome : Outcome) → IsOutcomeOfWords outcome → IsOutcomeOfWords (unless_retried test outcome)
retried_outcome true outcome f = tt
retried_outcome false outcome f = f

pub verdict_keeps : (m : Machine) (verdict : Verdict) → IsMachineOfWords m → IsVerdictOfWords verdict → IsOutcomeOfWords (meant m verdict)
verdict_keeps m (Refuses error) h f = tt
verdict_keeps m (Does plan) h f = (run_keeps plan.effects m f.0 h, f.1)
verdict_keeps m (RefusedIf refusals verdict) h f = refused_outcome refusals (meant m verdict) (verdict_keeps m verdict h f)
verdict_keeps m (RetriedIf test verdict) h f = retried_outcome test (meant m verdict) (verdict_keeps m verdict h f)

-- ---- runs of places

-- a page number of a process's memory
abbrev IsLow : Vpn → Type 0
IsLow v = v.0 ≤ 1048575

window_low : (window : Window) (k : ℕ) → k < window_pages window → first_page window + k ≤ 1048575
window_low Image k h = omega arith
window_low Heap k h = omega arith
window_low MessageWindow k h = omega arith
window_low Map k h = omega arith
window_low Stack k h = omega arith

run_low : (procs : ℕ) (ledger : Ledger) (pid : Pid) (window : Window) (n : ℕ) → Holds IsLow (least_run procs ledger pid window n)
unfolding least_run
run_low procs ledger pid window n = map_holds IsLow (λ k. (window_place pid window k).vpn) (least_below (window_pages window) test) within
  where
    test : ℕ → Bool
    test k = nat_le (k + n) (window_pages window) && is_free_run procs ledger (window_place pid window k) n

    within : (k : ℕ) → least_below (window_pages window) test ≡ Some k → IsLow (window_place pid window k).vpn
    within k e = window_low window k (least_below-bound (window_pages window) test k e)

low_or_0 : (o : Option Vpn) → Holds IsLow o → (unwrap_or o (record { 0 = 0 })).0 ≤ 1048575
low_or_0 None f = omega arith
low_or_0 (Some v) f = f v refl

-- ---- what a call finds

-- the caller's words, in a machine of words
pub record IsCalling (m : Machine) (w : List ℕ) : Type 0 where
  pub matched : Matched m
  pub machine : IsMachineOfWords m
  pub number : m.next_number ≤ greatest
  pub pid : m.cursor.pid.0 ≤ greatest
  pub tid : m.cursor.tid.0 ≤ greatest
  pub words : AreWords w

module _ (m : Machine) (w : List ℕ) (c : IsCalling m w) where
  arg : (i : ℕ) → slice_index w i ≤ greatest
  arg i = word_at w i c.words

  -- the caller is answered
  caller : {words : List ℕ} → AreEightWords words → AreAnswersOfWords (answer_to m.cursor words)
  caller {words} f = answer_are m.cursor words f

  own_cid : (serial : Serial) → cid_for serial (own_connections m) ≤ greatest
  own_cid serial = cid_fits serial (own_connections m) (c.matched.body.processes.connections m.cursor.pid)

  -- ---- memory

  map_place : map_address m (map_virt w) (map_size w) ≤ greatest
  map_place = go (map_virt w == 0)
    where
      low : (unwrap_or (least_run m.processes m.ledger m.cursor.pid Map (map_size w / PAGE_SIZE)) (record { 0 = 0 })).0 ≤ 1048575
      low = low_or_0 (least_run m.processes m.ledger m.cursor.pid Map (map_size w / PAGE_SIZE)) (run_low m.processes m.ledger m.cursor.pid Map (map_size w / PAGE_SIZE))

      go : (b : Bool) → (if b
          then PAGE_SIZE * (unwrap_or (least_run m.processes m.ledger m.cursor.pid Map (map_size w / PAGE_SIZE)) (record { 0 = 0 })).0
          else map_virt w) ≤ greatest
      go true = let h = low in omega arith
      go false = arg 2

  map_are : IsVerdictOfWords (map_row m w)
  map_are = ((tt, tt), caller (eight_are (reply_memory_range ∷ map_address m (map_virt w) (map_size w) ∷ map_size w ∷ []) (omega arith, (map_place, (arg 3, tt)))))

  unmap_are : IsVerdictOfWords (unmap_row m w)
  unmap_are = ((tt, tt), caller plain_are)

  update_are : IsVerdictOfWords (update_row m w)
  update_are = ((tt, tt), caller plain_are)

  heap_fits : heap_start + heap_of m ≤ greatest
  heap_fits = let h : heap_of m ≤ 16777216 = c.matched.body.heaps.within m.cursor.pid in omega arith

  increase_are : IsVerdictOfWords (increase_row m w)
  increase_are = ((tt, (tt, tt)), caller (eight_are (reply_memory_range ∷ (heap_start + heap_of m) ∷ heap_bytes w ∷ []) (omega arith, (heap_fits, (arg 1, tt)))))

  decrease_are : IsVerdictOfWords (decrease_row m w)
  decrease_are = ((tt, (tt, tt)), caller plain_are)

  -- ---- threads

  yield_are : IsVerdictOfWords (yield_row m w)
  yield_are = ((tt, tt), caller plain_are)

  tid_fits : unwrap_or (free_tid m m.cursor.pid) 0 ≤ greatest
  unfolding free_tid
  tid_fits = go (least_below (TID_LIMIT + 1) (λ tid. nat_le 2 tid && is_none (m.threads (thread_id m.cursor.pid tid)))) refl
    where
      go : (o : Option ℕ) → least_below (TID_LIMIT + 1) (λ tid. nat_le 2 tid && is_none (m.threads (thread_id m.cursor.pid tid))) ≡ o → unwrap_or o 0 ≤ greatest
      go None e = omega arith
      go (Some k) e =
          let low : k < TID_LIMIT + 1 = least_below-bound (TID_LIMIT + 1) (λ tid. nat_le 2 tid && is_none (m.threads (thread_id m.cursor.pid tid))) k e in omega arith

  thread_words_are : (tid : ℕ) → tid ≤ greatest → AreEightWords (thread_words tid)
  thread_words_are tid f = eight_are (reply_thread_id ∷ tid ∷ []) (omega arith, (f, tt))

  create_are : IsVerdictOfWords (create_row m w)
  create_are = ((record { pc = arg 1; regs = fresh_are thread_return (thread_sp w) (thread_arguments w) (omega arith) (arg 2) (arg 3, (arg 4, (arg 5, (arg 6, tt)))) }, tt), caller (thread_words_are (unwrap_or (free_tid m m.cursor.pid) 0) tid_fits))

  join_are : IsVerdictOfWords (join_row m w)
  join_are = ((tt, tt), nobody_are)

  terminate_are : IsVerdictOfWords (terminate_row m w)
  terminate_are = ((tt, (tt, (tt, (tt, tt)))), server_refused_are (is_sender_at (λ n. is_server_of m.cursor.pid (m.servers n)) m))

  thread_id_are : IsVerdictOfWords (question_row (λ m. thread_words m.cursor.tid.0) m w)
  thread_id_are = (tt, caller (thread_words_are m.cursor.tid.0 c.tid))

  process_id_are : IsVerdictOfWords (question_row (λ m. scalar1_words m.cursor.pid.0) m w)
  process_id_are = (tt, caller (eight_are (reply_scalar1 ∷ m.cursor.pid.0 ∷ []) (omega arith, (c.pid, tt))))

  -- ---- servers

  sid_are : AreFourWords (named_sid w).0
  sid_are = record { four = refl; words = All-from_recursion (λ x. x ≤ greatest) (sid_words w) (arg 1, (arg 2, (arg 3, (arg 4, tt)))) }

  create_server_are : IsVerdictOfWords (create_server_row m w)
  create_server_are = (
    (record { sid = sid_are; messages = All-nil IsMessageOfWords }, (tt, tt)),
    caller (eight_are (reply_new_server ∷ (sid_words w ++ cid_for (new_serial m) (own_connections m) ∷ []))
        (omega arith, (arg 1, (arg 2, (arg 3, (arg 4, (own_cid (new_serial m), tt))))))),
  )

  connection_are : (serial : Serial) → AreEightWords (connection_words (cid_for serial (own_connections m)))
  connection_are serial = eight_are (reply_connection_id ∷ cid_for serial (own_connections m) ∷ []) (omega arith, (own_cid serial, tt))

  connect_are : IsVerdictOfWords (connect_row m w)
  connect_are = ((tt, tt), caller (connection_are (named_server m (named_sid w))))

  try_connect_are : IsVerdictOfWords (try_connect_row m w)
  try_connect_are = ((tt, tt), caller (connection_are (named_server m (named_sid w))))

  destroy_are : IsVerdictOfWords (destroy_row m w)
  destroy_are =
      let serial = named_server m (named_sid w) in
      let this : ℕ → Bool = λ n. n == serial.0 in (
        (tt, tt),
        both_are (answer_to m.cursor plain_words) (both_answers (refused_server (is_sender_at this m)) (refused_server (receiving_at m serial)))
            (answer_are m.cursor plain_words plain_are)
            (both_are (refused_server (is_sender_at this m)) (refused_server (receiving_at m serial)) (server_refused_are (is_sender_at this m)) (server_refused_are (receiving_at m serial))),
      )

  -- ---- interrupts

  claim_are : IsVerdictOfWords (claim_row m w)
  claim_are = ((record { handler = arg 2; argument = arg 3 }, tt), caller plain_are)

  free_are : IsVerdictOfWords (free_row m w)
  free_are = ((tt, tt), caller plain_are)

  -- ---- messages

  arrival_are : (o : Option ThreadId) (message : Message) → IsMessageOfWords message → AreAnswersOfWords (arrival_answers o message)
  arrival_are None message f = nobody_are
  arrival_are (Some who) message f = answer_are who (message_words message) (message_are message f)

  arriving_are : (o : Option ThreadId) (message : Message) → IsMessageOfWords message → IsMessageStepOfWords (arriving o message)
  arriving_are None message f = f
  arriving_are (Some who) message f = f

  sender_are : (b : Bool) → AreAnswersOfWords (sender_answered b m.cursor)
  sender_are true = nobody_are
  sender_are false = answer_are m.cursor plain_words plain_are

  page_words_are : (first : Vpn) → first.0 ≤ 1048575 → (b : Bool)
      → AreFourWords (if b then PAGE_SIZE * first.0 ∷ send_length w ∷ send_offset w ∷ send_valid w ∷ [] else send_words w)
  page_words_are first low true = record {
    four = refl;
    words = All-from_recursion (λ x. x ≤ greatest) (PAGE_SIZE * first.0 ∷ send_length w ∷ send_offset w ∷ send_valid w ∷ []) (omega arith, (arg 5, (arg 6, (arg 7, tt))));
  }
  page_words_are first low false = record {
    four = refl;
    words = All-from_recursion (λ x. x ≤ greatest) (send_words w) (arg 4, (arg 5, (arg 6, (arg 7, tt))));
  }

  chosen_fits : (b : Bool) (n : ℕ) → n ≤ greatest → (if b then n else 0) ≤ greatest
  chosen_fits true n f = f
  chosen_fits false n f = omega arith

  new_are : (kind : MsgKind) (first : Vpn) → first.0 ≤ 1048575 → IsMessageOfWords (new_message m kind w first)
  new_are kind first low = record {
    number = c.number;
    id = arg 3;
    words = page_words_are first low (carries_pages kind);
    first = chosen_fits (carries_pages kind) first.0 (omega arith);
    count = chosen_fits (carries_pages kind) (send_length w / PAGE_SIZE) (let h : send_length w ≤ greatest = arg 5 in omega arith);
  }

  sent_are : (first : Vpn) → first.0 ≤ 1048575 → IsVerdictOfWords (sent_row first m w)
  sent_are first low =
      let kind = unwrap_or (named_kind w) Scalar in
      let serial = sent_serial m w in
      let message = new_message m kind w first in (
        (tt, (tt, (tt, (arriving_are (receiver m serial) message (new_are kind first low), tt)))),
        both_are (arrival_answers (receiver m serial) message) (sender_answered (is_answered kind) m.cursor)
            (arrival_are (receiver m serial) message (new_are kind first low)) (sender_are (is_answered kind)),
      )

  arrival_low : (unwrap_or (arrival m w) (record { 0 = 0 })).0 ≤ 1048575
  unfolding arrival
  arrival_low = low_or_0 (option_and_then (message_run m (sent_pages w)) (server_at m (send_cid w)))
      (then_holds IsLow (message_run m (sent_pages w)) (server_at m (send_cid w)) (λ s e. run_low m.processes m.ledger s.pid MessageWindow (sent_pages w)))

  send_are : IsVerdictOfWords (send_row m w)
  send_are = sent_are (unwrap_or (arrival m w) (record { 0 = 0 })) arrival_low

  try_send_are : IsVerdictOfWords (try_send_row m w)
  try_send_are = sent_are (unwrap_or (arrival m w) (record { 0 = 0 })) arrival_low

  held_are : (test : Message → Bool) → Holds IsMessageOfWords (held_by_caller m test)
  held_are test =
      then_holds IsMessageOfWords (held_at m test) (holder_of m test)
      (λ serial e. then_holds IsMessageOfWords (λ (server : Server). find test server.held) (m.servers serial.0)
      (λ s f. find_holds IsMessageOfWords test s.held (right_all IsMessageOfWords s.queued s.held (c.machine.servers serial.0 s f).messages)))

  first_are : (message : Message) (first : Vpn) → IsMessageOfWords message → first.0 ≤ 1048575 → IsMessageOfWords (with_first first message)
  first_are message first f low = record {
    number = f.number;
    id = f.id;
    words = record {
      four = rest message.words f.words.four;
      words = All-cons (λ x. x ≤ greatest) (PAGE_SIZE * first.0) (drop 1 message.words) (omega arith) (All-drop (λ x. x ≤ greatest) 1 message.words f.words.words);
    };
    first = omega arith;
    count = f.count;
  }
    where
      rest : (xs : List ℕ) → length xs ≡ 4 → length (PAGE_SIZE * first.0 ∷ drop 1 xs) ≡ 4
      rest [] e = absurd (let d : 0 ≡ 4 = e in omega arith)
      rest (x ∷ xs) e = e

  next_low : (unwrap_or (next_arrival m (passed_number w) (forward_cid w)) (record { 0 = 0 })).0 ≤ 1048575
  unfolding next_arrival
  next_low =
      let run = message_run m (option_map_or (λ (message : Message). message.count) (passable m (passed_number w)) 0) in
      low_or_0 (option_and_then run (server_at m (forward_cid w)))
      (then_holds IsLow run (server_at m (forward_cid w)) (λ s e. run_low m.processes m.ledger s.pid MessageWindow _))

  passed_are : (number : Number) (cid : ℕ) (first : Vpn) → first.0 ≤ 1048575 → (o : Option Message) → Holds IsMessageOfWords o
      → IsVerdictOfWords (passed_if m number cid first o)
  passed_are number cid first low None f = (tt, nobody_are)
  passed_are number cid first low (Some message) f =
      let to = unwrap_or (passed_to m cid) (serial_of 0) in
      let next = first_are message first (f message refl) low in (
        (tt, (tt, (arriving_are (receiver m to) (with_first first message) next, tt))),
        both_are (arrival_answers (receiver m to) (with_first first message)) (answer_to m.cursor plain_words)
            (arrival_are (receiver m to) (with_first first message) next) (answer_are m.cursor plain_words plain_are),
      )

  forward_are : IsVerdictOfWords (forward_row m w)
  forward_are =
      passed_are (passed_number w) (forward_cid w) (unwrap_or (next_arrival m (passed_number w) (forward_cid w)) (record { 0 = 0 })) next_low
      (passable m (passed_number w)) (held_are (is_passable_of (passed_number w)))

  oldest_are : (serial : Serial) → Holds IsMessageOfWords (oldest_queued m serial)
  oldest_are serial =
      then_holds IsMessageOfWords (λ (server : Server). oldest server.queued) (m.servers serial.0)
      (λ s e. front s.queued (left_all IsMessageOfWords s.queued s.held (c.machine.servers serial.0 s e).messages))
    where
      front : (xs : List Message) → All IsMessageOfWords xs → Holds IsMessageOfWords (oldest xs)
      front [] f = none_holds IsMessageOfWords
      front (x ∷ xs) f = some_holds IsMessageOfWords x (All-head IsMessageOfWords x xs f)

  taken_are : (serial : Serial) (o : Option Message) (verdict : Verdict) → Holds IsMessageOfWords o → IsVerdictOfWords verdict
      → IsVerdictOfWords (taken_or m serial o verdict)
  taken_are serial None verdict f g = g
  taken_are serial (Some message) verdict f g = ((f message refl, tt), caller (message_are message (f message refl)))

  receive_are : IsVerdictOfWords (receive_row m w)
  receive_are =
      let serial = named_server m (named_sid w) in
      taken_are serial (oldest_queued m serial) (answers_nobody (Waits m.cursor (Receiving serial) ∷ [])) (oldest_are serial) ((tt, tt), nobody_are)

  try_receive_are : IsVerdictOfWords (try_receive_row m w)
  try_receive_are =
      let serial = named_server m (named_sid w) in
      taken_are serial (oldest_queued m serial) (answers_caller m plain_words []) (oldest_are serial) (tt, caller plain_are)

  gets_are : (words : List ℕ) (o : Option ThreadId) → AreEightWords words → AreAnswersOfWords (sender_gets words o)
  gets_are words None f = nobody_are
  gets_are words (Some who) f = answer_are who words f

  returned_are : (number : Number) (test : Message → Bool) (words : List ℕ) (effects : List Effect) → AreEightWords words
      → AllByRecursion IsEffectOfWords effects → IsVerdictOfWords (returned_row m number test words effects)
  returned_are number test words effects f g =
      let sender = sender_of_message (held_by_caller m test) in
      ((tt, g), both_are (answer_to m.cursor plain_words) (sender_gets words sender) (answer_are m.cursor plain_words plain_are) (gets_are words sender f))

  return_memory_are : IsVerdictOfWords (return_memory_row m w)
  return_memory_are = returned_are (named_number w) (is_lend_of (named_number w)) (returned_words (return_offset w) (return_valid w)) (Pages (Ends (named_number w)) ∷ [])
      (eight_are (reply_memory_returned ∷ return_offset w ∷ return_valid w ∷ []) (omega arith, (arg 4, (arg 5, tt)))) (tt, tt)

  return_scalar1_are : IsVerdictOfWords (return_scalar1_row m w)
  return_scalar1_are = returned_are (named_number w) (is_blocking_of (named_number w)) (scalar1_words (return_value1 w)) []
      (eight_are (reply_scalar1 ∷ return_value1 w ∷ []) (omega arith, (arg 2, tt))) tt

  return_scalar2_are : IsVerdictOfWords (return_scalar2_row m w)
  return_scalar2_are = returned_are (named_number w) (is_blocking_of (named_number w)) (scalar2_words (return_value1 w) (return_value2 w)) []
      (eight_are (reply_scalar2 ∷ return_value1 w ∷ return_value2 w ∷ []) (omega arith, (arg 2, (arg 3, tt)))) tt

  -- ---- the table

  abbrev RowOfWords : ℕ → Row → Type 0
  RowOfWords number row = IsVerdictOfWords (row m w)

  table_are : OfRows (λ number. true) RowOfWords rows
  table_are =
      map_are
      also yield_are
      also claim_are
      also free_are
      also increase_are
      also decrease_are
      also update_are
      also create_server_are
      also receive_are
      also send_are
      also connect_are
      also create_are
      also unmap_are
      also return_memory_are
      also terminate_are
      also try_send_are
      also try_connect_are
      also return_scalar1_are
      also return_scalar2_are
      also try_receive_are
      also join_are
      also destroy_are
      also thread_id_are
      also process_id_are
      also forward_are
      also tt

  pub called_keeps : IsOutcomeOfWords (call m w)
  unfolding decide
  called_keeps =
      subst IsOutcomeOfWords (sym (calls_meant m w)) (verdict_keeps m (decide m w) c.machine
      (of_row (λ number. true) RowOfWords (call_number w) refl unhandled_row tt rows table_are))
