-- Where the pages come from that others than a group can load after a call.
use Rattle.std.proofs.Common.{◌≡◌, ℕ, Bool, ◌&&◌, ◌||◌, true, false, List, [], ◌∷◌, ◌++◌, Option, Some, None, is_none, get_or, refl, sym, ap, ◌∙◌, subst}
use Rattle.std.specs.Prelude.{◌+◌, ◌-◌, ◌/◌, ◌==◌, is_some, unwrap_or}
use Rattle.std.specs.Bool.{⊤}
use Rattle.std.specs.Option.{option_and_then, option_map_or}
use Rattle.std.proofs.lemmas.Bool.{and_parts, eqb-true, false≢true, or_parts}
use Rattle.std.proofs.lemmas.Option.{none-some}
use Rattle.xk_base.specs.declared.errors.XousError.{XousError}
use Rattle.xk_base.specs.declared.errors.XousError.TheVariants.{ServerQueueFull}
use Rattle.xk_base.specs.declared.ids.Number.{Number}
use Rattle.xk_base.specs.declared.ids.Pid.{Pid}
use Rattle.xk_base.specs.declared.ids.Place.{Place}
use Rattle.xk_base.specs.declared.ids.Serial.{Serial}
use Rattle.xk_base.specs.declared.ids.Vpn.{Vpn}
use Rattle.xk_base.specs.declared.messages.Message.{Message}
use Rattle.xk_base.specs.declared.messages.MsgKind.{MsgKind}
use Rattle.xk_base.specs.declared.messages.MsgKind.TheVariants.{BlockingScalar, Lend, LendMut, Move, Scalar}
use Rattle.xk_base.specs.declared.pages.LoanKind.TheVariants.{Exclusive, Shared}
use Rattle.xk_base.specs.declared.windows.Window.TheVariants.{Message as MessageWindow}
use Rattle.syscall_codec.specs.CallNumbers.{claim_interrupt, connect, create_server_with_address, create_thread, decrease_heap}
use Rattle.syscall_codec.specs.CallNumbers.{destroy_server, forward_message, free_interrupt, increase_heap}
use Rattle.syscall_codec.specs.CallNumbers.{join_thread, map_memory, receive_message, return_memory, return_scalar1, return_scalar2}
use Rattle.syscall_codec.specs.CallNumbers.{send_message, terminate_process, try_connect, try_receive_message, try_send_message}
use Rattle.syscall_codec.specs.CallNumbers.{unmap_memory, update_memory_flags, yield_turn}
use Rattle.syscall_codec.specs.CallWords.{call_number, forward_cid, heap_bytes, map_flags, map_phys, map_size, map_virt, range_address}
use Rattle.syscall_codec.specs.CallWords.{range_flags, range_size, return_address, return_size, send_address, send_cid}
use Rattle.syscall_codec.specs.Flags.{right_of}
use Rattle.xk_base.specs.Calls.Kinds.{is_answered}
use Rattle.xk_base.specs.Tables.Sids.{serial_of}
use Rattle.xk_base.specs.declared.limits.TheConstants.{CONSOLE_ADDRESS, PAGE_SIZE}
use Rattle.xk_base.specs.declared.pages.Right.{Right}
use Rattle.syscall_codec.specs.ReplyWords.{plain_words}
use Rattle.ledger_model.specs.Ledger.{Ledger, PageName}
use Rattle.ledger_model.specs.Loans.{loans, same_number}
use Rattle.ledger_model.specs.Places.{in_run}
use Rattle.ledger_model.specs.RunTests.{any_console, any_lacks, any_not_sent, any_on_loan}
use Rattle.ledger_model.specs.Steps.{give, lend, pass}
use Rattle.ledger_model.proofs.LedgerLemmas.{same_number-true}
use Rattle.machine_model.specs.Calling.Calls.{any_refusals, call}
use Rattle.machine_model.specs.Calling.MemoryCalls.{caller_place, decrease_refusals, heap_of, heap_start, increase_refusals, map_address, map_refusals, mapped_ledger, unmap_refusals, update_refusals}
use Rattle.machine_model.specs.Calling.ServerCalls.{named_server, named_sid, own_server_refusals}
use Rattle.machine_model.specs.Ending.Closing.{closed, is_message_at, servers_closed}
use Rattle.machine_model.specs.Ending.Ends.{death}
use Rattle.machine_model.specs.Messaging.ForwardCalls.{forward_refusals, held_place, is_passable_of, next_arrival, next_arrival_refusals, passable, passed_number, passed_place}
use Rattle.machine_model.specs.Messaging.Messages.{carries_pages, is_lend, is_lend_of, is_of_number, new_number}
use Rattle.machine_model.specs.Messaging.ReceiveCalls.{oldest_queued}
use Rattle.machine_model.specs.Messaging.ReturnCalls.{held_by_caller, named_number, return_memory_refusals}
use Rattle.machine_model.specs.Messaging.SendCalls.{arrival, arrival_refusals, is_full_for, message_run, named_kind, send_refusals, sender_left, sends_lend_mut, sends_pages, sent_pages, sent_place}
use Rattle.machine_model.specs.Runs.Matched.{IsMessageLent, Matched}
use Rattle.machine_model.specs.State.Changes.{Outcome, first_refusal, refused_or, unless_refused, unless_retried}
use Rattle.machine_model.specs.State.Machine.{Machine, Receiving, Server}
use Rattle.machine_model.specs.State.Order.{turn}
use Rattle.machine_model.specs.State.Servers.{is_own, is_server_of, server_at, with_sid}
use Rattle.machine_laws.proofs.Calling.RunRefusalLemmas.{not_false, run_not_lent}
use Rattle.machine_laws.proofs.Returning.GivenBackLemmas.{found_at}
use Rattle.machine_model.proofs.Matching.CountLemmas.{all_right}
use Rattle.confidentiality_laws.proofs.Keeping.CallLemmas.{ledger_after, none_hold}
use Rattle.confidentiality_laws.proofs.Keeping.MemoryCallLemmas.{HasNoHome, found_free}
use Rattle.call_effects.specs.Deciding.{decide, row_at, rows, unhandled_row}
use Rattle.call_effects.specs.Effects.{Sends, Waits, paged, run}
use Rattle.call_effects.specs.Rows.InterruptRows.{claim_row, free_row}
use Rattle.call_effects.specs.Rows.MemoryRows.{decrease_row, increase_row, map_row, unmap_row, update_row}
use Rattle.call_effects.specs.Rows.MessageRows.{forward_row, passed_if, receive_row, return_memory_row, return_scalar1_row, return_scalar2_row, send_row, sent_row, sent_to_row, taken_or, try_receive_row, try_send_row}
use Rattle.call_effects.specs.Rows.ServerRows.{connect_row, create_server_row, destroy_row, try_connect_row}
use Rattle.machine_model.specs.Calling.Questions.{Question, questions}
use Rattle.call_effects.specs.Rows.QuestionRows.{question_row}
use Rattle.call_effects.specs.Rows.ThreadRows.{create_row, join_row, terminate_row, yield_row}
use Rattle.call_effects.specs.Verdicts.{answers_caller, answers_nobody, Does, RefusedIf, Refuses, RetriedIf, Row, Verdict, meant}
use Rattle.call_effects.proofs.MeantLemmas.{calls_meant}
use Rattle.call_effects.proofs.HeldLemmas.{is_held}
use Rattle.machine_model.proofs.Calling.TableLemmas.{OfRows, of_questions, of_row, ◌also◌}
use Rattle.noninterference_laws.specs.Handing.{called_over, destroyed_over, forwarded_over, returned_over, handing_at, handings, no_pages}
use Rattle.noninterference_laws.specs.Handing.{run_pages, sent_over}
use Rattle.noninterference_laws.specs.Inside.{Group}
use Rattle.noninterference_laws.proofs.Seeing.DeathLemmas.{death_sources}
use Rattle.noninterference_laws.proofs.Seeing.HeldLemmas.{HasLoans, at_servers, has_loans, of_message}
use Rattle.noninterference_laws.proofs.Seeing.LedgerStepLemmas.{AreHeld, AreSendable, Sources, console_sources, end_loan_sources}
use Rattle.noninterference_laws.proofs.Seeing.LedgerStepLemmas.{end_loans_sources, give_sources, lend_sources, make_sources, pass_sources}
use Rattle.noninterference_laws.proofs.Seeing.LedgerStepLemmas.{reduce_sources, remove_sources, stay_sources}

module _ (group : Group) where
  -- what comes of a verdict
  abbrev After : Machine → (PageName → Bool) → Outcome → Type 0
  After m handed outcome = Sources group m.cursor.pid handed m.ledger (ledger_after m outcome)

  unless_refused_after : (m : Machine) (handed : PageName → Bool) (refusals : List (Bool × XousError)) (outcome : Outcome)
      → (first_refusal refusals ≡ None → After m handed outcome) → After m handed (unless_refused refusals outcome)
  unless_refused_after m handed refusals outcome next = go (first_refusal refusals) refl
    where
      go : (o : Option XousError) → first_refusal refusals ≡ o → After m handed (refused_or o outcome)
      go None e = next e
      go (Some error) e = stay_sources group m.cursor.pid handed m.ledger

  unless_retried_after : (m : Machine) (handed : PageName → Bool) (test : Bool) (outcome : Outcome) → After m handed outcome
      → After m handed (unless_retried test outcome)
  unless_retried_after m handed true outcome next = stay_sources group m.cursor.pid handed m.ledger
  unless_retried_after m handed false outcome next = next

  -- the row of this number hands over what is said
  abbrev RowHands : ℕ → Row → Type 0
  RowHands number row = (m : Machine) (w : List ℕ) → Matched m → After m (handing_at number handings m w) (meant m (row m w))

  -- ---- rows that leave the ledger

  -- each effect of the verdict, where it is served, leaves the ledger
  AllLeave : Machine → Verdict → Type 0
  AllLeave m (Refuses error) = ⊤
  AllLeave m (Does plan) = (run plan.effects m).ledger ≡ m.ledger
  AllLeave m (RefusedIf refusals verdict) = AllLeave m verdict
  AllLeave m (RetriedIf test verdict) = AllLeave m verdict

  left : (m : Machine) (handed : PageName → Bool) (verdict : Verdict) → AllLeave m verdict → After m handed (meant m verdict)
  unfolding AllLeave
  left m handed (Refuses error) e = stay_sources group m.cursor.pid handed m.ledger
  left m handed (Does plan) e =
      subst (λ l. Sources group m.cursor.pid handed m.ledger l) (sym e) (stay_sources group m.cursor.pid handed m.ledger)
  left m handed (RefusedIf refusals verdict) e =
      unless_refused_after m handed refusals (meant m verdict) (λ none. left m handed verdict e)
  left m handed (RetriedIf test verdict) e = unless_retried_after m handed test (meant m verdict) (left m handed verdict e)

  yield_hands : RowHands yield_turn yield_row
  unfolding AllLeave turn
  yield_hands m w h = left m no_pages (yield_row m w) refl

  claim_hands : RowHands claim_interrupt claim_row
  unfolding AllLeave
  claim_hands m w h = left m no_pages (claim_row m w) refl

  free_hands : RowHands free_interrupt free_row
  unfolding AllLeave
  free_hands m w h = left m no_pages (free_row m w) refl

  create_server_hands : RowHands create_server_with_address create_server_row
  unfolding AllLeave
  create_server_hands m w h = left m no_pages (create_server_row m w) refl

  connect_hands : RowHands connect connect_row
  unfolding AllLeave
  connect_hands m w h = left m no_pages (connect_row m w) refl

  try_connect_hands : RowHands try_connect try_connect_row
  unfolding AllLeave
  try_connect_hands m w h = left m no_pages (try_connect_row m w) refl

  create_hands : RowHands create_thread create_row
  unfolding AllLeave
  create_hands m w h = left m no_pages (create_row m w) refl

  join_hands : RowHands join_thread join_row
  unfolding AllLeave
  join_hands m w h = left m no_pages (join_row m w) refl

  question_hands : (number : ℕ) (question : Question) → RowHands number (question_row question)
  unfolding AllLeave
  question_hands number question m w h = left m (handing_at number handings m w) (question_row question m w) refl

  return_scalar1_hands : RowHands return_scalar1 return_scalar1_row
  unfolding AllLeave
  return_scalar1_hands m w h = left m no_pages (return_scalar1_row m w) refl

  return_scalar2_hands : RowHands return_scalar2 return_scalar2_row
  unfolding AllLeave
  return_scalar2_hands m w h = left m no_pages (return_scalar2_row m w) refl

  taken_leaves : (m : Machine) (serial : Serial) (o : Option Message) (verdict : Verdict) → AllLeave m verdict
      → AllLeave m (taken_or m serial o verdict)
  unfolding AllLeave
  taken_leaves m serial None verdict e = e
  taken_leaves m serial (Some message) verdict e = refl

  receive_hands : RowHands receive_message receive_row
  unfolding AllLeave
  receive_hands m w h =
      let serial = named_server m (named_sid w) in
      left m no_pages (receive_row m w)
      (taken_leaves m serial (oldest_queued m serial) (answers_nobody (Waits m.cursor (Receiving serial) ∷ [])) refl)

  try_receive_hands : RowHands try_receive_message try_receive_row
  unfolding AllLeave
  try_receive_hands m w h =
      let serial = named_server m (named_sid w) in
      left m no_pages (try_receive_row m w)
      (taken_leaves m serial (oldest_queued m serial) (answers_caller m plain_words []) refl)

  -- ---- memory

  maps_sources : (pid : Pid) (console : Bool) (first : Place) (n : ℕ) (right : Right) (l : Ledger)
      → Sources group pid no_pages l (mapped_ledger console first n right l)
  maps_sources pid true first n right l = console_sources group pid no_pages first right.w l
  maps_sources pid false first n right l = make_sources group pid no_pages first n right l

  map_hands : RowHands map_memory map_row
  map_hands m w h =
      let console = map_phys w == CONSOLE_ADDRESS in
      let first = caller_place m (map_address m (map_virt w) (map_size w)) in
      unless_refused_after m no_pages (map_refusals m (map_phys w) (map_virt w) (map_size w) (map_flags w)) _
      (λ none. maps_sources m.cursor.pid console first (map_size w / PAGE_SIZE) (right_of (map_flags w)) m.ledger)

  unmap_hands : RowHands unmap_memory unmap_row
  unmap_hands m w h =
      unless_refused_after m no_pages (unmap_refusals m (range_address w) (range_size w)) _
      (λ none. remove_sources group m.cursor.pid no_pages (in_run (caller_place m (range_address w)) (range_size w / PAGE_SIZE)) m.ledger)

  update_hands : RowHands update_memory_flags update_row
  update_hands m w h =
      unless_refused_after m no_pages (update_refusals m (range_address w) (range_size w) (range_flags w)) _
      (λ none. reduce_sources group m.cursor.pid no_pages (in_run (caller_place m (range_address w)) (range_size w / PAGE_SIZE))
      (right_of (range_flags w)) m.ledger)

  increase_hands : RowHands increase_heap increase_row
  increase_hands m w h =
      unless_refused_after m no_pages (increase_refusals m (heap_bytes w)) _
      (λ none. make_sources group m.cursor.pid no_pages (caller_place m (heap_start + heap_of m)) (heap_bytes w / PAGE_SIZE)
      (record { w = true; x = false }) m.ledger)

  decrease_hands : RowHands decrease_heap decrease_row
  decrease_hands m w h =
      unless_refused_after m no_pages (decrease_refusals m (heap_bytes w)) _
      (λ none. remove_sources group m.cursor.pid no_pages
      (in_run (caller_place m (heap_start + (heap_of m - heap_bytes w))) (heap_bytes w / PAGE_SIZE)) m.ledger)

  -- ---- sends

  module _ (m : Machine) (w : List ℕ) where
    abbrev from : Place
    from = caller_place m (send_address w)

    abbrev many : ℕ
    many = sent_pages w

    -- the places of the run that is found are free
    run_is_free : (server : Option Server) → server_at m (send_cid w) ≡ server → (o : Option Vpn)
        → option_and_then (message_run m many) server ≡ o → is_none o ≡ false
        → HasNoHome m.ledger (sent_place m w (unwrap_or o (record { 0 = 0 }))) many
    run_is_free server s None e some = absurd (false≢true (sym some))
    run_is_free None s (Some v) e some = absurd (none-some v e)
    run_is_free (Some server) s (Some v) e some =
        subst (λ pid. HasNoHome m.ledger (record { pid = pid; vpn = v }) many)
        (sym (ap (λ o. option_map_or (λ (x : Server). x.pid) o m.cursor.pid) s))
        (found_free m.processes m.ledger server.pid MessageWindow many v e)

    carried : (b : Bool) (x : Bool) → b ≡ true → b && x ≡ false → x ≡ false
    carried b x e f = sym (ap (λ c. c && x) e) ∙ f

    pub to_free : sends_pages w ≡ true → sends_pages w && is_none (arrival m w) ≡ false
        → HasNoHome m.ledger (sent_place m w (unwrap_or (arrival m w) (record { 0 = 0 }))) many
    unfolding arrival
    to_free carries e =
        run_is_free (server_at m (send_cid w)) refl (arrival m w) refl (carried (sends_pages w) (is_none (arrival m w)) carries e)

    sendable : sends_pages w ≡ true → sends_pages w && any_not_sent m.processes m.ledger from many (sends_lend_mut w) ≡ false
        → AreSendable group m.cursor.pid from many m.ledger
    sendable carries e = record {
      own = refl;
      unlent = run_not_lent m.processes m.ledger from many (not_lent (carried (sends_pages w) (any_not_sent m.processes m.ledger from many (sends_lend_mut w)) carries e));
    }
      where
        not_lent : any_not_sent m.processes m.ledger from many (sends_lend_mut w) ≡ false → any_on_loan m.processes m.ledger from many ≡ false
        not_lent f = (or_parts (any_on_loan m.processes m.ledger from many) (any_console m.ledger from many)
            (or_parts (any_on_loan m.processes m.ledger from many || any_console m.ledger from many) (sends_lend_mut w && any_lacks (record { w = true; x = false }) m.ledger from many) f).0).0

    -- where it carries pages it hands over the run
    over_run : sends_pages w ≡ true → sent_over m w ≡ run_pages from many
    over_run carries = λ i page. carries i && run_pages from many page

    sent_sources : (to : Place) (o : Option MsgKind) → named_kind w ≡ o
        → sends_pages w && any_not_sent m.processes m.ledger from many (sends_lend_mut w) ≡ false
        → (sends_pages w ≡ true → HasNoHome m.ledger to many)
        → Sources group m.cursor.pid (sent_over m w) m.ledger (paged (Sends (unwrap_or o Scalar) from many to (new_number m)) m.ledger)
    sent_sources to None q e free = stay_sources group m.cursor.pid (sent_over m w) m.ledger
    sent_sources to (Some Scalar) q e free = stay_sources group m.cursor.pid (sent_over m w) m.ledger
    sent_sources to (Some BlockingScalar) q e free = stay_sources group m.cursor.pid (sent_over m w) m.ledger
    sent_sources to (Some LendMut) q e free =
        let carries : sends_pages w ≡ true = ap (λ o. option_map_or carries_pages o false) q in
        subst (λ x. Sources group m.cursor.pid x m.ledger (lend from many to Exclusive (new_number m) m.ledger)) (sym (over_run carries))
        (lend_sources group m.cursor.pid from many to Exclusive (new_number m) m.ledger (sendable carries e))
    sent_sources to (Some Lend) q e free =
        let carries : sends_pages w ≡ true = ap (λ o. option_map_or carries_pages o false) q in
        subst (λ x. Sources group m.cursor.pid x m.ledger (lend from many to Shared (new_number m) m.ledger)) (sym (over_run carries))
        (lend_sources group m.cursor.pid from many to Shared (new_number m) m.ledger (sendable carries e))
    sent_sources to (Some Move) q e free =
        let carries : sends_pages w ≡ true = ap (λ o. option_map_or carries_pages o false) q in
        subst (λ x. Sources group m.cursor.pid x m.ledger (give from many to m.ledger)) (sym (over_run carries))
        (give_sources group m.cursor.pid from many to m.ledger (sendable carries e) (free carries))

    waits_ledger : (b : Bool) (number : Number) (x : Machine) → (sender_left b number x).ledger ≡ x.ledger
    waits_ledger true number x = refl
    waits_ledger false number x = refl

    sent_after : (first : Vpn) → sends_pages w && any_not_sent m.processes m.ledger from many (sends_lend_mut w) ≡ false
        → (sends_pages w ≡ true → HasNoHome m.ledger (sent_place m w first) many) → After m (sent_over m w) (meant m (sent_row first m w))
    sent_after first e free =
        let kind = unwrap_or (named_kind w) Scalar in
        subst (λ l. Sources group m.cursor.pid (sent_over m w) m.ledger l)
        (sym (waits_ledger (is_answered kind) (new_number m)
        (record m { ledger = paged (Sends kind from many (sent_place m w first) (new_number m)) m.ledger; next_number = m.next_number + 1 })))
        (sent_sources (sent_place m w first) (named_kind w) refl e free)

    sent_to_after : first_refusal (send_refusals m w) ≡ None → After m (sent_over m w) (meant m (sent_to_row m w))
    sent_to_after none =
        unless_refused_after m (sent_over m w) (arrival_refusals w (arrival m w)) _
        (λ found. sent_after (unwrap_or (arrival m w) (record { 0 = 0 })) (none_hold (send_refusals m w) none).1.1.1.1.0
        (λ carries. to_free carries (none_hold (arrival_refusals w (arrival m w)) found).0))

  send_hands : RowHands send_message send_row
  send_hands m w h =
      unless_refused_after m (sent_over m w) (send_refusals m w) _
      (λ none. unless_retried_after m (sent_over m w) (is_full_for m w) (meant m (sent_to_row m w)) (sent_to_after m w none))

  -- the first tests of a longer list
  pub first_none : (a b : List (Bool × XousError)) → first_refusal (a ++ b) ≡ None → first_refusal a ≡ None
  first_none [] b e = refl
  first_none ((true, error) ∷ a) b e = e
  first_none ((false, error) ∷ a) b e = first_none a b e

  try_send_hands : RowHands try_send_message try_send_row
  try_send_hands m w h =
      unless_refused_after m (sent_over m w) (send_refusals m w ++ (is_full_for m w, ServerQueueFull) ∷ []) _
      (λ none. sent_to_after m w (first_none (send_refusals m w) ((is_full_for m w, ServerQueueFull) ∷ []) none))

  -- ---- messages that are held

  -- its loan is held by the caller's process
  pub caller_holds : (m : Machine) → HasLoans m → (number : Number) (test : Message → Bool) → ((x : Message) → test x ≡ true → is_lend_of number x ≡ true)
      → (x : Message) → held_by_caller m test ≡ Some x → AreHeld group m.cursor.pid (λ k. same_number k number) m.ledger
  caller_holds m h number test lends x e p loan there is =
      let held = is_held m test x e in
      let place = found_at test held.server.held x held.found in
      let its = of_message m number p loan there (same_number-true loan.number number is) held.server (get_or held.server.held place.0 place.1)
      (all_right (IsMessageLent (loans m.ledger) held.server) held.server.queued held.server.held (h.loans.lends held.serial.0 held.server held.there)
      place.0 place.1 place.2)
      (ap (is_lend_of number) place.3 ∙ lends x held.passes) in
      ap (λ (k : Pid). k.0) (its.holder ∙ held.own)

  pub is_there : (o : Option Message) → is_none o ≡ false → (x : Message) × (o ≡ Some x)
  is_there None e = absurd (false≢true (sym e))
  is_there (Some x) e = (x, refl)

  return_memory_hands : RowHands return_memory return_memory_row
  return_memory_hands m w h =
      unless_refused_after m (returned_over m w) (return_memory_refusals m (named_number w) (return_address w) (return_size w)) _
      (λ none.
      let x = is_there (held_by_caller m (is_lend_of (named_number w))) (none_hold (return_memory_refusals m (named_number w) (return_address w) (return_size w)) none).0 in
      end_loan_sources group m.cursor.pid (named_number w) m.ledger
      (caller_holds m (has_loans m h) (named_number w) (is_lend_of (named_number w)) (λ y e. e) x.0 x.1))

  passed_after : (m : Machine) (h : Matched m) (w : List ℕ) (first : Vpn) (o : Option Message) → passable m (passed_number w) ≡ o
      → After m (forwarded_over m w) (meant m (passed_if m (passed_number w) (forward_cid w) first o))
  passed_after m h w first None e = stay_sources group m.cursor.pid (forwarded_over m w) m.ledger
  passed_after m h w first (Some message) e =
      subst (λ (k : Number). Sources group m.cursor.pid (forwarded_over m w) m.ledger (pass k (held_place m message) (passed_place m (forward_cid w) first) m.ledger))
      (sym (same_number-true message.number number (and_parts (is_of_number number message) (is_lend message.kind) lends).0))
      (pass_sources group m.cursor.pid number (held_place m message) (passed_place m (forward_cid w) first) m.ledger
      (caller_holds m (has_loans m h) number (is_passable_of number) (λ y f. (and_parts (is_lend_of number y) (is_some y.sender) f).0) message e))
    where
      number : Number
      number = passed_number w

      lends : is_lend_of (passed_number w) message ≡ true
      lends = (and_parts (is_lend_of (passed_number w) message) (is_some message.sender) (is_held m (is_passable_of (passed_number w)) message e).passes).0

  forward_hands : RowHands forward_message forward_row
  forward_hands m w h =
      let first = next_arrival m (passed_number w) (forward_cid w) in
      unless_refused_after m (forwarded_over m w) (forward_refusals m (passed_number w) (forward_cid w)) _
      (λ none. unless_refused_after m (forwarded_over m w) (next_arrival_refusals first) _
      (λ found. passed_after m h w (unwrap_or first (record { 0 = 0 })) (passable m (passed_number w)) refl))

  -- ---- servers and processes that end

  pub own_server : (m : Machine) (o : Option Serial) → is_own m o ≡ true → is_server_of m.cursor.pid (m.servers (unwrap_or o (serial_of 0)).0) ≡ true
  own_server m None e = absurd (false≢true e)
  own_server m (Some serial) e = e

  pub this_held : (m : Machine) (serial : Serial) → HasLoans m → is_server_of m.cursor.pid (m.servers serial.0) ≡ true
      → AreHeld group m.cursor.pid (is_message_at (λ n. n == serial.0) m) m.ledger
  this_held m serial h own p loan there e =
      let at = at_servers m h (λ n. n == serial.0) p loan there e in
      let here : at.0 ≡ serial.0 = eqb-true at.0 serial.0 at.3 in
      ap (λ (k : Pid). k.0) at.4
      ∙ eqb-true at.1.pid.0 m.cursor.pid.0 (sym (ap (is_server_of m.cursor.pid) (sym (ap m.servers here) ∙ at.2)) ∙ own)

  destroy_hands : RowHands destroy_server destroy_row
  unfolding closed
  destroy_hands m w h =
      let serial = named_server m (named_sid w) in
      unless_refused_after m (destroyed_over m w) (own_server_refusals m (named_sid w)) _
      (λ none. end_loans_sources group m.cursor.pid (is_message_at (λ n. n == serial.0) m) m.ledger
      (this_held m serial (has_loans m h)
      (own_server m (with_sid m (named_sid w)) (not_false (is_own m (with_sid m (named_sid w))) (none_hold (own_server_refusals m (named_sid w)) none).0))))

  terminate_hands : RowHands terminate_process terminate_row
  unfolding death servers_closed
  terminate_hands m w h = death_sources m.cursor.pid m group (has_loans m h)

-- ---- the table

module _ (group : Group) where
  table_hands : OfRows (λ number. true) (RowHands group) rows
  table_hands =
      map_hands group
      also yield_hands group
      also claim_hands group
      also free_hands group
      also increase_hands group
      also decrease_hands group
      also update_hands group
      also create_server_hands group
      also receive_hands group
      also send_hands group
      also connect_hands group
      also create_hands group
      also unmap_hands group
      also return_memory_hands group
      also terminate_hands group
      also try_send_hands group
      also try_connect_hands group
      also return_scalar1_hands group
      also return_scalar2_hands group
      also try_receive_hands group
      also join_hands group
      also destroy_hands group
      also of_questions (λ number. true) (RowHands group) question_row (question_hands group) questions ((forward_message, forward_row) ∷ [])
      (forward_hands group also tt)

  pub call_sources : (m : Machine) (w : List ℕ) → Matched m
      → Sources group m.cursor.pid (called_over m w) m.ledger (ledger_after m (call m w))
  unfolding decide
  call_sources m w h =
      subst (λ outcome. After group m (called_over m w) outcome) (sym (calls_meant m w))
      (unless_refused_after group m (called_over m w) (any_refusals m w) (meant m (row_at (call_number w) rows m w))
      (λ none. of_row (λ number. true) (RowHands group) (call_number w) refl unhandled_row
      (λ n words matched. stay_sources group n.cursor.pid (handing_at (call_number w) handings n words) n.ledger) rows table_hands m w h))
