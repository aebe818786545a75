-- Each served call is of one of the kinds.
use Rattle.std.proofs.Common.{◌≡◌, ℕ, ◌<◌, Bool, true, false, List, [], ◌∷◌, ◌++◌, Option, Some, None, refl, sym, ap, ◌∙◌, subst, arith}
use Rattle.std.specs.Prelude.{◌==◌, ◌&&◌, not, is_none, is_some, slice_index, unwrap_or, ◌+◌, nat_le, ◌/◌, ◌-◌}
use Rattle.std.specs.Option.{option_and_then, option_map_or}
use Rattle.std.proofs.lemmas.Bool.{and_parts, eq-eqb, eqb-true, false≢true}
use Rattle.std.proofs.lemmas.Option.{none-some}
use Rattle.xk_base.specs.declared.errors.XousError.{XousError}
use Rattle.xk_base.specs.declared.errors.XousError.TheVariants.{ServerQueueFull}
use Rattle.xk_base.specs.declared.ids.Place.{Place}
use Rattle.xk_base.specs.declared.ids.Serial.{Serial}
use Rattle.xk_base.specs.declared.ids.ThreadId.{ThreadId}
use Rattle.xk_base.specs.declared.ids.Vpn.{Vpn}
use Rattle.xk_base.specs.declared.messages.Message.{Message}
use Rattle.xk_base.specs.declared.messages.MsgKind.{MsgKind}
use Rattle.xk_base.specs.declared.messages.MsgKind.TheVariants.{Scalar}
use Rattle.xk_base.specs.Tables.Connections.{connected_to}
use Rattle.xk_base.specs.Tables.Counting.{least_below}
use Rattle.xk_base.specs.Tables.Sids.{serial_of}
use Rattle.xk_base.specs.declared.limits.TheConstants.{TID_LIMIT}
use Rattle.xk_base.proofs.CountingLemmas.{least_below-passes}
use Rattle.syscall_codec.specs.CallNumbers.{create_server_with_address, destroy_server, forward_message, receive_message, reply_message, return_memory, return_scalar1}
use Rattle.syscall_codec.specs.CallNumbers.{return_scalar2, send_message, try_receive_message, try_send_message}
use Rattle.syscall_codec.specs.CallWords.{call_number, forward_cid, return_address, return_size, send_cid}
use Rattle.syscall_codec.specs.ReplyWords.{connection_words, plain_words, range_words, thread_words}
use Rattle.machine_model.specs.Calling.Calls.{call}
use Rattle.machine_model.specs.Calling.ThreadCalls.{create_refusals, free_tid}
use Rattle.syscall_codec.specs.CallWords.{thread_entry}
use Rattle.machine_model.specs.Calling.ServerCalls.{create_server_refusals, named_server, named_sid, own_server_refusals}
use Rattle.machine_model.specs.Messaging.ForwardCalls.{are_one_server, forward_refusals, is_passable_of, next_arrival, next_arrival_refusals, passable, passed_from, passed_number, passed_to}
use Rattle.machine_model.specs.Messaging.Messages.{carries_pages, is_lend_of, oldest}
use Rattle.machine_model.specs.Messaging.ReceiveCalls.{oldest_queued}
use Rattle.machine_model.specs.Messaging.ReturnCalls.{held_by_caller, holder_of, is_its_range, named_number, return_memory_refusals, return_scalar_refusals}
use Rattle.machine_model.specs.Messaging.ReturnCalls.{sender_gets, sender_of_message}
use Rattle.machine_model.specs.Messaging.SendCalls.{arrival, arrival_refusals, is_full_for, message_run, named_kind, send_refusals, sends_pages, sent_pages}
use Rattle.machine_model.specs.Runs.LoanSpan.{is_send}
use Rattle.machine_model.specs.Runs.Matched.{Matched}
use Rattle.machine_model.specs.State.Changes.{Change, first_refusal}
use Rattle.machine_model.specs.State.Connections.{own_connections}
use Rattle.machine_model.specs.State.Machine.{Machine, Server, Thread}
use Rattle.machine_model.specs.State.Servers.{is_full, is_own, is_server_of, server_at, with_sid}
use Rattle.machine_model.specs.State.Threads.{answer_to, both_answers, thread_id}
use Rattle.machine_laws.proofs.Calling.RunRefusalLemmas.{not_false}
use Rattle.confidentiality_laws.proofs.Keeping.CallLemmas.{none_hold}
use Rattle.call_effects.specs.Deciding.{decide, rows, unhandled_row}
use Rattle.call_effects.specs.Effects.{Effect, Returned, Serves}
use Rattle.call_effects.specs.Rows.MessageRows.{forward_row, passed_if, return_memory_row, sent_to_row, taken_or}
use Rattle.call_effects.specs.Rows.ServerRows.{create_server_row, destroy_row}
use Rattle.call_effects.specs.Verdicts.{Does, Plan, Row}
use Rattle.call_effects.proofs.HeldLemmas.{is_held}
use Rattle.call_effects.proofs.MeantLemmas.{calls_meant}
use Rattle.std.specs.List.{list_all}
use Rattle.machine_model.specs.Calling.Questions.{Question, questions, with_questions}
use Rattle.call_effects.specs.Rows.QuestionRows.{question_row}
use Rattle.machine_model.proofs.Calling.TableLemmas.{OfRows, ◌also◌, of_row}
use Rattle.call_effects.proofs.ServedLemmas.{OfPlan, OfServed, done, of_both, of_plan}
use Rattle.loan_laws.proofs.Fates.ServedFateLemmas.{some_of}
use Rattle.transcript_laws.specs.CallKinds.{AreOwn, ByWaiting, CallKind, CallsAreOfKinds, DestroysServer, EndsProcess, FindsNone, FoundsServer, IsOfKind, IsPassing, IsReturning, IsSending}
use Rattle.transcript_laws.specs.CallKinds.{Keeps, LeadsTo, NamesOwn, PassesMessage, ReturnsMessage, SendsMessage, TakesMessage, WithWords, destroying, finding_none, is_returnable}
use Rattle.transcript_laws.specs.CallKinds.{loan_back, passing, place_at_server, reaches_others, sending, words_back}
use Rattle.transcript_laws.specs.Following.{is_return_call}
use Rattle.transcript_laws.specs.Serving.{is_receive}
use Rattle.call_effects.specs.Rows.InterruptRows.{claim_row, free_row}
use Rattle.call_effects.specs.Rows.MemoryRows.{decrease_row, increase_row, map_row, unmap_row, update_row}
use Rattle.ledger_model.specs.LeastRun.{least_run}
use Rattle.ledger_model.specs.RunTests.{any_on_loan}
use Rattle.machine_laws.proofs.Calling.RunRefusalLemmas.{run_not_lent}
use Rattle.machine_model.specs.Calling.InterruptCalls.{claim_refusals, free_refusals}
use Rattle.machine_model.specs.Calling.MemoryCalls.{caller_place, decrease_refusals, heap_limit, heap_of, heap_start, increase_refusals, map_refusals, unmap_refusals, update_refusals}
use Rattle.machine_model.specs.Calling.ServerCalls.{connect_refusals, is_missing}
use Rattle.machine_model.specs.Stepping.Interrupts.{is_claim_of}
use Rattle.std.proofs.lemmas.Bool.{ltb-false, not-true}
use Rattle.std.specs.Option.{option_map}
use Rattle.syscall_codec.specs.CallNumbers.{claim_interrupt, decrease_heap, free_interrupt, increase_heap, map_memory, unmap_memory, update_memory_flags}
use Rattle.syscall_codec.specs.CallWords.{heap_bytes, interrupt_handler, interrupt_number, map_flags, map_phys, map_size, map_virt, range_address, range_flags, range_size}
use Rattle.xk_base.specs.Tables.Sids.{is_sid}
use Rattle.xk_base.specs.declared.errors.XousError.TheVariants.{ServerNotFound}
use Rattle.xk_base.specs.declared.limits.TheConstants.{PAGE_SIZE}
use Rattle.xk_base.specs.declared.windows.Window.TheVariants.{Map}
use Rattle.confidentiality_laws.proofs.Keeping.MemoryCallLemmas.{grown_free, map_free}
use Rattle.transcript_laws.specs.CallKinds.{AreUnlent, IsLive}

-- ---- tests that don't hold

-- the first tests of a longer list
first_none : (a b : List (Bool × XousError)) → first_refusal (a ++ b) ≡ None → first_refusal a ≡ None
first_none [] b e = refl
first_none ((true, error) ∷ a) b e = e
first_none ((false, error) ∷ a) b e = first_none a b e

behind_none : (a b : List (Bool × XousError)) → first_refusal (a ++ b) ≡ None → first_refusal b ≡ None
behind_none [] b e = e
behind_none ((true, error) ∷ a) b e = absurd (none-some error (sym e))
behind_none ((false, error) ∷ a) b e = behind_none a b e

there_is : {A : Type 0} (default : A) (o : Option A) → is_none o ≡ false → o ≡ Some (unwrap_or o default)
there_is default None e = absurd (false≢true (sym e))
there_is default (Some x) e = refl

there_is_none : {A : Type 0} (o : Option A) → is_some o ≡ false → o ≡ None
there_is_none None e = refl
there_is_none (Some x) e = absurd (false≢true (sym e))

module _ (m : Machine) (h : Matched m) (w : List ℕ) where
  abbrev OfNumber : ℕ → Row → Type 0
  OfNumber k row = OfPlan (CallKind m k w) (row m w)

  keeps : {k : ℕ} {effects : List Effect} → reaches_others k ≡ false → is_receive k ≡ false → (words : List ℕ)
      → (slice_index words 0 == reply_message) ≡ false → AreOwn m effects
      → CallKind m k w (record { effects = effects; answers = answer_to m.cursor words; gone = None })
  keeps alone other words plain own = Keeps _ _ alone other (record { own = own; answered = WithWords _ words plain })

  -- ---- pages

  maps : OfNumber map_memory map_row
  maps none =
      let passed = none_hold (map_refusals m (map_phys w) (map_virt w) (map_size w) (map_flags w)) none in
      keeps refl refl (range_words _ _) refl (
        record {
          own = refl;
          empty = map_free m (map_virt w) (map_size w / PAGE_SIZE) (map_virt w == 0)
              (least_run m.processes m.ledger m.cursor.pid Map (map_size w / PAGE_SIZE)) refl passed.1.1.1.1.1.1.0 passed.1.1.1.1.1.1.1.0;
        },
        tt,
      )

  increases : OfNumber increase_heap increase_row
  increases none =
      let passed = none_hold (increase_refusals m (heap_bytes w)) none in
      keeps refl refl (range_words _ _) refl
      (record { own = refl; empty = grown_free m (heap_bytes w) h (ltb-false heap_limit (heap_of m + heap_bytes w) passed.1.0) }, (tt, tt))

  unlent : (address n : ℕ) → any_on_loan m.processes m.ledger (caller_place m address) n ≡ false → AreUnlent m (caller_place m address) n
  unlent address n none = record { own = refl; unlent = run_not_lent m.processes m.ledger (caller_place m address) n none }

  decreases : OfNumber decrease_heap decrease_row
  decreases none =
      keeps refl refl plain_words refl
      (unlent (heap_start + (heap_of m - heap_bytes w)) (heap_bytes w / PAGE_SIZE) (none_hold (decrease_refusals m (heap_bytes w)) none).1.1.0, (tt, tt))

  updates : OfNumber update_memory_flags update_row
  updates none =
      keeps refl refl plain_words refl (
        unlent (range_address w) (range_size w / PAGE_SIZE)
            (none_hold (update_refusals m (range_address w) (range_size w) (range_flags w)) none).1.1.1.0,
        tt,
      )

  unmaps : OfNumber unmap_memory unmap_row
  unmaps none =
      keeps refl refl plain_words refl
      (unlent (range_address w) (range_size w / PAGE_SIZE) (none_hold (unmap_refusals m (range_address w) (range_size w)) none).1.1.0, tt)

  -- ---- interrupts, connections and threads

  claims : OfNumber claim_interrupt claim_row
  claims none =
      let passed = none_hold (claim_refusals m (interrupt_number w) (interrupt_handler w)) none in
      keeps refl refl plain_words refl (record { free = there_is_none (m.claims (interrupt_number w)) passed.1.1.0; own = refl }, tt)

  frees : OfNumber free_interrupt free_row
  frees none =
      keeps refl refl plain_words refl
      (not_false (is_claim_of m.cursor.pid (m.claims (interrupt_number w))) (none_hold (free_refusals m (interrupt_number w)) none).0, tt)

  -- a server that has the identifier is alive
  live : is_missing m (named_sid w) ≡ false → IsLive m (named_server m (named_sid w))
  unfolding with_sid
  live found = go (least_below m.next_serial is_named) refl found
    where
      is_named : ℕ → Bool
      is_named n = is_sid (named_sid w) (option_map (λ server. server.sid) (m.servers n))

      at : (n : ℕ) (o : Option Server) → m.servers n ≡ o → is_sid (named_sid w) (option_map (λ (server : Server). server.sid) o) ≡ true → IsLive m (serial_of n)
      at n None there e = absurd (false≢true e)
      at n (Some server) there e = record { server = server; there = there }

      go : (o : Option ℕ) → least_below m.next_serial is_named ≡ o → is_none (option_map serial_of o) ≡ false → IsLive m (unwrap_or (option_map serial_of o) (serial_of 0))
      go None q e = absurd (false≢true (sym e))
      go (Some n) q e = at n (m.servers n) refl (least_below-passes m.next_serial is_named n q)

  -- a new thread begins where none was
  begins : first_refusal (create_refusals m (thread_entry w)) ≡ None → m.threads (thread_id m.cursor.pid (unwrap_or (free_tid m m.cursor.pid) 0)) ≡ None
  unfolding free_tid
  begins none = go (free_tid m m.cursor.pid) refl (none_hold (create_refusals m (thread_entry w)) none).1.0
    where
      is_free : ℕ → Bool
      is_free tid = nat_le 2 tid && is_none (m.threads (thread_id m.cursor.pid tid))

      nobody : (o : Option Thread) → is_none o ≡ true → o ≡ None
      nobody None e = refl
      nobody (Some t) e = absurd (false≢true e)

      go : (o : Option ℕ) → least_below (TID_LIMIT + 1) is_free ≡ o → is_none o ≡ false → m.threads (thread_id m.cursor.pid (unwrap_or o 0)) ≡ None
      go None q e = absurd (false≢true (sym e))
      go (Some tid) q e =
          nobody (m.threads (thread_id m.cursor.pid tid))
          (and_parts (nat_le 2 tid) (is_none (m.threads (thread_id m.cursor.pid tid))) (least_below-passes (TID_LIMIT + 1) is_free tid q)).1

  -- ---- servers that a call names

  names_own : first_refusal (own_server_refusals m (named_sid w)) ≡ None → NamesOwn m w
  names_own none =
      go (with_sid m (named_sid w)) refl
      (not_false (is_own m (with_sid m (named_sid w))) (none_hold (own_server_refusals m (named_sid w)) none).0)
    where
      at : (serial : Serial) → with_sid m (named_sid w) ≡ Some serial → (o : Option Server) → m.servers serial.0 ≡ o
          → is_server_of m.cursor.pid o ≡ true → NamesOwn m w
      at serial names None there own = absurd (false≢true own)
      at serial names (Some server) there own =
          let same : server.pid.0 ≡ m.cursor.pid.0 = eqb-true server.pid.0 m.cursor.pid.0 own in
          record { serial = serial; names = names; server = server; there = there; own = λ i. record { 0 = same i } }

      go : (o : Option Serial) → with_sid m (named_sid w) ≡ o → is_own m o ≡ true → NamesOwn m w
      go None names own = absurd (false≢true own)
      go (Some serial) names own = at serial names (m.servers serial.0) refl own

  pub named_is : (its : NamesOwn m w) → its.serial ≡ named_server m (named_sid w)
  named_is its = sym (ap (λ (o : Option Serial). unwrap_or o (serial_of 0)) its.names)

  pub leads_to : (cid : ℕ) → is_none (server_at m cid) ≡ false → is_full (server_at m cid) ≡ false → LeadsTo m cid
  leads_to cid live room = go (connected_to (own_connections m) cid) refl live room
    where
      at : (serial : Serial) → connected_to (own_connections m) cid ≡ Some serial → (o : Option Server) → m.servers serial.0 ≡ o
          → is_none o ≡ false → is_full o ≡ false → LeadsTo m cid
      at serial leads None there live room = absurd (false≢true (sym live))
      at serial leads (Some server) there live room =
          record { serial = serial; leads = leads; server = server; there = there; room = room }

      go : (o : Option Serial) → connected_to (own_connections m) cid ≡ o
          → is_none (option_and_then (λ (serial : Serial). m.servers serial.0) o) ≡ false
          → is_full (option_and_then (λ (serial : Serial). m.servers serial.0) o) ≡ false → LeadsTo m cid
      go None leads live room = absurd (false≢true (sym live))
      go (Some serial) leads live room = at serial leads (m.servers serial.0) refl live room

  server_is : (cid : ℕ) (to : LeadsTo m cid) → server_at m cid ≡ Some to.server
  server_is cid to = ap (λ (o : Option Serial). option_and_then (λ (serial : Serial). m.servers serial.0) o) to.leads ∙ to.there

  serial_is : (cid : ℕ) (to : LeadsTo m cid) → to.serial ≡ unwrap_or (connected_to (own_connections m) cid) (serial_of 0)
  serial_is cid to = sym (ap (λ (o : Option Serial). unwrap_or o (serial_of 0)) to.leads)

  -- the place that the calls compute
  abbrev place_of : Vpn → Option Server → Place
  place_of first o = record { pid = option_map_or (λ (server : Server). server.pid) o m.cursor.pid; vpn = first }

  place_is : (cid : ℕ) (to : LeadsTo m cid) (first : Vpn) → place_at_server to.server first ≡ place_of first (server_at m cid)
  place_is cid to first = sym (ap (place_of first) (server_is cid to))

  -- ---- a server is founded

  founds : OfNumber create_server_with_address create_server_row
  founds none =
      FoundsServer refl (record {
        unused = there_is_none (with_sid m (named_sid w)) (none_hold (create_server_refusals m (named_sid w)) none).0;
        fresh = fresh (m.servers m.next_serial) refl;
        tests = none;
      })
    where
      fresh : (o : Option Server) → m.servers m.next_serial ≡ o → m.servers m.next_serial ≡ None
      fresh None e = e
      fresh (Some server) e = absurd (let low : m.next_serial < m.next_serial = h.rest.above.serials m.next_serial server e in omega arith)

  -- ---- a message is sent

  module _ (k : ℕ) (is : is_send k ≡ true) (tests : first_refusal (send_refusals m w) ≡ None) (to : LeadsTo m (send_cid w)) (kind : MsgKind)
      (named : named_kind w ≡ Some kind) where
    abbrev first : Vpn
    first = unwrap_or (arrival m w) (record { 0 = 0 })

    arrives : arrival m w ≡ message_run m (sent_pages w) to.server
    unfolding arrival
    arrives = ap (λ (o : Option Server). option_and_then (message_run m (sent_pages w)) o) (server_is (send_cid w) to)

    is_free : (sends_pages w && is_none (arrival m w)) ≡ false → carries_pages kind ≡ true → message_run m (sent_pages w) to.server ≡ Some first
    is_free none carries =
        sym arrives ∙ there_is (record { 0 = 0 }) (arrival m w)
        (sym (ap (λ b. b && is_none (arrival m w)) (ap (λ (o : Option MsgKind). option_map_or carries_pages o false) named ∙ carries)) ∙ none)

    sends : OfPlan (CallKind m k w) (sent_to_row m w)
    sends = λ free.
        let it : IsSending m w = record {
          kind = kind;
          named = named;
          to = to;
          tests = tests;
          first = first;
          free = is_free (none_hold (arrival_refusals w (arrival m w)) free).0;
        } in
        subst (CallKind m k w)
        (λ i. sending m w (sym (ap (λ (o : Option MsgKind). unwrap_or o Scalar) named) i) (serial_is (send_cid w) to i) (place_is (send_cid w) to first i))
        (SendsMessage is it)

  -- the server and the kind are there, where the tests of a send don't hold
  sends_if : (k : ℕ) → is_send k ≡ true → first_refusal (send_refusals m w) ≡ None → is_full_for m w ≡ false → OfPlan (CallKind m k w) (sent_to_row m w)
  sends_if k is tests room =
      let passed = none_hold (send_refusals m w) tests in
      let kind = some_of (named_kind w) passed.1.0 in
      sends k is tests (leads_to (send_cid w) passed.0 room) kind.0 kind.1

  -- ---- a message is received

  receives : (k : ℕ) → is_receive k ≡ true → first_refusal (own_server_refusals m (named_sid w)) ≡ None
      → OfPlan (CallKind m k w)
      (taken_or m (named_server m (named_sid w)) (oldest_queued m (named_server m (named_sid w))) (Does (finding_none m k (named_server m (named_sid w)))))
  receives k is none =
      subst (λ (s : Serial). OfPlan (CallKind m k w) (taken_or m s (oldest_queued m s) (Does (finding_none m k s)))) (named_is its)
      (go its.server.queued refl)
    where
      its : NamesOwn m w
      its = names_own none

      of_first : (queue : List Message) → its.server.queued ≡ queue → OfPlan (CallKind m k w) (taken_or m its.serial (oldest queue) (Does (finding_none m k its.serial)))
          → OfPlan (CallKind m k w) (taken_or m its.serial (oldest_queued m its.serial) (Does (finding_none m k its.serial)))
      of_first queue q =
          subst (λ (o : Option Message). OfPlan (CallKind m k w) (taken_or m its.serial o (Does (finding_none m k its.serial))))
          (sym (ap (λ (o : Option Server). option_and_then (λ s. oldest s.queued) o) its.there ∙ ap oldest q))

      go : (queue : List Message) → its.server.queued ≡ queue
          → OfPlan (CallKind m k w) (taken_or m its.serial (oldest_queued m its.serial) (Does (finding_none m k its.serial)))
      go [] q = of_first [] q (FindsNone is its q)
      go (x ∷ rest) q = of_first (x ∷ rest) q (TakesMessage is its x (ap oldest q))

  -- ---- a message is returned

  -- the plan, by the server and the sender that are found
  abbrev returned : ℕ → Serial → Option ThreadId → Plan
  returned k serial sender = record {
    effects = Serves serial (Returned (named_number w)) ∷ loan_back k w;
    answers = both_answers (answer_to m.cursor plain_words) (sender_gets (words_back k w) sender);
    gone = None;
  }

  returns : (k : ℕ) → is_return_call k ≡ true → is_none (held_by_caller m (is_returnable k w)) ≡ false
      → ((k == return_memory) ≡ true → option_map_or (is_its_range (return_address w) (return_size w)) (held_by_caller m (is_returnable k w)) false ≡ true)
      → CallKind m k w (returned k (unwrap_or (holder_of m (is_returnable k w)) (serial_of 0)) (sender_of_message (held_by_caller m (is_returnable k w))))
  returns k is some range =
      let x = some_of (held_by_caller m (is_returnable k w)) some in
      let it : IsReturning m k w = record {
        message = x.0;
        held = is_held m (is_returnable k w) x.0 x.1;
        range = λ e. sym (ap (λ (o : Option Message). option_map_or (is_its_range (return_address w) (return_size w)) o false) x.1) ∙ range e;
      } in
      subst (CallKind m k w)
      (λ i. returned k (sym (ap (λ (o : Option Serial). unwrap_or o (serial_of 0)) it.held.is) i) (sym (ap sender_of_message x.1) i))
      (ReturnsMessage is it)

  returns_memory : OfNumber return_memory return_memory_row
  returns_memory none =
      let message = held_by_caller m (is_lend_of (named_number w)) in
      let passed = none_hold (return_memory_refusals m (named_number w) (return_address w) (return_size w)) none in
      returns return_memory refl passed.0
      (λ e. not_false (option_map_or (is_its_range (return_address w) (return_size w)) message false) passed.1.0)

  -- ---- a message is forwarded

  next_arrives : (x : Message) → passable m (passed_number w) ≡ Some x → (to : LeadsTo m (forward_cid w))
      → next_arrival m (passed_number w) (forward_cid w) ≡ message_run m x.count to.server
  unfolding next_arrival
  next_arrives x there to =
      λ i. option_and_then (message_run m (option_map_or (λ (message : Message). message.count) (there i) 0)) (server_is (forward_cid w) to i)

  passes : (o : Option Message) → passable m (passed_number w) ≡ o → is_none o ≡ false → is_none (server_at m (forward_cid w)) ≡ false
      → is_full (server_at m (forward_cid w)) ≡ false → are_one_server (passed_from m (passed_number w)) (passed_to m (forward_cid w)) ≡ false
      → is_none (next_arrival m (passed_number w) (forward_cid w)) ≡ false
      → OfPlan (CallKind m forward_message w)
      (passed_if m (passed_number w) (forward_cid w) (unwrap_or (next_arrival m (passed_number w) (forward_cid w)) (record { 0 = 0 })) o)
  passes None there some live room apart free = absurd (false≢true (sym some))
  passes (Some x) there some live room apart free =
      subst (CallKind m forward_message w)
      (λ i. passing m x (sym (ap (λ (o : Option Serial). unwrap_or o (serial_of 0)) it.held.is) i) (serial_is (forward_cid w) to i) (place_is (forward_cid w) to first i))
      (PassesMessage refl it)
    where
      first : Vpn
      first = unwrap_or (next_arrival m (passed_number w) (forward_cid w)) (record { 0 = 0 })

      to : LeadsTo m (forward_cid w)
      to = leads_to (forward_cid w) live room

      it : IsPassing m w
      it =
          let held = is_held m (is_passable_of (passed_number w)) x there in
          record {
            message = x;
            held = held;
            to = to;
            apart = λ same. false≢true (sym apart ∙ ((λ i. are_one_server (held.is i) (to.leads i)) ∙ eq-eqb held.serial.0 to.serial.0 (sym same)));
            first = first;
            free = sym (next_arrives x there to) ∙ there_is (record { 0 = 0 }) (next_arrival m (passed_number w) (forward_cid w)) free;
          }

  forwards : OfNumber forward_message forward_row
  forwards = λ none found.
      let passed = none_hold (forward_refusals m (passed_number w) (forward_cid w)) none in
      passes (passable m (passed_number w)) refl passed.0 passed.1.0 passed.1.1.1.0 passed.1.1.0
      (none_hold (next_arrival_refusals (next_arrival m (passed_number w) (forward_cid w))) found).0

  -- ---- the table

  destroys : OfNumber destroy_server destroy_row
  destroys none = let its = names_own none in subst (λ s. CallKind m destroy_server w (destroying m s)) (named_is its) (DestroysServer refl its)

  -- calls that only ask, whose numbers are of no other kind and whose answers are no messages
  abbrev only_asks : ℕ × Question → Bool
  only_asks row = not (reaches_others row.0) && not (is_receive row.0) && not (slice_index (row.1 m) 0 == reply_message)

  questions_keep : (asking : List (ℕ × Question)) → list_all only_asks asking ≡ true → (others : List (ℕ × Row))
      → OfRows (λ k. true) OfNumber others → OfRows (λ k. true) OfNumber (with_questions question_row asking others)
  questions_keep [] e others of = of
  questions_keep (row ∷ more) e others of =
      let both = and_parts (only_asks row) (list_all only_asks more) e in
      let ends = and_parts (not (reaches_others row.0) && not (is_receive row.0)) (not (slice_index (row.1 m) 0 == reply_message)) both.0 in
      let test = and_parts (not (reaches_others row.0)) (not (is_receive row.0)) ends.0 in
      (keeps (not-true _ test.0) (not-true _ test.1) (row.1 m) (not-true _ ends.1) tt, questions_keep more both.1 others of)

  each : OfRows (λ k. true) OfNumber rows
  each =
      maps
      also keeps refl refl plain_words refl (tt, tt)
      also claims
      also frees
      also increases
      also decreases
      also updates
      also founds
      also receives receive_message refl
      also (λ none room. sends_if send_message refl none room)
      also (λ found none. keeps refl refl (connection_words _) refl (live found, tt))
      also (λ none. keeps refl refl (thread_words _) refl (record { own = refl; free = begins none; ready = refl }, tt))
      also unmaps
      also returns_memory
      also EndsProcess refl
      also (λ none. sends_if try_send_message refl (first_none (send_refusals m w) ((is_full_for m w, ServerQueueFull) ∷ []) none)
      (none_hold ((is_full_for m w, ServerQueueFull) ∷ []) (behind_none (send_refusals m w) ((is_full_for m w, ServerQueueFull) ∷ []) none)).0)
      also (λ none. keeps refl refl (connection_words _) refl
      (live (none_hold ((is_missing m (named_sid w), ServerNotFound) ∷ connect_refusals m (named_sid w)) none).0, tt))
      also (λ none. returns return_scalar1 refl (none_hold (return_scalar_refusals m (named_number w)) none).0 (λ e. absurd (false≢true e)))
      also (λ none. returns return_scalar2 refl (none_hold (return_scalar_refusals m (named_number w)) none).0 (λ e. absurd (false≢true e)))
      also receives try_receive_message refl
      also (λ none. Keeps _ _ refl refl (record { own = ((refl, tt), tt); answered = ByWaiting _ }))
      also destroys
      also questions_keep questions refl ((forward_message, forward_row) ∷ []) (forwards also tt)

  -- the plan of a served call has a kind
  pub plan_kind : OfPlan (CallKind m (call_number w) w) (decide m w)
  unfolding decide
  plan_kind = λ none. of_row (λ k. true) OfNumber (call_number w) refl unhandled_row tt rows each

  -- what holds of each kind holds of each served call
  pub of_kinds : (P : Change → Type 0) → ((plan : Plan) → CallKind m (call_number w) w plan → P (done m plan)) → OfServed P (call m w)
  of_kinds P each =
      subst (OfServed P) (sym (calls_meant m w))
      (of_plan P m (decide m w) (of_both (CallKind m (call_number w) w) (λ plan. P (done m plan)) each (decide m w) plan_kind))

pub calls_of_kinds : CallsAreOfKinds
calls_of_kinds m w change h e =
    subst (OfServed (IsOfKind m w)) e (of_kinds m h w (IsOfKind m w) (λ plan kind. record { plan = plan; is = refl; kind = kind }))
