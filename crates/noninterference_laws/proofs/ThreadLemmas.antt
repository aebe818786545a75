-- What a served call makes of another process's threads.
use Rattle.std.proofs.Common.{◌≡◌, ◌≢◌, ℕ, Bool, true, false, inl, inr, List, [], ◌∷◌, Option, Some, None, is_none, refl, sym, ap, ◌∙◌, subst}
use Rattle.std.specs.Prelude.{◌==◌, unwrap_or, if◌then◌else◌}
use Rattle.std.specs.Option.{option_map, option_map_or, option_or}
use Rattle.std.proofs.lemmas.Bool.{and_parts, eqb-true, false≢true}
use Rattle.xk_base.specs.declared.errors.XousError.TheVariants.{ServerNotFound, ServerQueueFull}
use Rattle.xk_base.specs.declared.ids.Number.{Number}
use Rattle.xk_base.specs.declared.ids.Serial.{Serial}
use Rattle.xk_base.specs.declared.ids.ThreadId.{ThreadId}
use Rattle.xk_base.specs.declared.ids.Vpn.{Vpn}
use Rattle.xk_base.specs.declared.messages.Message.{Message}
use Rattle.xk_base.specs.declared.messages.MsgKind.{MsgKind}
use Rattle.xk_base.specs.declared.messages.MsgKind.TheVariants.{Scalar}
use Rattle.syscall_codec.specs.CallNumbers.{forward_message, return_memory, return_scalar1, return_scalar2}
use Rattle.syscall_codec.specs.CallWords.{send_cid, call_number, forward_cid, return_offset, return_valid, return_value1, return_value2}
use Rattle.xk_base.specs.Calls.Kinds.{is_answered}
use Rattle.syscall_codec.specs.ReplyWords.{plain_words, refused_words, returned_words, scalar1_words, scalar2_words}
use Rattle.xk_base.specs.Tables.Circle.{same_thread}
use Rattle.xk_base.specs.Tables.Sids.{serial_of}
use Rattle.ledger_model.proofs.LedgerLemmas.{same_number-true}
use Rattle.machine_model.specs.Calling.Calls.{call}
use Rattle.machine_model.specs.Calling.ServerCalls.{named_server, named_sid, own_server_refusals}
use Rattle.machine_model.specs.Ending.Closing.{any_server, closed, is_sender_at, refused_server}
use Rattle.machine_model.specs.Messaging.ForwardCalls.{forward_refusals, next_arrival, passable, passed_number, passed_to, with_first}
use Rattle.machine_model.specs.Messaging.Messages.{is_blocking_of, is_blocking_scalar, is_lend, is_lend_of, is_of_number, new_message, new_number}
use Rattle.machine_model.specs.Messaging.ReceiveCalls.{oldest_queued}
use Rattle.machine_model.specs.Messaging.Receivers.{is_receiving, receiver, receiving_at}
use Rattle.machine_model.specs.Messaging.ReturnCalls.{held_by_caller, named_number, sender_gets, sender_of_message}
use Rattle.machine_model.specs.Messaging.SendCalls.{arrival, is_full_for, named_kind, send_refusals, sender_answered, sender_left, sent_serial}
use Rattle.machine_model.specs.Runs.Matched.{IsServerAwaited, Matched}
use Rattle.machine_model.specs.State.Changes.{Change, first_refusal}
use Rattle.machine_model.specs.State.Machine.{Idle, Joining, Machine, Ready, Receiving, Server, Thread, ThreadState, Waiting}
use Rattle.machine_model.specs.State.Order.{turn}
use Rattle.machine_model.specs.State.Servers.{server_at, is_own, is_server_of, with_sid}
use Rattle.machine_model.specs.State.Threads.{answer_to, thread_id, with_state}
use Rattle.machine_laws.proofs.Calling.RunRefusalLemmas.{not_false}
use Rattle.machine_laws.proofs.Threading.ThreadStepLemmas.{turned_to}
use Rattle.call_effects.specs.Deciding.{decide, rows, unhandled_row}
use Rattle.call_effects.specs.Effects.{Waits, run}
use Rattle.call_effects.specs.Rows.InterruptRows.{claim_row, free_row}
use Rattle.call_effects.specs.Rows.MemoryRows.{decrease_row, increase_row, map_row, unmap_row, update_row}
use Rattle.call_effects.specs.Rows.MessageRows.{forward_row, arrival_answers, passed_if, receive_row, return_memory_row, return_scalar1_row, return_scalar2_row, sent_row, sent_to_row, taken_or, try_receive_row}
use Rattle.call_effects.specs.Rows.ServerRows.{connect_row, create_server_row, destroy_row, try_connect_row}
use Rattle.machine_model.specs.Calling.Questions.{questions}
use Rattle.call_effects.specs.Rows.QuestionRows.{question_row}
use Rattle.call_effects.specs.Rows.ThreadRows.{create_row, join_row, terminate_row, yield_row}
use Rattle.call_effects.specs.Verdicts.{Plan, Row, Verdict, answers_caller, answers_nobody}
use Rattle.call_effects.proofs.MeantLemmas.{calls_meant}
use Rattle.machine_model.proofs.Calling.TableLemmas.{OfRows, of_questions, of_row, ◌also◌}
use Rattle.call_effects.proofs.ServedLemmas.{OfPlan, OfServed, done, of_both, of_plan}
use Rattle.noninterference_laws.proofs.InstructionLemmas.{other_thread}
use Rattle.confidentiality_laws.proofs.Keeping.CallLemmas.{none_hold}
use Rattle.noninterference_laws.proofs.Seeing.RowLemmas.{first_none, own_server}
use Rattle.noninterference_laws.specs.Fates.{Doing, IsAnswered, IsSend, MadeCall, returned_by}
use Rattle.noninterference_laws.specs.KeptOthers.{by_call}
use Rattle.noninterference_laws.proofs.AnswerLemmas.{arrival_why, either_why, not_why, returned_why, unserved_why}
use Rattle.noninterference_laws.proofs.BroughtLemmas.{held_there, passed_brought, sent_brought}
use Rattle.noninterference_laws.proofs.OtherLemmas.{server_pid}

-- Another's threads are there as before, and are answered only with cause.
pub record KeepsThreads (doing : Doing) (change : Change) : Type 0 where
  pub same : (id : ThreadId) → id.pid ≢ doing.pid → change.machine.threads id ≡ doing.before.threads id
  pub why : (id : ThreadId) → id.pid ≢ doing.pid → (words : List ℕ) → change.answers id ≡ Some words
      → IsAnswered doing change.machine.servers id words

module _ (m : Machine) (who : ThreadId) (w : List ℕ) where
  abbrev here : Machine
  here = turned_to who m

  abbrev made : MadeCall
  made = record { who = who; words = w }

  abbrev doing : Doing
  doing = by_call who w m

  abbrev Keeps : Plan → Type 0
  Keeps plan = KeepsThreads doing (done here plan)

  -- ---- calls that answer no other

  abbrev IsQuiet : Plan → Type 0
  IsQuiet plan = (id : ThreadId) → id.pid ≢ who.pid → (plan.answers id ≡ None) × ((run plan.effects here).threads id ≡ m.threads id)

  quiet_keeps : (plan : Plan) → IsQuiet plan → Keeps plan
  quiet_keeps plan quiet = record {
    same = λ id other. (quiet id other).1;
    why = λ id other. not_why doing (run plan.effects here).servers id (plan.answers id) (quiet id other).0;
  }

  quiet : (verdict : Verdict) → OfPlan IsQuiet verdict → OfPlan Keeps verdict
  quiet verdict of = of_both IsQuiet Keeps quiet_keeps verdict of

  not_caller : (words : List ℕ) (id : ThreadId) → id.pid ≢ who.pid → answer_to who words id ≡ None
  not_caller words id other = ap (λ b. if b then Some words else None) (other_thread id who other)

  taken_quiet : (serial : Serial) (o : Option Message) (verdict : Verdict) → OfPlan IsQuiet verdict → OfPlan IsQuiet (taken_or here serial o verdict)
  taken_quiet serial None verdict of = of
  taken_quiet serial (Some message) verdict of = λ id other. (rw (other_thread id who other) refl, refl)

  waits_quiet : (serial : Serial) → OfPlan IsQuiet (answers_nobody (Waits who (Receiving serial) ∷ []))
  waits_quiet serial id other = (refl, rw (other_thread id who other) refl)

  -- ---- messages that are brought

  waits_same : (b : Bool) (number : Number) (x : Machine) (id : ThreadId) → same_thread id x.cursor ≡ false
      → (sender_left b number x).threads id ≡ x.threads id
  waits_same true number x id e = ap (λ c. if c then option_map (with_state (Waiting number)) (x.threads x.cursor) else x.threads id) e
  waits_same false number x id e = refl

  at_once : (b : Bool) (id : ThreadId) → id.pid ≢ who.pid → sender_answered b who id ≡ None
  at_once true id other = refl
  at_once false id other = not_caller plain_words id other

  sent_keeps : (first : Vpn) → IsSend (call_number w) → is_none (named_kind w) ≡ false → is_none (server_at here (send_cid w)) ≡ false
      → OfPlan Keeps (sent_row first here w)
  unfolding receiver
  sent_keeps first is some alive = record {
    same = λ id other. waits_same (is_answered kind) (new_number here) _ id (other_thread id who other);
    why = λ id other.
        either_why doing _ id (arrival_answers (receiver here serial) message id) (sender_answered (is_answered kind) who id)
        (arrival_why doing _ id made message serial refl (sent_brought m who w first is some alive) (receiver here serial) refl)
        (not_why doing _ id (sender_answered (is_answered kind) who id) (at_once (is_answered kind) id other));
  }
    where
      kind : MsgKind
      kind = unwrap_or (named_kind w) Scalar

      serial : Serial
      serial = sent_serial here w

      message : Message
      message = new_message here kind w first

  sent_to_keeps : IsSend (call_number w) → first_refusal (send_refusals here w) ≡ None
      → OfPlan Keeps (sent_to_row here w)
  sent_to_keeps is none found =
      let passed = none_hold (send_refusals here w) none in
      sent_keeps (unwrap_or (arrival here w) (record { 0 = 0 })) is passed.1.0 passed.0

  passed_keeps : (first : Vpn) → call_number w ≡ forward_message → is_none (server_at here (forward_cid w)) ≡ false → (o : Option Message) → passable here (passed_number w) ≡ o
      → OfPlan Keeps (passed_if here (passed_number w) (forward_cid w) first o)
  unfolding receiver
  passed_keeps first is alive None e = quiet (answers_nobody []) (λ id other. (refl, refl))
  passed_keeps first is alive (Some message) e = record {
    same = λ id other. refl;
    why = λ id other.
        either_why doing _ id (arrival_answers (receiver here to) (with_first first message) id) (answer_to who plain_words id)
        (arrival_why doing _ id made (with_first first message) to refl (passed_brought m who w first is alive message e) (receiver here to) refl)
        (not_why doing _ id (answer_to who plain_words id) (not_caller plain_words id other));
  }
    where
      to : Serial
      to = unwrap_or (passed_to here (forward_cid w)) (serial_of 0)

  -- ---- messages that are returned

  returned_whys : (servers : ℕ → Option Server) (test : Message → Bool) → ((x : Message) → test x ≡ true → is_of_number (named_number w) x ≡ true)
      → (answer : List ℕ) → returned_by w ≡ Some answer → (id : ThreadId) → id.pid ≢ who.pid → (words : List ℕ)
      → option_or (answer_to who plain_words id) (sender_gets answer (sender_of_message (held_by_caller here test)) id) ≡ Some words
      → IsAnswered doing servers id words
  returned_whys servers test numbers answer tells id other =
      either_why doing servers id (answer_to who plain_words id) (sender_gets answer (sender_of_message (held_by_caller here test)) id)
      (not_why doing servers id (answer_to who plain_words id) (not_caller plain_words id other))
      (go (held_by_caller here test) refl)
    where
      go : (o : Option Message) → held_by_caller here test ≡ o → (words : List ℕ) → sender_gets answer (sender_of_message o) id ≡ Some words
          → IsAnswered doing servers id words
      go None e = not_why doing servers id None refl
      go (Some x) e =
          let held = held_there m who w test x e in
          returned_why doing servers id made x answer refl (same_number-true x.number (named_number w) (numbers x held.1)) held.0 tells x.sender refl

  lends_numbered : (x : Message) → is_lend_of (named_number w) x ≡ true → is_of_number (named_number w) x ≡ true
  lends_numbered x e = (and_parts (is_of_number (named_number w) x) (is_lend x.kind) e).0

  blocks_numbered : (x : Message) → is_blocking_of (named_number w) x ≡ true → is_of_number (named_number w) x ≡ true
  blocks_numbered x e = (and_parts (is_of_number (named_number w) x) (is_blocking_scalar x.kind) e).0

  -- what each call that returns tells
  told_for : ℕ → Option (List ℕ)
  told_for number =
      if number == return_memory then Some (returned_words (return_offset w) (return_valid w)) else (
      if number == return_scalar1 then Some (scalar1_words (return_value1 w)) else (
      if number == return_scalar2 then Some (scalar2_words (return_value1 w) (return_value2 w)) else None))

  return_memory_threads : call_number w ≡ return_memory → OfPlan Keeps (return_memory_row here w)
  unfolding told_for
  return_memory_threads is none = record {
    same = λ id other. refl;
    why =
        returned_whys _ (is_lend_of (named_number w)) lends_numbered (returned_words (return_offset w) (return_valid w)) (ap told_for is);
  }

  return_scalar1_threads : call_number w ≡ return_scalar1 → OfPlan Keeps (return_scalar1_row here w)
  unfolding told_for
  return_scalar1_threads is none = record {
    same = λ id other. refl;
    why = returned_whys _ (is_blocking_of (named_number w)) blocks_numbered (scalar1_words (return_value1 w)) (ap told_for is);
  }

  return_scalar2_threads : call_number w ≡ return_scalar2 → OfPlan Keeps (return_scalar2_row here w)
  unfolding told_for
  return_scalar2_threads is none = record {
    same = λ id other. refl;
    why =
        returned_whys _ (is_blocking_of (named_number w)) blocks_numbered (scalar2_words (return_value1 w) (return_value2 w))
        (ap told_for is);
  }

  -- ---- servers that go

  module _ (h : Matched m) where
    state_is : (serial : Serial) (s : ThreadState) → is_receiving serial s ≡ true → s ≡ Receiving serial
    state_is serial Ready e = absurd (false≢true e)
    state_is serial (Receiving other) e =
        let same : other.0 ≡ serial.0 = eqb-true other.0 serial.0 e in ap Receiving (λ i. record { 0 = same i })
    state_is serial (Waiting number) e = absurd (false≢true e)
    state_is serial (Joining tid) e = absurd (false≢true e)
    state_is serial Idle e = absurd (false≢true e)

    -- who is Receiving at a server of the process is of the process
    awaits_own : (serial : Serial) → is_server_of who.pid (m.servers serial.0) ≡ true → (id : ThreadId) → receiving_at m serial id ≡ true
        → id.pid ≡ who.pid
    awaits_own serial own id e = go (m.threads id) refl e
      where
        go : (o : Option Thread) → m.threads id ≡ o → option_map_or (λ t. is_receiving serial t.state) o false ≡ true → id.pid ≡ who.pid
        go None q r = absurd (false≢true r)
        go (Some t) q r =
            let awaited : IsServerAwaited m.servers id.pid serial = h.body.receivers id t serial q (state_is serial t.state r) in
            sym awaited.own ∙ server_pid who.pid awaited.server (sym (ap (is_server_of who.pid) awaited.live) ∙ own)

    destroy_threads : OfPlan Keeps (destroy_row here w)
    unfolding closed any_server
    destroy_threads none = record {
      same = λ id other. refl;
      why = λ id other.
          either_why doing left id (answer_to who plain_words id) (option_or (refused_server (is_sender_at this m) id) (refused_server (receiving_at m serial) id))
          (not_why doing left id (answer_to who plain_words id) (not_caller plain_words id other))
          (either_why doing left id (refused_server (is_sender_at this m) id) (refused_server (receiving_at m serial) id)
          (unserved_why doing left id this own_at (λ n e. ap (λ b. if b then None else m.servers n) e))
          (not_why doing left id (refused_server (receiving_at m serial) id) (unreceiving id other)));
    }
      where
        serial : Serial
        serial = named_server here (named_sid w)

        this : ℕ → Bool
        this n = n == serial.0

        left : ℕ → Option Server
        left n = if this n then None else m.servers n

        own : is_server_of who.pid (m.servers serial.0) ≡ true
        own =
            own_server (λ n. true) here (with_sid here (named_sid w))
            (not_false (is_own here (with_sid here (named_sid w))) (none_hold (own_server_refusals here (named_sid w)) none).0)

        own_at : (n : ℕ) (server : Server) → this n ≡ true → m.servers n ≡ Some server → server.pid ≡ who.pid
        own_at n server e live =
            server_pid who.pid server
            (sym (ap (is_server_of who.pid) (ap m.servers (sym (eqb-true n serial.0 e)) ∙ live)) ∙ own)

        unreceiving : (id : ThreadId) → id.pid ≢ who.pid → refused_server (receiving_at m serial) id ≡ None
        unreceiving id other = go (receiving_at m serial id) refl
          where
            go : (b : Bool) → receiving_at m serial id ≡ b → (if b then Some (refused_words ServerNotFound) else None) ≡ None
            go false q = refl
            go true q = absurd (other (awaits_own serial own id q))

    -- ---- the table

    abbrev OfCall : ℕ → Row → Type 0
    OfCall number row = call_number w ≡ number → OfPlan Keeps (row here w)

    module _ (terminates : OfPlan Keeps (terminate_row here w)) where
      each : OfRows (λ number. true) OfCall rows
      unfolding turn
      each =
          (λ e. quiet (map_row here w) (λ none id other. (rw (other_thread id who other) refl, refl)))
          also (λ e. quiet (yield_row here w) (λ id other. (rw (other_thread id who other) refl, refl)))
          also (λ e. quiet (claim_row here w) (λ none id other. (rw (other_thread id who other) refl, refl)))
          also (λ e. quiet (free_row here w) (λ none id other. (rw (other_thread id who other) refl, refl)))
          also (λ e. quiet (increase_row here w) (λ none id other. (rw (other_thread id who other) refl, refl)))
          also (λ e. quiet (decrease_row here w) (λ none id other. (rw (other_thread id who other) refl, refl)))
          also (λ e. quiet (update_row here w) (λ none id other. (rw (other_thread id who other) refl, refl)))
          also (λ e. quiet (create_server_row here w) (λ none id other. (rw (other_thread id who other) refl, refl)))
          also (λ e. quiet (receive_row here w)
          (λ none. taken_quiet (named_server here (named_sid w)) (oldest_queued here (named_server here (named_sid w)))
          (answers_nobody (Waits who (Receiving (named_server here (named_sid w))) ∷ [])) (waits_quiet (named_server here (named_sid w)))))
          also (λ e none passed. sent_to_keeps (inl e) none)
          also (λ e. quiet (connect_row here w) (λ passed none id other. (rw (other_thread id who other) refl, refl)))
          also (λ e. quiet (create_row here w)
          (λ none id other. (rw (other_thread id who other) refl, rw (other_thread id (thread_id who.pid _) other) refl)))
          also (λ e. quiet (unmap_row here w) (λ none id other. (rw (other_thread id who other) refl, refl)))
          also (λ e. return_memory_threads e)
          also (λ e. terminates)
          also (λ e none. sent_to_keeps (inr e) (first_none (λ n. true) (send_refusals here w) ((is_full_for here w, ServerQueueFull) ∷ []) none))
          also (λ e. quiet (try_connect_row here w) (λ none id other. (rw (other_thread id who other) refl, refl)))
          also (λ e. return_scalar1_threads e)
          also (λ e. return_scalar2_threads e)
          also (λ e. quiet (try_receive_row here w)
          (λ none. taken_quiet (named_server here (named_sid w)) (oldest_queued here (named_server here (named_sid w)))
          (answers_caller here plain_words []) (λ id other. (rw (other_thread id who other) refl, refl))))
          also (λ e. quiet (join_row here w) (λ none id other. (refl, rw (other_thread id who other) refl)))
          also (λ e. destroy_threads)
          also of_questions (λ number. true) OfCall question_row
          (λ number question e. quiet (question_row question here w) (λ id other. (rw (other_thread id who other) refl, refl))) questions
          ((forward_message, forward_row) ∷ [])
          ((λ e none found. passed_keeps (unwrap_or (next_arrival here (passed_number w) (forward_cid w)) (record { 0 = 0 })) e
          (none_hold (forward_refusals here (passed_number w) (forward_cid w)) none).1.0 (passable here (passed_number w)) refl)
          also tt)

      pub call_threads : OfServed (KeepsThreads doing) (call here w)
      unfolding decide
      call_threads =
          subst (OfServed (KeepsThreads doing)) (sym (calls_meant here w))
          (of_plan (KeepsThreads doing) here (decide here w)
          (λ none. of_row (λ number. true) OfCall (call_number w) refl unhandled_row (λ same. tt) rows each refl))
