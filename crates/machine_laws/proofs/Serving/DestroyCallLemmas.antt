-- DestroyServer keeps the machine matched: the server closes, its senders and who receives there are answered, and so is the caller.
use Rattle.std.proofs.Common.{◌≡◌, ℕ, ◌+◌, Bool, true, false, List, Option, Some, None, refl, sym, ap, ◌∙◌, arith, subst}
use Rattle.std.specs.Prelude.{◌==◌, ◌||◌, if◌then◌else◌, is_some}
use Rattle.std.specs.Option.{option_map, option_map_or, option_or}
use Rattle.std.proofs.lemmas.Bool.{false≢true}
use Rattle.xk_base.specs.declared.errors.XousError.TheVariants.{ServerNotFound}
use Rattle.xk_base.specs.declared.ids.Number.{Number}
use Rattle.xk_base.specs.declared.ids.Serial.{Serial}
use Rattle.xk_base.specs.declared.ids.Sid.{Sid}
use Rattle.xk_base.specs.declared.ids.ThreadId.{ThreadId}
use Rattle.syscall_codec.specs.CallWords.{call_number}
use Rattle.xk_base.specs.Tables.Circle.{same_thread}
use Rattle.xk_base.specs.Tables.Counting.{put_at}
use Rattle.syscall_codec.specs.ReplyWords.{plain_words, refused_words}
use Rattle.machine_model.specs.Calling.Calls.{call}
use Rattle.machine_model.specs.Calling.ServerCalls.{destroy_call, destroy_served, named_server, named_sid, own_server_refusals}
use Rattle.machine_model.specs.Ending.Closing.{closed, destroyed, is_message_at, is_sender_at, refused_server}
use Rattle.machine_model.specs.Messaging.LoanSets.{end_loans}
use Rattle.machine_model.specs.Messaging.Receivers.{is_receiving, receiving_at}
use Rattle.machine_model.specs.Runs.Matched.{Matched, is_waiting_for, waits_for}
use Rattle.machine_model.specs.State.Changes.{Served, call_settled, settled}
use Rattle.machine_model.specs.State.Machine.{Machine, Thread, ThreadState, Ready, Receiving, Waiting, Joining, Idle}
use Rattle.machine_model.specs.State.Order.{is_ready, ready_at}
use Rattle.machine_model.specs.State.Threads.{Answers, answer_to, both_answers, passed, with_answer}
use Rattle.machine_laws.proofs.Calling.AnsweredCallLemmas.{Keeps}
use Rattle.machine_laws.proofs.Calling.ThreadCallLemmas.{call_keeps, unless_refused_keeps}
use Rattle.machine_laws.proofs.Messaging.AnsweredThreadLemmas.{answered}
use Rattle.machine_laws.proofs.Messaging.ClosedServerLemmas.{closed_below, emptied, no_sender, receiver_is_no_sender, same_servers, sender_where_closed}
use Rattle.machine_laws.proofs.Messaging.RemovalLemmas.{IsRemoval, removed_above, removed_body}
use Rattle.machine_laws.proofs.Threading.ThreadAnswerLemmas.{IsReadyThread, answered_matched, ready_thread}
use Rattle.machine_laws.proofs.Threading.ThreadMoveLemmas.{matched_later}

abbrev if_refused : Bool → Option (List ℕ)
if_refused b = if b then Some (refused_words ServerNotFound) else None

either_some : (a b : Bool) → is_some (option_or (if_refused a) (if_refused b)) ≡ (a || b)
either_some true b = refl
either_some false true = refl
either_some false false = refl

-- a thread that waits for an answer doesn't receive
waiting_not_receiving : (serial : Serial) (number : Number) (s : ThreadState) → is_waiting_for number s ≡ true → is_receiving serial s ≡ false
waiting_not_receiving serial number Ready e = absurd (false≢true e)
waiting_not_receiving serial number (Receiving other) e = absurd (false≢true e)
waiting_not_receiving serial number (Waiting other) e = refl
waiting_not_receiving serial number (Joining tid) e = absurd (false≢true e)
waiting_not_receiving serial number Idle e = absurd (false≢true e)

module _ (m : Machine) (h : Matched m) (serial : Serial) where
  abbrev which : ℕ → Bool
  which n = n == serial.0

  abbrev answers : Answers
  answers = both_answers (refused_server (is_sender_at which m)) (refused_server (receiving_at m serial))

  some_answer : (id : ThreadId) → is_some (answers id) ≡ (is_sender_at which m id || receiving_at m serial id)
  some_answer id = either_some (is_sender_at which m id) (receiving_at m serial id)

  is_removal : IsRemoval m.threads m.servers (is_message_at which m) which answers
  is_removal = record {
    emptied = emptied m h which;
    waits = λ id number w.
        some_answer id ∙ (λ i. sender_where_closed m h which id number w i || not_receiving id number w i)
        ∙ or_false (is_message_at which m number);
    receives = λ id x other there s.
        some_answer id ∙ (λ i. receiver_is_no_sender m h which id x other there s i || receiving_at m serial id)
        ∙ ap (λ o. option_map_or (λ (t : Thread). is_receiving serial t.state) o false) there ∙ ap (is_receiving serial) s;
  }
    where
      or_false : (b : Bool) → (b || false) ≡ b
      or_false true = refl
      or_false false = refl

      not_receiving : (id : ThreadId) (number : Number) → waits_for m.threads id number ≡ true → receiving_at m serial id ≡ false
      not_receiving id number w = go (m.threads id) w
        where
          go : (o : Option Thread) → option_map_or (λ t. is_waiting_for number t.state) o false ≡ true
              → option_map_or (λ t. is_receiving serial t.state) o false ≡ false
          go None e = refl
          go (Some t) e = waiting_not_receiving serial number t.state e

  -- the machine once the server closed, with those answers
  abbrev left : Machine
  left = record m {
    ledger = end_loans (is_message_at which m) m.ledger;
    threads = answered m.threads answers;
    servers = λ n. if which n then None else m.servers n;
  }

  left_matched : Matched left
  left_matched =
      subst (λ s. Matched (record left { servers = s })) (λ i k. same_servers m h which k i) (record {
        body = removed_body m.processes m.capacity m.ledger m.threads m.process m.servers (is_message_at which m) which answers m.next_number
            (closed_below m h which) h.body is_removal;
        rest = record {
          handlers = h.rest.handlers;
          claims = h.rest.claims;
          above = removed_above m.processes m.capacity m.ledger m.threads m.process m.servers (is_message_at which m) which answers m.next_number
              (closed_below m h which) h.body is_removal m.next_number m.next_serial h.rest.above;
          stepped = h.rest.stepped;
          timer = h.rest.timer;
        };
      })

  module _ (ready : ready_at m m.cursor ≡ true) where
    caller : IsReadyThread m m.cursor
    caller = ready_thread m m.cursor ready

    -- the caller isn't answered by the close, since it waits for nothing
    caller_unanswered : answers m.cursor ≡ None
    caller_unanswered = λ i. option_or
        (if no_sender m h which m.cursor (λ number. ap (λ o. option_map_or (λ (t : Thread). is_waiting_for number t.state) o false) caller.there
        ∙ ap (is_waiting_for number) caller.ready) i then Some (refused_words ServerNotFound) else None)
        (if (ap (λ o. option_map_or (λ (t : Thread). is_receiving serial t.state) o false) caller.there ∙ ap (is_receiving serial) caller.ready) i
        then Some (refused_words ServerNotFound) else None)

    no_answer : (o : Option Thread) → option_map (with_answer None) o ≡ o
    no_answer None = refl
    no_answer (Some t) = refl

    still_ready : ready_at left m.cursor ≡ true
    still_ready = (λ i. ready_of (option_map (with_answer (caller_unanswered i)) (m.threads m.cursor))) ∙ ap ready_of (no_answer (m.threads m.cursor)) ∙ ready
      where
        ready_of : Option Thread → Bool
        ready_of o = option_map_or (λ t. is_ready t.state) o false

    -- all answers at once are those of the close, and then the caller's
    thread_same : (id : ThreadId) (b : Bool) → same_thread id m.cursor ≡ b
        → option_map (with_answer (option_or (if b then Some plain_words else None) (answers id)))
        (if b then option_map passed (m.threads m.cursor) else m.threads id)
        ≡ option_map (with_answer (if b then Some plain_words else None))
        (if b then option_map passed (answered m.threads answers m.cursor) else answered m.threads answers id)
    thread_same id true e =
        sym (λ i. option_map (with_answer (Some plain_words)) (option_map passed (unanswered i)))
      where
        unanswered : answered m.threads answers m.cursor ≡ m.threads m.cursor
        unanswered = (λ i. option_map (with_answer (caller_unanswered i)) (m.threads m.cursor)) ∙ no_answer (m.threads m.cursor)
    thread_same id false e = sym (no_answer (answered m.threads answers id))

    abbrev counted_left : Machine
    counted_left = record left { steps = m.steps + 1 }

    destroyed_at : Matched (record m {
      ledger = end_loans (is_message_at which m) m.ledger;
      threads = λ id. option_map (with_answer (both_answers (answer_to m.cursor plain_words) answers id))
          (put_at same_thread m.threads m.cursor (option_map passed (m.threads m.cursor)) id);
      servers = λ n. if which n then None else m.servers n;
      steps = m.steps + 1;
    })
    destroyed_at =
        subst (λ t. Matched (record counted_left { threads = t })) (λ i id. sym (thread_same id (same_thread id m.cursor) refl) i)
        (answered_matched m.cursor plain_words counted_left (matched_later left left_matched (m.steps + 1) (omega arith)) still_ready)

-- the end of a server by a call of the thread that is answered that it was served
pub destroyed_keeps : (m : Machine) → Matched m → ready_at m m.cursor ≡ true → (serial : Serial)
    → Keeps m (Served (record (destroyed serial m) { answers = both_answers (answer_to m.cursor plain_words) (destroyed serial m).answers }))
unfolding call_settled settled destroyed closed
destroyed_keeps m h ready serial = destroyed_at m h serial ready

module _ (m : Machine) (h : Matched m) (ready : ready_at m m.cursor ≡ true) (w : List ℕ) where
  served_keeps : (sid : Sid) → Keeps m (Served (destroy_served m sid))
  served_keeps sid = destroyed_keeps m h ready (named_server m sid)

  destroy_keeps : Keeps m (destroy_call m w)
  unfolding destroy_call
  destroy_keeps = unless_refused_keeps m h (own_server_refusals m (named_sid w)) (Served (destroy_served m (named_sid w))) (λ none. served_keeps (named_sid w))

  pub destroy_number_keeps : call_number w ≡ 41 → Keeps m (call m w)
  destroy_number_keeps e = call_keeps m h ready w 41 e (λ none. destroy_keeps)
