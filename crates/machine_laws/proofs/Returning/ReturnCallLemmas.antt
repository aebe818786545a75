-- ReturnMemory, ReturnScalar1 and ReturnScalar2 keep the machine matched: a held message is taken out, its loan ends, its sender is
-- answered, and so is the caller.
use Rattle.std.proofs.Common.{◌≡◌, ◌≢◌, ℕ, ◌+◌, ◌<◌, Bool, true, false, inl, inr, List, filter, get_or, length, Option, Some, None, refl, sym, ap, ◌∙◌, arith, subst}
use Rattle.std.specs.Prelude.{◌&&◌, ◌||◌, if◌then◌else◌, is_some, nat_eq, not}
use Rattle.std.specs.List.{list_any}
use Rattle.std.specs.Option.{option_map, option_map_or, option_or}
use Rattle.std.proofs.lemmas.Bool.{eq-eqb, eqb-true, false≢true}
use Rattle.std.proofs.lemmas.List.Folds.{list_any-append}
use Rattle.std.proofs.lemmas.Option.{same_Some}
use Rattle.xk_base.specs.declared.ids.Number.{Number}
use Rattle.xk_base.specs.declared.ids.ThreadId.{ThreadId}
use Rattle.xk_base.specs.declared.messages.Message.{Message}
use Rattle.xk_base.specs.Tables.Circle.{same_thread}
use Rattle.xk_base.specs.Tables.Counting.{put_at}
use Rattle.syscall_codec.specs.ReplyWords.{plain_words}
use Rattle.ledger_model.specs.Loans.{same_number}
use Rattle.machine_model.specs.Messaging.LoanSets.{end_loans}
use Rattle.machine_model.specs.Messaging.MessageCounts.{count_at, count_in}
use Rattle.machine_model.specs.Messaging.Messages.{is_of_number, is_sent_by, without_held}
use Rattle.machine_model.specs.Messaging.ReturnCalls.{sender_gets}
use Rattle.machine_model.specs.Runs.Matched.{Matched, is_waiting_for, waits_for}
use Rattle.machine_model.specs.State.Machine.{Machine, Server, Thread}
use Rattle.machine_model.specs.State.Servers.{messages_of}
use Rattle.machine_model.specs.State.Order.{is_ready, ready_at}
use Rattle.machine_model.specs.State.Threads.{Answers, answer_to, both_answers, passed, with_answer}
use Rattle.machine_laws.proofs.Threading.ThreadAnswerLemmas.{IsReadyThread, answered_matched, ready_thread}
use Rattle.machine_laws.proofs.Threading.ThreadMoveLemmas.{matched_later}
use Rattle.machine_model.proofs.Matching.CountLemmas.{all_right, count_in-append, none_pass}
use Rattle.machine_model.proofs.Matching.LoanSetStepLemmas.{AreBelow}
use Rattle.machine_model.proofs.Matching.MatchedLemmas.{senders_wait}
use Rattle.machine_model.proofs.Matching.OneMessageLemmas.{same_or_not}
use Rattle.machine_laws.proofs.Messaging.AnsweredThreadLemmas.{answered}
use Rattle.machine_laws.proofs.Messaging.AnyServerLemmas.{held_apart, held_not_queued, held_only_here, none_listed, one_listed}
use Rattle.machine_laws.proofs.Messaging.ClosedServerLemmas.{all_kept}
use Rattle.machine_laws.proofs.Messaging.FilterLemmas.{filter_alike}
use Rattle.machine_laws.proofs.Messaging.ListedLemmas.{at_listed}
use Rattle.machine_laws.proofs.Messaging.RemovalLemmas.{IsRemoval, left, removed_above, removed_body, servers_left}
use Rattle.machine_laws.proofs.Messaging.WaitedForLemmas.{WaitedFor, waited_for, waits_for_one}
use Rattle.machine_laws.proofs.Threading.ThreadPutLemmas.{alike}

none_or : (o : Option (List ℕ)) → is_some o ≡ false → o ≡ None
none_or None e = refl
none_or (Some x) e = absurd (false≢true (sym e))

module _ (m : Machine) (h : Matched m) (k : ℕ) (server : Server) (e : m.servers k ≡ Some server) (j : ℕ) (d : Message) (low : j < length server.held)
    (words : List ℕ) where
  abbrev x : Message
  x = get_or server.held j d

  abbrev gone : Number → Bool
  gone n = same_number n x.number

  abbrev none : ℕ → Bool
  none n = false

  abbrev answers : Answers
  answers = sender_gets words x.sender

  -- ---- the message is the only one of its number

  pub unique : (Q : Message → Bool) (n : ℕ) (other : Server) → m.servers n ≡ Some other
      → list_any (λ z. is_of_number x.number z && Q z) (messages_of other) ≡ true → Q x ≡ true
  unique Q n other f t = elim (same_or_not n k) [
    | inl same ↦
        let is : other ≡ server = same_Some other server (sym f ∙ ap m.servers same ∙ e) in
        here (subst (λ (y : Server). list_any (λ z. is_of_number x.number z && Q z) (messages_of y) ≡ true) is t)
    | inr apart ↦ absurd (false≢true (sym (none_listed x.number Q (messages_of other)
        (sym (ap (count_at (is_of_number x.number)) f) ∙ held_only_here m.servers h.body.servers.numbers k server e j d low n apart)) ∙ t))
  ]
    where
      here : list_any (λ z. is_of_number x.number z && Q z) (messages_of server) ≡ true → Q x ≡ true
      here t =
          sym (one_listed Q server.held (held_apart m.servers h.body.servers.numbers k server e) j d low)
          ∙ sym (ap (λ b. b || list_any (λ z. is_of_number x.number z && Q z) server.held)
          (none_listed x.number Q server.queued (held_not_queued m.servers h.body.servers.numbers k server e j d low)))
          ∙ sym (list_any-append (λ z. is_of_number x.number z && Q z) server.queued server.held) ∙ t

  -- ---- its sender

  -- who is answered waits for it
  answered_waits : (id : ThreadId) → is_some (answers id) ≡ true → waits_for m.threads id x.number ≡ true
  answered_waits id q = go x.sender refl q
    where
      go : (o : Option ThreadId) → x.sender ≡ o → is_some (sender_gets words o id) ≡ true → waits_for m.threads id x.number ≡ true
      go None r s = absurd (false≢true s)
      go (Some who) r s = by_same (same_thread id who) refl s
        where
          by_same : (b : Bool) → same_thread id who ≡ b → is_some {T = List ℕ} (if b then Some words else None) ≡ true
              → waits_for m.threads id x.number ≡ true
          by_same false p t = absurd (false≢true t)
          by_same true p t =
              subst (λ w. waits_for m.threads w x.number ≡ true) (sym (alike id who p))
              (all_right (λ y. (w : ThreadId) → y.sender ≡ Some w → waits_for m.threads w y.number ≡ true) server.queued server.held
              (senders_wait m h k server e) j d low who r)

  -- who waits for it is answered
  waiting_answered : (id : ThreadId) → waits_for m.threads id x.number ≡ true → is_some (answers id) ≡ true
  waiting_answered id w = go x.sender sender
    where
      at : WaitedFor m id x.number
      at = waited_for m h id x.number w

      sender : is_sent_by id x ≡ true
      sender = unique (is_sent_by id) at.serial at.server at.live
          (at_listed (λ z. is_of_number x.number z && is_sent_by id z) (messages_of at.server) at.place at.spare at.within
          ((λ i. numbered i && is_sent_by id (get_or (messages_of at.server) at.place at.spare)) ∙ at.by))
        where
          numbered : is_of_number x.number (get_or (messages_of at.server) at.place at.spare) ≡ true
          numbered =
              eq-eqb (get_or (messages_of at.server) at.place at.spare).number.0 x.number.0 (ap (λ (q : Number). q.0) at.same)

      go : (o : Option ThreadId) → option_map_or (same_thread id) o false ≡ true → is_some (sender_gets words o id) ≡ true
      go None q = absurd (false≢true q)
      go (Some who) q = ap (λ b. is_some {T = List ℕ} (if b then Some words else None)) q

  never_waits : (id : ThreadId) → waits_for m.threads id x.number ≡ false → answers id ≡ None
  never_waits id w = go (is_some (answers id)) refl
    where
      go : (b : Bool) → is_some (answers id) ≡ b → answers id ≡ None
      go false q = none_or (answers id) q
      go true q = absurd (false≢true (sym w ∙ answered_waits id q))

  -- ---- what the removal asks

  is_removal : IsRemoval m.threads m.servers gone none answers
  is_removal = record {
    emptied = λ n other f q. absurd (false≢true q);
    waits = by_waits;
    receives = λ id y serial there s. ap is_some (never_waits id
        (ap (λ o. option_map_or (λ (t : Thread). is_waiting_for x.number t.state) o false) there ∙ ap (is_waiting_for x.number) s));
  }
    where
      by_waits : (id : ThreadId) (n : Number) → waits_for m.threads id n ≡ true → is_some (answers id) ≡ same_number n x.number
      by_waits id n w = go (same_number n x.number) refl
        where
          go : (b : Bool) → same_number n x.number ≡ b → is_some (answers id) ≡ b
          go true q =
              let same : n.0 ≡ x.number.0 = eqb-true n.0 x.number.0 q in
              waiting_answered id (subst (λ (y : Number). waits_for m.threads id y ≡ true) (λ i. record { 0 = same i }) w)
          go false q = by_answer (is_some (answers id)) refl
            where
              by_answer : (c : Bool) → is_some (answers id) ≡ c → c ≡ false
              by_answer false r = refl
              by_answer true r =
                  let same : n.0 ≡ x.number.0 = waits_for_one m id x.number (answered_waits id r) n w in
                  absurd (false≢true (sym q ∙ eq-eqb n.0 x.number.0 same))

  gone_below : AreBelow gone m.next_number
  gone_below n q =
      let same : n.0 ≡ x.number.0 = eqb-true n.0 x.number.0 q in
      let high : x.number.0 < m.next_number =
      all_right (λ y. y.number.0 < m.next_number) server.queued server.held (h.rest.above.numbers k server e) j d low in
      omega arith

  -- ---- servers

  kept : (xs : List Message) → count_in (is_of_number x.number) xs ≡ 0 → filter (λ y. not (gone y.number)) xs ≡ xs
  kept xs q = filter_alike (λ y. not (gone y.number)) (λ y. true) xs (λ i c l. ap not (none_pass (is_of_number x.number) xs q i c l)) ∙ all_kept xs

  same_servers : (n : ℕ) → servers_left gone none m.servers n ≡ put_at nat_eq m.servers k (option_map (without_held x.number) (m.servers k)) n
  same_servers n = go (nat_eq n k) refl
    where
      here : option_map (left gone) (m.servers k) ≡ option_map (without_held x.number) (m.servers k)
      here =
          ap (option_map (left gone)) e
          ∙ (λ i. Some (record server {
            queued = kept server.queued (held_not_queued m.servers h.body.servers.numbers k server e j d low) i;
            held = filter (λ y. not (gone y.number)) server.held;
          }))
          ∙ sym (ap (option_map (without_held x.number)) e)

      other : (o : Option Server) → m.servers n ≡ o → n ≢ k → option_map (left gone) o ≡ o
      other None f apart = refl
      other (Some y) f apart =
          let none_here : count_in (is_of_number x.number) (messages_of y) ≡ 0 =
          sym (ap (count_at (is_of_number x.number)) f) ∙ held_only_here m.servers h.body.servers.numbers k server e j d low n apart in
          let sum : count_in (is_of_number x.number) (messages_of y) ≡ count_in (is_of_number x.number) y.queued + count_in (is_of_number x.number) y.held =
          count_in-append (is_of_number x.number) y.queued y.held in
          λ i. Some (record y { queued = kept y.queued (omega arith) i; held = kept y.held (omega arith) i })

      go : (b : Bool) → nat_eq n k ≡ b
          → option_map (left gone) (m.servers n) ≡ (if b then option_map (without_held x.number) (m.servers k) else m.servers n)
      go true q = ap (λ i. option_map (left gone) (m.servers i)) (eqb-true n k q) ∙ here
      go false q = other (m.servers n) refl (λ same. false≢true (sym q ∙ eq-eqb n k same))

  -- the machine without the message, its sender answered
  abbrev given : Machine
  given = record m {
    ledger = end_loans gone m.ledger;
    threads = answered m.threads answers;
    servers = put_at nat_eq m.servers k (option_map (without_held x.number) (m.servers k));
  }

  pub given_matched : Matched given
  given_matched =
      subst (λ s. Matched (record given { servers = s })) (λ i n. same_servers n i) (record {
        body = removed_body m.processes m.capacity m.ledger m.threads m.process m.servers gone none answers m.next_number gone_below h.body is_removal;
        rest = record {
          handlers = h.rest.handlers;
          claims = h.rest.claims;
          above = removed_above m.processes m.capacity m.ledger m.threads m.process m.servers gone none answers m.next_number gone_below h.body
              is_removal m.next_number m.next_serial h.rest.above;
          stepped = h.rest.stepped;
          timer = h.rest.timer;
        };
      })

  -- ---- the caller is answered too

  module _ (ready : ready_at m m.cursor ≡ true) where
    caller : IsReadyThread m m.cursor
    caller = ready_thread m m.cursor ready

    -- the caller waits for nothing, so that it isn't the sender
    caller_unanswered : answers m.cursor ≡ None
    caller_unanswered = never_waits m.cursor
        (ap (λ o. option_map_or (λ (t : Thread). is_waiting_for x.number t.state) o false) caller.there ∙ ap (is_waiting_for x.number) caller.ready)

    no_answer : (o : Option Thread) → option_map (with_answer None) o ≡ o
    no_answer None = refl
    no_answer (Some t) = refl

    still : answered m.threads answers m.cursor ≡ m.threads m.cursor
    still = (λ i. option_map (with_answer (caller_unanswered i)) (m.threads m.cursor)) ∙ no_answer (m.threads m.cursor)

    thread_same : (id : ThreadId) (b : Bool) → same_thread id m.cursor ≡ b
        → option_map (with_answer (option_or (if b then Some plain_words else None) (answers id)))
        (if b then option_map passed (m.threads m.cursor) else m.threads id)
        ≡ option_map (with_answer (if b then Some plain_words else None))
        (if b then option_map passed (answered m.threads answers m.cursor) else answered m.threads answers id)
    thread_same id true q = sym (λ i. option_map (with_answer (Some plain_words)) (option_map passed (still i)))
    thread_same id false q = sym (no_answer (answered m.threads answers id))

    abbrev given_counted : Machine
    given_counted = record given { steps = m.steps + 1 }

    pub given_settles : Matched (record m {
      ledger = end_loans gone m.ledger;
      threads = λ id. option_map (with_answer (both_answers (answer_to m.cursor plain_words) answers id))
          (put_at same_thread m.threads m.cursor (option_map passed (m.threads m.cursor)) id);
      servers = put_at nat_eq m.servers k (option_map (without_held x.number) (m.servers k));
      steps = m.steps + 1;
    })
    given_settles =
        subst (λ t. Matched (record given_counted { threads = t })) (λ i id. sym (thread_same id (same_thread id m.cursor) refl) i)
        (answered_matched m.cursor plain_words given_counted (matched_later given given_matched (m.steps + 1) (omega arith))
        ((λ i. option_map_or (λ t. is_ready t.state) (still i) false) ∙ ready))
