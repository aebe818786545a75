-- The first half of a death: the servers of the process close, and what its threads have queued at others is taken out. What is matched
-- of the body stays, with the senders of the closed servers answered.
use Rattle.std.proofs.Common.{[], ◌≡◌, ◌≢◌, ℕ, ◌+◌, ◌<◌, Bool, true, false, List, ◌∷◌, filter, get_or, Option, Some, None, refl, sym, ap, ◌∙◌, arith, subst}
use Rattle.std.specs.Prelude.{◌==◌, ◌&&◌, ◌||◌, if◌then◌else◌, is_some, not}
use Rattle.std.specs.List.{All, list_any}
use Rattle.std.specs.Option.{option_map}
use Rattle.std.proofs.lemmas.Bool.{and_parts, eqb-true}
use Rattle.std.proofs.lemmas.Option.{none-some}
use Rattle.xk_base.specs.declared.errors.XousError.TheVariants.{ServerNotFound}
use Rattle.xk_base.specs.declared.ids.Number.{Number}
use Rattle.xk_base.specs.declared.ids.Pid.{Pid}
use Rattle.xk_base.specs.declared.ids.Serial.{Serial}
use Rattle.xk_base.specs.declared.ids.ThreadId.{ThreadId}
use Rattle.xk_base.specs.declared.messages.Message.{Message}
use Rattle.syscall_codec.specs.ReplyWords.{refused_words}
use Rattle.machine_model.specs.Ending.Closing.{is_message_at, is_queued_from, is_sender_at, refused_server, without_queued_from}
use Rattle.machine_model.specs.Messaging.LoanSets.{end_loans}
use Rattle.machine_model.specs.Messaging.MessageCounts.{count_at, count_in}
use Rattle.machine_model.specs.Messaging.Messages.{is_of_number, is_sent_from}
use Rattle.machine_model.specs.Runs.Matched.{IsServerAwaited, Matched, waits_for}
use Rattle.machine_model.specs.State.Machine.{Machine, Server, Thread, Receiving}
use Rattle.machine_model.specs.State.Servers.{is_server_of, messages_of}
use Rattle.machine_model.specs.State.Threads.{Answers}
use Rattle.machine_model.proofs.Messaging.LoanSetLemmas.{both_end, either}
use Rattle.machine_model.proofs.Matching.CountLemmas.{all_left, count_in-append}
use Rattle.machine_model.proofs.Matching.LoanSetStepLemmas.{AreBelow}
use Rattle.machine_laws.proofs.Dying.StoppedThreadLemmas.{other_answer, own_receives, own_waits, stopped_or}
use Rattle.machine_laws.proofs.Messaging.AnsweredThreadLemmas.{answered}
use Rattle.machine_laws.proofs.Messaging.AnyServerLemmas.{held_not_queued, held_only_here, no_server, none_listed, one_listed, only_server, queued_apart, queued_only_here}
use Rattle.machine_laws.proofs.Messaging.ClosedServerLemmas.{closed_below, emptied, not_closed, receiver_is_no_sender, sender_where_closed}
use Rattle.machine_laws.proofs.Messaging.FilterLemmas.{filter_alike}
use Rattle.machine_laws.proofs.Messaging.ListedLemmas.{PassingServer, listed_at, listed_left, passing_server}
use Rattle.machine_laws.proofs.Messaging.WaitedForLemmas.{waited_not_from}
use Rattle.machine_laws.proofs.Messaging.RemovalLemmas.{IsRemoval, left, removed_above, removed_body, servers_left}

-- nothing of a server's messages passes, and so nothing of its queue
queue_counts_none : (test : Message → Bool) (server : Server) → count_in test (messages_of server) ≡ 0 → count_in test server.queued ≡ 0
queue_counts_none test server e =
    let sum : count_in test (messages_of server) ≡ count_in test server.queued + count_in test server.held = count_in-append test server.queued server.held in
    omega arith

or_false : (b : Bool) → (b || false) ≡ b
or_false true = refl
or_false false = refl

some_if : (b : Bool) → is_some {T = List ℕ} (if b then Some (refused_words ServerNotFound) else None) ≡ b
some_if true = refl
some_if false = refl

module _ (m : Machine) (h : Matched m) (pid : Pid) where
  abbrev pub own : ℕ → Bool
  own k = is_server_of pid (m.servers k)

  abbrev pub closed_numbers : Number → Bool
  closed_numbers = is_message_at own m

  -- the machine once its servers closed
  abbrev pub closed_machine : Machine
  closed_machine = record m {
    ledger = end_loans closed_numbers m.ledger;
    servers = λ n. if own n then None else m.servers n;
  }

  abbrev pub queued_numbers : Number → Bool
  queued_numbers = is_queued_from pid closed_machine

  abbrev pub gone : Number → Bool
  gone = either closed_numbers queued_numbers

  -- who is answered; of the process itself, who waits for what goes
  abbrev pub refused : Answers
  refused = refused_server (is_sender_at own m)

  abbrev pub first_answers : Answers
  first_answers = stopped_or pid gone own m.threads refused

  low_serial : (k : ℕ) (server : Server) → m.servers k ≡ Some server → k < m.next_serial
  low_serial = h.rest.above.serials

  still_open : (k : ℕ) (server : Server) → closed_machine.servers k ≡ Some server → (own k ≡ false) × (m.servers k ≡ Some server)
  still_open k server e = go (own k) refl e
    where
      go : (b : Bool) → own k ≡ b → (if b then None else m.servers k) ≡ Some server → (own k ≡ false) × (m.servers k ≡ Some server)
      go true q r = absurd (none-some server r)
      go false q r = (q, r)

  open_there : (k : ℕ) (server : Server) → own k ≡ false → m.servers k ≡ Some server → closed_machine.servers k ≡ Some server
  open_there k server e q = (λ i. if e i then None else q i)

  -- ---- the numbers of messages at servers that stay

  module _ (k : ℕ) (server : Server) (e : m.servers k ≡ Some server) (stays : own k ≡ false) where
    -- a number is queued from the process exactly where it is so here
    queued_here : (number : Number) → ((n : ℕ) → n ≢ k → count_at (is_of_number number) (m.servers n) ≡ 0)
        → queued_numbers number ≡ list_any (λ x. is_of_number number x && is_sent_from pid x) server.queued
    queued_here number elsewhere =
        only_server closed_machine (λ n other. list_any (λ x. is_of_number number x && is_sent_from pid x) other.queued) k server
        (open_there k server stays e) (low_serial k server e)
        (λ n other apart q.
        let there : (own n ≡ false) × (m.servers n ≡ Some other) = still_open n other q in
        none_listed number (is_sent_from pid) other.queued
        (queue_counts_none (is_of_number number) other (sym (ap (count_at (is_of_number number)) there.1) ∙ elsewhere n apart)))

    -- of the queue, those go that are sent from the process
    queued_gone : All (λ x. gone x.number ≡ is_sent_from pid x) server.queued
    queued_gone j d low =
        let elsewhere = queued_only_here m.servers h.body.servers.numbers k server e j d low in
        (λ i. not_closed m h own k server e stays (get_or server.queued j d).number elsewhere i || queued_here (get_or server.queued j d).number elsewhere i)
        ∙ one_listed (is_sent_from pid) server.queued (queued_apart m.servers h.body.servers.numbers k server e) j d low

    -- of what is held, none
    held_stays : All (λ x. gone x.number ≡ false) server.held
    held_stays j d low =
        let elsewhere = held_only_here m.servers h.body.servers.numbers k server e j d low in
        (λ i. not_closed m h own k server e stays (get_or server.held j d).number elsewhere i || queued_here (get_or server.held j d).number elsewhere i)
        ∙ none_listed (get_or server.held j d).number (is_sent_from pid) server.queued
        (held_not_queued m.servers h.body.servers.numbers k server e j d low)

    all_kept : (xs : List Message) → filter (λ x. true) xs ≡ xs
    all_kept [] = refl
    all_kept (x ∷ xs) = ap (λ ys. x ∷ ys) (all_kept xs)

    server_left : left gone server ≡ without_queued_from pid server
    server_left = λ i. record server {
      queued = filter_alike (λ x. not (gone x.number)) (λ x. not (is_sent_from pid x)) server.queued (λ j d low. ap not (queued_gone j d low)) i;
      held = (filter_alike (λ x. not (gone x.number)) (λ x. true) server.held (λ j d low. ap not (held_stays j d low)) ∙ all_kept server.held) i;
    }

  -- the servers that are left are those that the death leaves
  pub same_servers : (k : ℕ) → servers_left gone own m.servers k ≡ option_map (without_queued_from pid) (closed_machine.servers k)
  same_servers k = go (m.servers k) refl (own k) refl
    where
      go : (o : Option Server) → m.servers k ≡ o → (b : Bool) → own k ≡ b
          → (if b then None else option_map (left gone) o) ≡ option_map (without_queued_from pid) (if b then None else o)
      go o e true q = refl
      go None e false q = refl
      go (Some server) e false q = ap Some (server_left k server e q)

  -- ---- what the removal asks

  all_gone : (k : ℕ) (server : Server) → m.servers k ≡ Some server → own k ≡ true → All (λ x. gone x.number ≡ true) (messages_of server)
  all_gone k server e q j d low = ap (λ b. b || queued_numbers (get_or (messages_of server) j d).number) (emptied m h own k server e q j d low)

  -- ---- a thread of another process that waits

  module _ (id : ThreadId) (number : Number) (other : (id.pid.0 == pid.0) ≡ false) (w : waits_for m.threads id number ≡ true) where
    -- its number isn't one that a thread of the process queued
    not_queued : queued_numbers number ≡ false
    not_queued = no_server closed_machine _ (λ n server q.
        listed_left (λ z. is_of_number number z && is_sent_from pid z) server.queued server.held
        (waited_not_from m h id number w pid other n server (still_open n server q).1))

    other_waits : is_some (first_answers id) ≡ gone number
    other_waits =
        ap is_some (other_answer pid gone own m.threads refused id other) ∙ some_if (is_sender_at own m id)
        ∙ sender_where_closed m h own id number w ∙ sym (or_false (closed_numbers number))
        ∙ sym (λ i. closed_numbers number || not_queued i)

  -- ---- a thread of another process that receives

  other_receives : (id : ThreadId) (x : Thread) (serial : Serial) → (id.pid.0 == pid.0) ≡ false → m.threads id ≡ Some x
      → x.state ≡ Receiving serial → is_some (first_answers id) ≡ own serial.0
  other_receives id x serial other there s =
      let w : IsServerAwaited m.servers id.pid serial = h.body.receivers id x serial there s in
      let own_not : own serial.0 ≡ false = ap (is_server_of pid) w.live ∙ ap (λ (q : Pid). q.0 == pid.0) w.own ∙ other in
      ap is_some (other_answer pid gone own m.threads refused id other) ∙ some_if (is_sender_at own m id) ∙ receiver_is_no_sender m h own id x serial there s
      ∙ sym own_not

  -- ---- all

  is_removal : IsRemoval m.threads m.servers gone own first_answers
  is_removal = record {
    emptied = all_gone;
    waits = λ id number w. by_waits id number w (id.pid.0 == pid.0) refl;
    receives = λ id x serial there s. by_receives id x serial there s (id.pid.0 == pid.0) refl;
  }
    where
      by_waits : (id : ThreadId) (number : Number) → waits_for m.threads id number ≡ true → (b : Bool) → (id.pid.0 == pid.0) ≡ b
          → is_some (first_answers id) ≡ gone number
      by_waits id number w true e = own_waits pid gone own m.threads refused id number e w
      by_waits id number w false e = other_waits id number e w

      by_receives : (id : ThreadId) (x : Thread) (serial : Serial) → m.threads id ≡ Some x → x.state ≡ Receiving serial → (b : Bool)
          → (id.pid.0 == pid.0) ≡ b → is_some (first_answers id) ≡ own serial.0
      by_receives id x serial there s true e = own_receives pid gone own m.threads refused id x serial e there s
      by_receives id x serial there s false e = other_receives id x serial e there s

  -- the numbers that go are below the next one
  pub gone_below : AreBelow gone m.next_number
  gone_below number e = go (closed_numbers number) refl e
    where
      go : (b : Bool) → closed_numbers number ≡ b → (b || queued_numbers number) ≡ true → number.0 < m.next_number
      go true q r = closed_below m h own number q
      go false q r =
          let at : PassingServer closed_machine (λ n server. list_any (λ x. is_of_number number x && is_sent_from pid x) server.queued) =
          passing_server closed_machine _ r in
          let place = listed_at (λ x. is_of_number number x && is_sent_from pid x) at.server.queued at.passes in
          let x : Message = get_or at.server.queued place.0 place.1 in
          let parts = and_parts (is_of_number number x) (is_sent_from pid x) place.3 in
          let low : x.number.0 < m.next_number =
          all_left (λ y. y.number.0 < m.next_number) at.server.queued at.server.held
          (h.rest.above.numbers at.serial at.server (still_open at.serial at.server at.live).1) place.0 place.1 place.2 in
          let same : x.number.0 ≡ number.0 = eqb-true x.number.0 number.0 parts.0 in
          omega arith

  -- the machine once that is done, as the death does it, with those answers
  abbrev pub queued_gone_machine : Machine
  queued_gone_machine = record m {
    ledger = end_loans queued_numbers (end_loans closed_numbers m.ledger);
    threads = answered m.threads first_answers;
    servers = λ n. option_map (without_queued_from pid) (closed_machine.servers n);
  }

  pub queued_gone_matched : Matched queued_gone_machine
  queued_gone_matched =
      subst (λ l. Matched (record queued_gone_machine { ledger = l })) (sym (both_end closed_numbers queued_numbers m.ledger))
      (subst (λ s. Matched (record queued_gone_machine { ledger = end_loans gone m.ledger; servers = s })) (λ i k. same_servers k i) (record {
        body = removed_body m.processes m.capacity m.ledger m.threads m.process m.servers gone own first_answers m.next_number gone_below h.body is_removal;
        rest = record {
          handlers = h.rest.handlers;
          claims = h.rest.claims;
          above = removed_above m.processes m.capacity m.ledger m.threads m.process m.servers gone own first_answers m.next_number gone_below h.body
              is_removal m.next_number m.next_serial h.rest.above;
          stepped = h.rest.stepped;
          timer = h.rest.timer;
        };
      }))
