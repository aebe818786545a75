-- A held message is passed on to another server, queued or received there: its loan passes on with it, and who receives it is
-- answered. The machine stays matched.
use Rattle.std.proofs.Common.{◌≡◌, ◌≢◌, ℕ, ◌+◌, ◌<◌, ◌≤◌, Bool, true, false, List, [], ◌++◌, filter, get_or, length, Option, Some, None, refl, sym, ap, ◌∙◌, arith, subst}
use Rattle.std.specs.Prelude.{◌==◌, if◌then◌else◌, find, is_some, nat_eq}
use Rattle.std.specs.List.{All}
use Rattle.std.specs.Option.{option_map_or}
use Rattle.std.proofs.lemmas.Bool.{eq-eqb, false≢true}
use Rattle.std.proofs.lemmas.List.Elements.{All-filter}
use Rattle.std.proofs.lemmas.Option.{same_Some}
use Rattle.xk_base.specs.declared.ids.Number.{Number}
use Rattle.xk_base.specs.declared.ids.Place.{Place}
use Rattle.xk_base.specs.declared.ids.Serial.{Serial}
use Rattle.xk_base.specs.declared.ids.ThreadId.{ThreadId}
use Rattle.xk_base.specs.declared.ids.Vpn.{Vpn}
use Rattle.xk_base.specs.declared.limits.TheConstants.{MESSAGE_LIMIT}
use Rattle.xk_base.specs.declared.messages.Message.{Message}
use Rattle.xk_base.specs.declared.messages.MsgKind.{MsgKind}
use Rattle.xk_base.specs.declared.messages.MsgKind.TheVariants.{LendMut, Lend, Move, Scalar, BlockingScalar}
use Rattle.xk_base.specs.declared.pages.LoanKind.{LoanKind}
use Rattle.xk_base.specs.declared.windows.Window.TheVariants.{Message as MessageWindow}
use Rattle.xk_base.specs.Tables.Counting.{put_at}
use Rattle.ledger_model.specs.Conditions.{CanPass}
use Rattle.ledger_model.specs.Loans.{LoanRun, Stands, loans}
use Rattle.ledger_model.specs.Places.{in_run, is_place_in}
use Rattle.ledger_model.specs.Reach.{is_free}
use Rattle.ledger_model.specs.Steps.{pass}
use Rattle.machine_model.specs.Messaging.ForwardCalls.{with_first}
use Rattle.machine_model.specs.Messaging.MessageCounts.{HasIf, count_at, count_in}
use Rattle.xk_base.specs.Calls.Kinds.{is_answered}
use Rattle.machine_model.specs.Messaging.Messages.{carries_pages, is_lend, is_lend_of, is_of_number, loan_kind}
use Rattle.machine_model.specs.Runs.Matched.{AreLoansMatched, AreNextAbove, AreReceiversMatched, AreSendersMatched, AreServersMatched, IsHoldable, IsLendMatched, IsMessageLent, IsOnLoan, IsQueueable, IsSized, Matched, is_living, is_sent_as, is_waiting_for, lend_run, waits_for}
use Rattle.machine_model.specs.State.Machine.{Machine, Server, Thread, Receiving}
use Rattle.machine_model.specs.State.Servers.{messages_of, slots_used}
use Rattle.machine_model.specs.State.Threads.{Answers}
use Rattle.machine_model.proofs.Matching.CountLemmas.{HasMore, count_in-append, less_all, more_all, more_count, more_here, none_pass, one_if}
use Rattle.machine_laws.proofs.Messaging.AnsweredThreadLemmas.{answered, answered_ids, answered_joiners, answered_threads, waits_now, was_in}
use Rattle.machine_laws.proofs.Messaging.AnyServerLemmas.{messages_apart, only_at}
use Rattle.machine_laws.proofs.Messaging.FilterLemmas.{filter_shorter}
use Rattle.machine_laws.proofs.Forwarding.ForwardedLedgerLemmas.{heaps_passed, ledger_passed, lent_still, loan_before, orphan_before, passed_ledger, run_passed}
use Rattle.machine_laws.proofs.Forwarding.ForwardedListLemmas.{Passage, after_more, between, if_passes, most_between, most_passes, of_servers, one_passes, others_of, still_there, taken_out}
use Rattle.machine_laws.proofs.Messaging.OneServerLemmas.{awaited, lent_there, servers_changed}

pub lend_carries : (kind : MsgKind) → is_lend kind ≡ true → (carries_pages kind ≡ true) × (is_answered kind ≡ true)
lend_carries LendMut e = (refl, refl)
lend_carries Lend e = (refl, refl)
lend_carries Move e = absurd (false≢true e)
lend_carries Scalar e = absurd (false≢true e)
lend_carries BlockingScalar e = absurd (false≢true e)

-- What is passed on, and where: server `a` holds the lend `x`, which has a sender, and server `b` of a living process gets it, with its
-- pages at free places of the Message window from `first` on. `queued` and `held` are the lists of `b` afterwards.
pub record IsPassed (m : Machine) (k : ℕ) (a : Server) (x : Message) (j : ℕ) (b : Server) (first : Vpn) (queued held : List Message)
    (answers : Answers) : Type 0 where
  pub from : m.servers k ≡ Some a
  pub test : Message → Bool
  pub found : find test a.held ≡ Some x
  pub lend : is_lend x.kind ≡ true
  pub sender : ThreadId
  pub sent : x.sender ≡ Some sender
  pub to : m.servers j ≡ Some b
  pub apart : j ≢ k
  pub free : (p : Place) → in_run (record { pid = b.pid; vpn = first }) x.count p ≡ true → is_free m.processes m.ledger p ≡ true
  pub lies : (p : Place) → in_run (record { pid = b.pid; vpn = first }) x.count p ≡ true → is_place_in m.processes MessageWindow p ≡ true
  pub more : HasMore (messages_of b) (queued ++ held) (with_first first x)
  pub queueable : All IsQueueable queued
  pub holdable : All IsHoldable held
  pub slots : length queued + length held ≤ MESSAGE_LIMIT
  -- who is answered is Receiving there; and where one is Receiving and isn't answered, the queue stays empty
  pub receives : (id : ThreadId) → is_some (answers id) ≡ true → (u : Thread) × (at : Serial) × (m.threads id ≡ Some u) × (u.state ≡ Receiving at)
  pub still : (id : ThreadId) (u : Thread) (serial : Serial) → m.threads id ≡ Some u → u.state ≡ Receiving serial → serial.0 ≡ j
      → answers id ≡ None → b.queued ≡ [] → queued ≡ []

module _ (m : Machine) (h : Matched m) (k : ℕ) (a : Server) (x : Message) (j : ℕ) (b : Server) (first : Vpn) (queued held : List Message)
    (answers : Answers) (is : IsPassed m k a x j b first queued held answers) where
  abbrev y : Message
  y = with_first first x

  abbrev rest_held : List Message
  rest_held = filter (others_of x) a.held

  -- ---- the lists

  apart_in : count_in (is_of_number x.number) a.queued + count_in (is_of_number x.number) a.held ≤ 1
  apart_in =
      let one : count_in (is_of_number x.number) (messages_of a) ≤ 1 = messages_apart m.servers h.body.servers.numbers k a is.from x.number in
      let sum : count_in (is_of_number x.number) (messages_of a) ≡ count_in (is_of_number x.number) a.queued + count_in (is_of_number x.number) a.held =
      count_in-append (is_of_number x.number) a.queued a.held in
      omega arith

  held_less : HasMore rest_held a.held x
  held_less = taken_out is.test a.held x is.found (let both : count_in (is_of_number x.number) a.queued + count_in (is_of_number x.number) a.held ≤ 1 = apart_in in omega arith)

  way : Passage m.servers k a j b x y rest_held queued held
  way = record {
    from = is.from;
    to = is.to;
    apart = is.apart;
    less = after_more a.queued rest_held a.held x held_less;
    more = is.more;
  }

  abbrev a_left : Server
  a_left = record a { held = rest_held }

  abbrev b_left : Server
  b_left = record b { queued = queued; held = held }

  abbrev pub forwarded_servers : ℕ → Option Server
  forwarded_servers = put_at nat_eq (put_at nat_eq m.servers k (Some a_left)) j (Some b_left)

  -- the message is the only one of its number
  mine : one_if (is_of_number x.number x) ≡ 1
  mine = ap one_if (eq-self x.number.0)
    where
      eq-self : (n : ℕ) → (n == n) ≡ true
      eq-self n = eq-eqb n n refl

  some_here : 1 ≤ count_at (is_of_number x.number) (m.servers k)
  some_here =
      let all : count_in (is_of_number x.number) (messages_of a)
      ≡ one_if (is_of_number x.number x) + count_in (is_of_number x.number) (a.queued ++ rest_held) =
      more_count (a.queued ++ rest_held) (messages_of a) x way.less (is_of_number x.number) in
      let at : count_at (is_of_number x.number) (m.servers k) ≡ count_in (is_of_number x.number) (messages_of a) = ap (count_at (is_of_number x.number)) is.from in
      omega (arith, mine)

  none_elsewhere : (n : ℕ) (server : Server) → n ≢ k → m.servers n ≡ Some server → All (λ z. is_of_number x.number z ≡ false) (messages_of server)
  none_elsewhere n server other e =
      none_pass (is_of_number x.number) (messages_of server)
      (sym (ap (count_at (is_of_number x.number)) e) ∙ only_at m.servers h.body.servers.numbers x.number k some_here n other)

  none_left : All (λ z. is_of_number x.number z ≡ false) (messages_of a_left)
  none_left = none_pass (is_of_number x.number) (messages_of a_left) none
    where
      none : count_in (is_of_number x.number) (messages_of a_left) ≡ 0
      none =
          let one : count_in (is_of_number x.number) (messages_of a) ≤ 1 = messages_apart m.servers h.body.servers.numbers k a is.from x.number in
          let all : count_in (is_of_number x.number) (messages_of a)
          ≡ one_if (is_of_number x.number x) + count_in (is_of_number x.number) (messages_of a_left) =
          more_count (messages_of a_left) (messages_of a) x way.less (is_of_number x.number) in
          omega (arith, mine)

  -- what held of all messages of `a` and of `b`, and holds of the message with its new place, holds of all that they have now
  all_left_there : (P : Message → Type 0) → All P (messages_of a) → All P (messages_of a_left)
  all_left_there P all = less_all (messages_of a_left) (messages_of a) x way.less P all

  all_there : (P : Message → Type 0) → P y → All P (messages_of b) → All P (messages_of b_left)
  all_there P here all = more_all (messages_of b) (messages_of b_left) y is.more P here all

  -- ---- the loan

  kinds : (kind : LoanKind) × (loan_kind x.kind ≡ Some kind)
  kinds = go (loan_kind x.kind) refl is.lend
    where
      go : (o : Option LoanKind) → loan_kind x.kind ≡ o → is_some o ≡ true → (kind : LoanKind) × (loan_kind x.kind ≡ Some kind)
      go None e q = absurd (false≢true q)
      go (Some kind) e q = (kind, e)

  lent : IsLendMatched (loans m.ledger) a x kinds.0
  lent = more_here (messages_of a_left) (messages_of a) x way.less (IsMessageLent (loans m.ledger) a) (h.body.loans.lends k a is.from) kinds.0 kinds.1

  on_loan : (lender : Place) × (lender.pid ≡ is.sender.pid) × Stands (loans m.ledger) (lend_run a x kinds.0 (Some lender))
  on_loan = subst (IsOnLoan (loans m.ledger) a x kinds.0) is.sent lent.loan

  abbrev run : LoanRun
  run = lend_run a x kinds.0 (Some on_loan.0)

  abbrev place : Place
  place = record { pid = b.pid; vpn = first }

  can : CanPass m.processes m.ledger run place
  can = record { stands = on_loan.2; lent = refl; free = is.free; lies = is.lies }

  lives : is_living m b.pid ≡ true
  lives = h.body.servers.living j b is.to

  lent_now : IsMessageLent (loans (passed_ledger m h run place can lives)) b_left y
  lent_now kind e = record {
    count = lent.count;
    loan = subst (IsOnLoan (loans (passed_ledger m h run place can lives)) b_left y kind) (sym is.sent) (
      on_loan.0,
      on_loan.1,
      subst (λ c. Stands (loans (passed_ledger m h run place can lives)) (lend_run b_left y c (Some on_loan.0)))
          (same_Some kinds.0 kind (sym kinds.1 ∙ e)) (run_passed m h run place can lives),
    );
  }

  loans_now : AreLoansMatched (loans (passed_ledger m h run place can lives)) forwarded_servers
  loans_now = record {
    lends = of_servers m.servers k a j b x y rest_held queued held way
        (λ n server. All (IsMessageLent (loans (passed_ledger m h run place can lives)) server) (messages_of server))
        (λ i d low. lent_still m h run place can lives a_left (get_or (messages_of a_left) i d) (none_left i d low)
        (lent_there m.servers k a is.from a.queued rest_held (loans m.ledger) (get_or (messages_of a_left) i d)
        (all_left_there (IsMessageLent (loans m.ledger) a) (h.body.loans.lends k a is.from) i d low)))
        (all_there (IsMessageLent (loans (passed_ledger m h run place can lives)) b_left) lent_now
        (λ i d low. lent_still m h run place can lives b_left (get_or (messages_of b) i d)
        (none_elsewhere j b is.apart is.to i d low)
        (lent_there m.servers j b is.to queued held (loans m.ledger) (get_or (messages_of b) i d) (h.body.loans.lends j b is.to i d low))))
        (λ n server far other e i d low. lent_still m h run place can lives server (get_or (messages_of server) i d)
        (none_elsewhere n server far e i d low) (h.body.loans.lends n server e i d low));
    loans_sent = λ p loan e.
        let old = loan_before m h run place can lives p loan e in
        one_passes m.servers k a j b x y rest_held queued held way (is_lend_of loan.number) refl
        (subst (λ (n : Number). HasIf true m.servers (is_lend_of n)) old.2 (h.body.loans.loans_sent p old.0 old.1));
    orphans_sent = λ p orphan e.
        one_passes m.servers k a j b x y rest_held queued held way (is_lend_of orphan.number) refl
        (h.body.loans.orphans_sent p orphan (orphan_before m h run place can lives p orphan e));
  }

  -- ---- the threads

  waits_same : (who : ThreadId) (number : Number) → waits_for m.threads who number ≡ waits_for (answered m.threads answers) who number
  waits_same who number = go (is_some (answers who)) refl
    where
      go : (c : Bool) → is_some (answers who) ≡ c → waits_for m.threads who number ≡ waits_for (answered m.threads answers) who number
      go false q = sym (waits_now m.threads answers who number ∙ (λ i. if q i then false else waits_for m.threads who number))
      go true q =
          let u = is.receives who q in
          ap (λ o. option_map_or (λ (t : Thread). is_waiting_for number t.state) o false) u.2 ∙ ap (is_waiting_for number) u.3
          ∙ sym (waits_now m.threads answers who number ∙ (λ i. if q i then false else waits_for m.threads who number))

  senders_now : AreSendersMatched (answered m.threads answers) forwarded_servers
  senders_now = record {
    senders = λ who number.
        subst (λ c. HasIf c forwarded_servers (is_sent_as who number)) (waits_same who number)
        (if_passes m.servers k a j b x y rest_held queued held way (is_sent_as who number) refl (waits_for m.threads who number)
        (h.body.senders.senders who number));
    queued = of_servers m.servers k a j b x y rest_held queued held way (λ n server. All IsQueueable server.queued)
        (h.body.senders.queued k a is.from) is.queueable (λ n server far other e. h.body.senders.queued n server e);
    held = of_servers m.servers k a j b x y rest_held queued held way (λ n server. All IsHoldable server.held)
        (All-filter (others_of x) IsHoldable a.held (h.body.senders.held k a is.from)) is.holdable
        (λ n server far other e. h.body.senders.held n server e);
    sized = of_servers m.servers k a j b x y rest_held queued held way (λ n server. All IsSized (messages_of server))
        (all_left_there IsSized (h.body.senders.sized k a is.from))
        (all_there IsSized (λ none. absurd (false≢true (sym none ∙ (lend_carries x.kind is.lend).0))) (h.body.senders.sized j b is.to))
        (λ n server far other e. h.body.senders.sized n server e);
  }

  receivers_now : AreReceiversMatched (answered m.threads answers) forwarded_servers
  receivers_now id t serial e q =
      let old = was_in m.threads answers id t (Receiving serial) e q refl in
      awaited (between m.servers k a j b x y rest_held queued held way) j b (still_there m.servers k a j b x y rest_held queued held way) queued held
      id.pid serial (λ same none. is.still id old.0 serial old.1 old.3 same old.2 none)
      (awaited m.servers k a is.from a.queued rest_held id.pid serial (λ same none. none) (h.body.receivers id old.0 serial old.1 old.3))

  -- ---- the servers

  servers_now : AreServersMatched m.process forwarded_servers
  servers_now =
      servers_changed (between m.servers k a j b x y rest_held queued held way) j b (still_there m.servers k a j b x y rest_held queued held way) queued held
      m.process
      (servers_changed m.servers k a is.from a.queued rest_held m.process h.body.servers
      (λ number. most_between m.servers k a j b x y rest_held queued held way (is_of_number number) refl (h.body.servers.numbers number)) fewer)
      (λ number. most_passes m.servers k a j b x y rest_held queued held way (is_of_number number) refl (h.body.servers.numbers number)) is.slots
    where
      fewer : slots_used a_left ≤ MESSAGE_LIMIT
      fewer =
          let before : slots_used a ≤ MESSAGE_LIMIT = h.body.servers.slots k a is.from in
          let shorter : length rest_held ≤ length a.held = filter_shorter (others_of x) a.held in
          omega arith

  above_now : AreNextAbove m.next_number m.next_serial m.process forwarded_servers
  above_now = record {
    numbers = of_servers m.servers k a j b x y rest_held queued held way (λ n server. All (λ z. z.number.0 < m.next_number) (messages_of server))
        (all_left_there (λ z. z.number.0 < m.next_number) (h.rest.above.numbers k a is.from))
        (all_there (λ z. z.number.0 < m.next_number)
        (more_here (messages_of a_left) (messages_of a) x way.less (λ z. z.number.0 < m.next_number) (h.rest.above.numbers k a is.from))
        (h.rest.above.numbers j b is.to))
        (λ n server far other e. h.rest.above.numbers n server e);
    serials = of_servers m.servers k a j b x y rest_held queued held way (λ n server. n < m.next_serial)
        (h.rest.above.serials k a is.from) (h.rest.above.serials j b is.to) (λ n server far other e. h.rest.above.serials n server e);
    connections = h.rest.above.connections;
  }

  -- ---- all

  abbrev pub forwarded : Machine
  forwarded = record m {
    ledger = pass x.number (record { pid = a.pid; vpn = x.first }) place m.ledger;
    threads = answered m.threads answers;
    servers = forwarded_servers;
  }

  pub forwarded_matched : Matched forwarded
  forwarded_matched = record {
    body = record {
      ledger = ledger_passed m h run place can lives;
      loans = loans_now;
      senders = senders_now;
      receivers = receivers_now;
      joiners = answered_joiners m.threads answers h.body.joiners;
      threads = answered_threads m.threads answers m.process h.body.threads;
      heaps = heaps_passed m h run place can lives;
      ids = answered_ids m.threads answers m.processes m.process h.body.ids;
      pages = (ledger_passed m h run place can lives).homes_live;
      processes = h.body.processes;
      servers = servers_now;
    };
    rest = record {
      handlers = h.rest.handlers;
      claims = h.rest.claims;
      above = above_now;
      stepped = h.rest.stepped;
      timer = h.rest.timer;
    };
  }
