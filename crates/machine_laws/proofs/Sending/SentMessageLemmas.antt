-- A message is sent: one server gets it, queued or held, or a thread gets it at once and no list has it. The next number is taken, its
-- pages are sent, and its sender waits or is answered. The machine stays matched, once the step is counted.
use Rattle.std.proofs.Common.{◌≡◌, ℕ, ◌+◌, ◌<◌, ◌≤◌, Bool, true, false, inl, inr, List, [], ◌++◌, get_or, length, Option, Some, None, refl, sym, ap, ◌∙◌, arith, subst}
use Rattle.std.specs.Prelude.{◌&&◌, ◌||◌}
use Rattle.std.specs.List.{All}
use Rattle.std.specs.Option.{option_map_or}
use Rattle.std.proofs.lemmas.Bool.{and_parts, eqb-true, false≢true}
use Rattle.xk_base.specs.declared.ids.Number.{Number}
use Rattle.xk_base.specs.declared.ids.Serial.{Serial}
use Rattle.xk_base.specs.declared.ids.ThreadId.{ThreadId}
use Rattle.xk_base.specs.declared.limits.TheConstants.{MESSAGE_LIMIT}
use Rattle.xk_base.specs.declared.messages.Message.{Message}
use Rattle.xk_base.specs.declared.messages.MsgKind.{MsgKind}
use Rattle.xk_base.specs.declared.messages.MsgKind.TheVariants.{LendMut, Lend, Move, Scalar, BlockingScalar}
use Rattle.xk_base.specs.Tables.Circle.{same_thread}
use Rattle.ledger_model.specs.Ledger.{Ledger}
use Rattle.ledger_model.specs.Loans.{loans}
use Rattle.machine_model.specs.Messaging.MessageCounts.{HasAtMostOne, HasIf, HasNone, HasOne, count_at}
use Rattle.xk_base.specs.Calls.Kinds.{is_answered}
use Rattle.machine_model.specs.Messaging.Messages.{is_lend, is_lend_of, is_of_number, is_sent_by}
use Rattle.machine_model.specs.Runs.Matched.{AreLoansMatched, AreNextAbove, AreReceiversMatched, AreSendersMatched, IsHoldable, IsMessageLent, IsQueueable, IsSized, Matched, is_sent_as, waits_for}
use Rattle.machine_model.specs.State.Machine.{Machine, Server, Thread, Receiving}
use Rattle.machine_model.specs.State.Servers.{messages_of}
use Rattle.machine_model.proofs.Matching.CountLemmas.{HasMore, none_counted, none_pass}
use Rattle.machine_model.proofs.Matching.MatchedLemmas.{lent_by, number_is_new}
use Rattle.machine_model.proofs.Matching.OneMessageLemmas.{CountAlike, gets_alike, gets_one, if_alike, most_alike, one_alike}
use Rattle.machine_laws.proofs.Messaging.OneServerLemmas.{after, awaited, counts_alike, each, gets, lent_there, now, servers_changed}
use Rattle.machine_laws.proofs.Messaging.PutThreadLemmas.{AreMatchedAlone}
use Rattle.machine_laws.proofs.Sending.SentLedgerLemmas.{IsSentLedger}

-- What the lists get: a message that fails a test changes no count, and one that passes where none did is at most the one that does,
-- and the one where it is to be answered.
pub record IsTaken (s new : ℕ → Option Server) (x : Message) : Type 0 where
  pub alike : (test : Message → Bool) → test x ≡ false → CountAlike s new test
  pub most : (test : Message → Bool) → test x ≡ true → HasNone s test → HasAtMostOne new test
  pub one : is_answered x.kind ≡ true → (test : Message → Bool) → test x ≡ true → HasNone s test → HasOne new test

pub none_of_number : (s : ℕ → Option Server) (number : Number) (Q : Message → Bool) → HasNone s (is_of_number number)
    → HasNone s (λ y. is_of_number number y && Q y)
none_of_number s number Q none n = go (s n) (none n)
  where
    go : (o : Option Server) → count_at (is_of_number number) o ≡ 0 → count_at (λ y. is_of_number number y && Q y) o ≡ 0
    go None e = refl
    go (Some server) e =
        none_counted (λ y. is_of_number number y && Q y) (messages_of server) (λ j d low.
        ap (λ b. b && Q (get_or (messages_of server) j d)) (none_pass (is_of_number number) (messages_of server) e j d low))

pub lend_is_answered : (kind : MsgKind) → is_lend kind ≡ true → is_answered kind ≡ true
lend_is_answered LendMut e = refl
lend_is_answered Lend e = refl
lend_is_answered Move e = absurd (false≢true e)
lend_is_answered Scalar e = absurd (false≢true e)
lend_is_answered BlockingScalar e = absurd (false≢true e)

module _ (m : Machine) (h : Matched m) (k : ℕ) (before : Server) (e : m.servers k ≡ Some before) (x : Message) where
  -- a list has it
  pub taken_in : (queued held : List Message) → HasMore (messages_of before) (queued ++ held) x
      → IsTaken m.servers (now m.servers k before e queued held) x
  taken_in queued held more =
      let g = gets m.servers k before e queued held x more in
      let new : ℕ → Option Server = now m.servers k before e queued held in
      record {
        alike = λ test fails. gets_alike m.servers new k x g test fails;
        most = λ test passes none. inr (gets_one m.servers new k x g test passes none);
        one = λ answered test passes none. gets_one m.servers new k x g test passes none;
      }

  -- none has it, since it isn't to be answered
  pub taken_away : is_answered x.kind ≡ false → IsTaken m.servers (now m.servers k before e before.queued before.held) x
  taken_away never = record {
    alike = λ test fails. counts_alike m.servers k before e before.queued before.held test refl;
    most = λ test passes none. inl (λ j. counts_alike m.servers k before e before.queued before.held test refl j ∙ none j);
    one = λ answered test passes none. absurd (false≢true (sym never ∙ answered));
  }

-- What a send leaves of the lists, the threads and the ledger.
pub record IsSent (m : Machine) (k : ℕ) (before : Server) (e : m.servers k ≡ Some before) (x : Message) (queued held : List Message)
    (t : ThreadId → Option Thread) (l : Ledger) : Type 0 where
  pub numbered : x.number.0 ≡ m.next_number
  pub unanswered : is_answered x.kind ≡ false → x.sender ≡ None
  pub sized : IsSized x
  pub taken : IsTaken m.servers (now m.servers k before e queued held) x
  pub queueable : All IsQueueable queued
  pub holdable : All IsHoldable held
  pub slots : length queued + length held ≤ MESSAGE_LIMIT
  pub alone : AreMatchedAlone m.processes m.process t
  pub waits : (id : ThreadId) (number : Number) → waits_for t id number ≡ (is_sent_as id number x || waits_for m.threads id number)
  pub receives : (id : ThreadId) (u : Thread) (serial : Serial) → t id ≡ Some u → u.state ≡ Receiving serial
      → (v : Thread) × (m.threads id ≡ Some v) × (v.state ≡ Receiving serial)
  -- nobody is Receiving there, or the queue stays empty
  pub still : (id : ThreadId) (v : Thread) (serial : Serial) → m.threads id ≡ Some v → v.state ≡ Receiving serial → serial.0 ≡ k
      → before.queued ≡ [] → queued ≡ []
  pub ledger : IsSentLedger m before.pid x l

module _ (m : Machine) (h : Matched m) (k : ℕ) (before : Server) (e : m.servers k ≡ Some before) (x : Message) (queued held : List Message)
    (t : ThreadId → Option Thread) (l : Ledger) (is : IsSent m k before e x queued held t l)
    (all : (P : Message → Type 0) → P x → All P (messages_of before) → All P (queued ++ held)) where
  abbrev new : ℕ → Option Server
  new = now m.servers k before e queued held

  abbrev changed : Server
  changed = after m.servers k before e queued held

  -- no message of its number was there
  fresh : (number : Number) → is_of_number number x ≡ true → HasNone m.servers (is_of_number number)
  fresh number q =
      let same : x.number.0 ≡ number.0 = eqb-true x.number.0 number.0 q in
      let at : x.number.0 ≡ m.next_number = is.numbered in
      number_is_new m h number (omega arith)

  not_older : (number : Number) → number.0 < m.next_number → is_of_number number x ≡ false
  not_older number low = go (is_of_number number x) refl
    where
      go : (b : Bool) → is_of_number number x ≡ b → b ≡ false
      go false q = refl
      go true q =
          let same : x.number.0 ≡ number.0 = eqb-true x.number.0 number.0 q in
          let at : x.number.0 ≡ m.next_number = is.numbered in
          absurd (omega arith)

  -- ---- 2

  loans_now : AreLoansMatched (loans l) new
  loans_now = record {
    lends = each m.servers k before e queued held (λ n server. All (IsMessageLent (loans l) server) (messages_of server))
        (all (IsMessageLent (loans l) changed) (is.ledger.here changed refl) (λ j d low.
        lent_there m.servers k before e queued held (loans l) (get_or (messages_of before) j d)
        (is.ledger.lends before (get_or (messages_of before) j d) (h.rest.above.numbers k before e j d low)
        (h.body.loans.lends k before e j d low))))
        (λ n server f j d low.
        is.ledger.lends server (get_or (messages_of server) j d) (h.rest.above.numbers n server f j d low)
        (h.body.loans.lends n server f j d low));
    loans_sent = λ p loan f. elim (is.ledger.loans_sent p loan f) [
      | inl old ↦ stays loan.number (h.body.loans.loans_sent p loan old)
      | inr made ↦
          let parts = and_parts (is_of_number loan.number x) (is_lend x.kind) made.0 in
          is.taken.one (lend_is_answered x.kind parts.1) (is_lend_of loan.number) made.0
          (none_of_number m.servers loan.number (λ y. is_lend y.kind) (fresh loan.number parts.0))
    ];
    orphans_sent = λ p orphan f. stays orphan.number (h.body.loans.orphans_sent p orphan (is.ledger.orphans_sent p orphan f));
  }
    where
      stays : (number : Number) → HasOne m.servers (is_lend_of number) → HasOne new (is_lend_of number)
      stays number one =
          one_alike m.servers new (is_lend_of number)
          (is.taken.alike (is_lend_of number) (ap (λ b. b && is_lend x.kind) (not_older number (lent_by m h number one).low))) one

  -- ---- 3

  senders_at : (who : ThreadId) (number : Number) → HasIf (waits_for t who number) new (is_sent_as who number)
  senders_at who number = go (is_sent_as who number x) refl
    where
      at : (b : Bool) → waits_for t who number ≡ b → HasIf b new (is_sent_as who number) → HasIf (waits_for t who number) new (is_sent_as who number)
      at b q has = subst (λ c. HasIf c new (is_sent_as who number)) (sym q) has

      answered : is_sent_as who number x ≡ true → is_answered x.kind ≡ true
      answered q = by_kind (is_answered x.kind) refl
        where
          by_kind : (b : Bool) → is_answered x.kind ≡ b → b ≡ true
          by_kind true r = refl
          by_kind false r =
              absurd (false≢true (sym (ap (λ o. option_map_or (same_thread who) o false) (is.unanswered r))
              ∙ (and_parts (is_of_number number x) (is_sent_by who x) q).1))

      go : (b : Bool) → is_sent_as who number x ≡ b → HasIf (waits_for t who number) new (is_sent_as who number)
      go true q =
          at true (is.waits who number ∙ ap (λ b. b || waits_for m.threads who number) q)
          (is.taken.one (answered q) (is_sent_as who number) q (none_of_number m.servers number (is_sent_by who)
          (fresh number (and_parts (is_of_number number x) (is_sent_by who x) q).0)))
      go false q =
          at (waits_for m.threads who number) (is.waits who number ∙ ap (λ b. b || waits_for m.threads who number) q)
          (if_alike m.servers new (is_sent_as who number) (is.taken.alike (is_sent_as who number) q) (waits_for m.threads who number)
          (h.body.senders.senders who number))

  senders_now : AreSendersMatched t new
  senders_now = record {
    senders = senders_at;
    queued = each m.servers k before e queued held (λ n server. All IsQueueable server.queued) is.queueable h.body.senders.queued;
    held = each m.servers k before e queued held (λ n server. All IsHoldable server.held) is.holdable h.body.senders.held;
    sized = each m.servers k before e queued held (λ n server. All IsSized (messages_of server))
        (all IsSized is.sized (h.body.senders.sized k before e)) h.body.senders.sized;
  }

  -- ---- 4

  receivers_now : AreReceiversMatched t new
  receivers_now id u serial f s =
      let was = is.receives id u serial f s in
      awaited m.servers k before e queued held id.pid serial (is.still id was.0 serial was.1 was.2) (h.body.receivers id was.0 serial was.1 was.2)

  -- ---- 8

  numbers_now : (number : Number) → HasAtMostOne new (is_of_number number)
  numbers_now number = go (is_of_number number x) refl
    where
      go : (b : Bool) → is_of_number number x ≡ b → HasAtMostOne new (is_of_number number)
      go true q = is.taken.most (is_of_number number) q (fresh number q)
      go false q = most_alike m.servers new (is_of_number number) (is.taken.alike (is_of_number number) q) (h.body.servers.numbers number)

  above_now : AreNextAbove (m.next_number + 1) m.next_serial m.process new
  above_now = record {
    numbers = each m.servers k before e queued held (λ n server. All (λ y. y.number.0 < m.next_number + 1) (messages_of server))
        (all (λ y. y.number.0 < m.next_number + 1) (let at : x.number.0 ≡ m.next_number = is.numbered in omega arith) (later k before e)) later;
    serials = each m.servers k before e queued held (λ n server. n < m.next_serial) (h.rest.above.serials k before e) h.rest.above.serials;
    connections = h.rest.above.connections;
  }
    where
      later : (n : ℕ) (server : Server) → m.servers n ≡ Some server → All (λ y. y.number.0 < m.next_number + 1) (messages_of server)
      later n server f j d low =
          let older : (get_or (messages_of server) j d).number.0 < m.next_number = h.rest.above.numbers n server f j d low in omega arith

  -- ---- all

  pub sent_matched : Matched (record m { ledger = l; threads = t; servers = new; next_number = m.next_number + 1; steps = m.steps + 1 })
  sent_matched = record {
    body = record {
      ledger = is.ledger.ledger;
      loans = loans_now;
      senders = senders_now;
      receivers = receivers_now;
      joiners = is.alone.joiners;
      threads = is.alone.threads;
      heaps = is.ledger.heaps;
      ids = is.alone.ids;
      pages = is.ledger.ledger.homes_live;
      processes = h.body.processes;
      servers = servers_changed m.servers k before e queued held m.process h.body.servers numbers_now is.slots;
    };
    rest = record {
      handlers = h.rest.handlers;
      claims = h.rest.claims;
      above = above_now;
      stepped =
          let numbers : m.next_number ≤ m.steps + 1 = h.rest.stepped.number_steps in
          let serials : m.next_serial ≤ m.steps + 1 = h.rest.stepped.serial_steps in
          record { number_steps = omega arith; serial_steps = omega arith };
      timer = h.rest.timer;
    };
  }
