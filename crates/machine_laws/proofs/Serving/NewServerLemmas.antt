-- A server more, without a message, under the next serial: the machine that has it settles.
use Rattle.std.proofs.Common.{◌≡◌, ◌≢◌, ℕ, zero, suc, ◌+◌, ◌-◌, ◌<◌, ◌≤◌, Bool, true, false, inl, inr, Option, Some, None, refl, sym, ap, ◌∙◌, arith, subst}
use Rattle.std.specs.Prelude.{◌==◌, if◌then◌else◌, is_some, nat_eq}
use Rattle.std.specs.List.{All}
use Rattle.std.specs.Option.{option_map}
use Rattle.std.proofs.lemmas.Bool.{cases_lt, eq-eqb, eqb-true, false≢true}
use Rattle.std.proofs.lemmas.List.Elements.{All-nil}
use Rattle.std.proofs.lemmas.Option.{none-some, same_Some}
use Rattle.std.proofs.lemmas.Slice.Eq.{bytes_eq-Decides}
use Rattle.xk_base.specs.declared.ids.Sid.{Sid}
use Rattle.xk_base.specs.declared.limits.TheConstants.{MESSAGE_LIMIT, SERVER_LIMIT}
use Rattle.xk_base.specs.declared.messages.Message.{Message}
use Rattle.xk_base.specs.Tables.Counting.{count_below, least_below, put_at}
use Rattle.xk_base.specs.Tables.Sids.{same_sid, serial_of, is_sid}
use Rattle.xk_base.proofs.CountingLemmas.{count_below-one, count_below-same, least_below-none}
use Rattle.ledger_model.specs.Loans.{loans}
use Rattle.machine_model.specs.Calling.ServerCalls.{new_server, with_server}
use Rattle.machine_model.specs.Messaging.MessageCounts.{count_at, count_in}
use Rattle.machine_model.specs.Messaging.Messages.{is_lend_of, is_of_number}
use Rattle.machine_model.specs.Runs.Kept.{Settles}
use Rattle.machine_model.specs.Runs.Matched.{AreServersMatched, IsHoldable, IsMessageLent, IsQueueable, IsServerAwaited, IsSized, Matched, is_living, is_sent_as, waits_for}
use Rattle.machine_model.specs.State.Machine.{Machine, Server}
use Rattle.machine_model.specs.State.Servers.{live_servers, messages_of, slots_used, with_sid}
use Rattle.machine_model.proofs.Matching.OneMessageLemmas.{CountAlike, if_alike, most_alike, one_alike}

-- ---- counts and identifiers

-- where nothing passes from a number on, no more pass below any later number
count_past : (next : ℕ) (f : ℕ → Bool) → ((j : ℕ) → next ≤ j → f j ≡ false) → (k : ℕ) → count_below (k + next) f ≡ count_below next f
unfolding count_below
count_past next f none zero = let same : 0 + next ≡ next = omega arith in ap (λ b. count_below b f) same
count_past next f none (suc k) =
    let more : suc k + next ≡ suc (k + next) = omega arith in
    let before : count_below (k + next) f ≡ count_below next f = count_past next f none k in
    let here : f (k + next) ≡ false = none (k + next) (omega arith) in
    ap (λ b. count_below b f) more ∙ (λ i. before i + (if here i then 1 else 0)) ∙ (let same : count_below next f + 0 ≡ count_below next f = omega arith in same)

count_bounded : (next bound : ℕ) (f : ℕ → Bool) → ((j : ℕ) → next ≤ j → f j ≡ false) → next < bound → count_below bound f ≡ count_below next f
count_bounded next bound f none high =
    let sum : bound ≡ (bound - next) + next = omega arith in
    ap (λ b. count_below b f) sum ∙ count_past next f none (bound - next)

sid_turned : (a b : Sid) → same_sid a b ≡ true → same_sid b a ≡ true
sid_turned a b e = (bytes_eq-Decides b.0 a.0).1 (sym ((bytes_eq-Decides a.0 b.0).0 e))

module _ (m : Machine) (h : Matched m) (sid : Sid) where
  -- where no server has the identifier, none has it
  pub none_named : is_some (with_sid m sid) ≡ false → (n : ℕ) (server : Server) → m.servers n ≡ Some server → same_sid server.sid sid ≡ false
  unfolding with_sid
  none_named none n server e = go (least_below m.next_serial (λ k. is_sid sid (option_map (λ s. s.sid) (m.servers k)))) refl none
    where
      go : (o : Option ℕ) → least_below m.next_serial (λ k. is_sid sid (option_map (λ s. s.sid) (m.servers k))) ≡ o → is_some (option_map serial_of o) ≡ false
          → same_sid server.sid sid ≡ false
      go (Some k) q r = absurd (false≢true (sym r))
      go None q r =
          sym (ap (λ o. is_sid sid (option_map (λ s. s.sid) o)) e) ∙ least_below-none m.next_serial (λ k. is_sid sid (option_map (λ s. s.sid) (m.servers k))) q n (h.rest.above.serials n server e)

  -- ---- the server

  -- what a new server of the caller's process asks: the process lives, the identifier is nobody's, and there are fewer than the limit
  pub record MayServe : Type 0 where
    pub live : is_living m m.cursor.pid ≡ true
    pub fresh : is_some (with_sid m sid) ≡ false
    pub room : (live_servers m == SERVER_LIMIT) ≡ false

  module _ (may : MayServe) where
    abbrev next : ℕ
    next = m.next_serial

    abbrev server : Server
    server = new_server m sid

    abbrev now : ℕ → Option Server
    now = put_at nat_eq m.servers next (Some server)

    -- no server has the next serial
    none_there : m.servers next ≡ None
    none_there = go (m.servers next) refl
      where
        go : (o : Option Server) → m.servers next ≡ o → o ≡ None
        go None e = refl
        go (Some other) e = let low : next < next = h.rest.above.serials next other e in absurd (omega arith)

    none_above : (j : ℕ) → next ≤ j → is_some (m.servers j) ≡ false
    none_above j high = go (m.servers j) refl
      where
        go : (o : Option Server) → m.servers j ≡ o → is_some o ≡ false
        go None e = refl
        go (Some other) e = let low : j < next = h.rest.above.serials j other e in absurd (omega arith)

    -- what holds of the new server and held of all holds of all
    each : (Q : ℕ → Server → Type 0) → Q next server → ((n : ℕ) (x : Server) → m.servers n ≡ Some x → Q n x)
        → (n : ℕ) (x : Server) → now n ≡ Some x → Q n x
    each Q here others n x e = go (nat_eq n next) refl e
      where
        go : (b : Bool) → nat_eq n next ≡ b → (if b then Some server else m.servers n) ≡ Some x → Q n x
        go true q r = subst (λ (y : Server). Q n y) (same_Some server x r) (subst (λ i. Q i server) (sym (eqb-true n next q)) here)
        go false q r = others n x r

    counts : (test : Message → Bool) → CountAlike m.servers now test
    unfolding count_in
    counts test n = go (nat_eq n next) refl
      where
        go : (b : Bool) → nat_eq n next ≡ b → count_at test (if b then Some server else m.servers n) ≡ count_at test (m.servers n)
        go true q = sym (ap (count_at test) (ap m.servers (eqb-true n next q) ∙ none_there))
        go false q = refl

    -- a server that is there stays
    still : (n : ℕ) (x : Server) → m.servers n ≡ Some x → now n ≡ Some x
    still n x e = go (nat_eq n next) refl
      where
        go : (b : Bool) → nat_eq n next ≡ b → (if b then Some server else m.servers n) ≡ Some x
        go true q = absurd (none-some x (sym none_there ∙ sym (ap m.servers (eqb-true n next q)) ∙ e))
        go false q = e

    few_now : (bound : ℕ) → count_below bound (λ n. is_some (now n)) ≤ SERVER_LIMIT
    unfolding live_servers
    few_now bound = elim (cases_lt next bound) [
      | inl inside ↦
          let one : count_below bound (λ n. is_some (now n)) ≡ count_below bound (λ n. is_some (m.servers n)) + 1 =
          count_below-one bound next (λ n. is_some (now n)) (λ n. is_some (m.servers n)) inside here (ap is_some none_there) (λ j low other. elsewhere j other) in
          let same : count_below bound (λ n. is_some (m.servers n)) ≡ count_below next (λ n. is_some (m.servers n)) =
          count_bounded next bound (λ n. is_some (m.servers n)) none_above inside in
          let most : count_below next (λ n. is_some (m.servers n)) ≤ SERVER_LIMIT = h.body.servers.few next in
          let less : count_below next (λ n. is_some (m.servers n)) ≢ SERVER_LIMIT =
          λ full. false≢true (sym may.room ∙ eq-eqb (count_below next (λ n. is_some (m.servers n))) SERVER_LIMIT full) in
          omega arith
      | inr outside ↦
          subst (λ k. k ≤ SERVER_LIMIT)
          (count_below-same bound (λ n. is_some (m.servers n)) (λ n. is_some (now n)) (λ j low. sym (elsewhere j (apart j low outside)))) (h.body.servers.few bound)
    ]
      where
        here : is_some (now next) ≡ true
        here = ap (λ b. is_some (if b then Some server else m.servers next)) (eq-eqb next next refl)

        apart : (j : ℕ) → j < bound → bound ≤ next → j ≡ next → ⊥
        apart j low outside same = omega arith

        elsewhere : (j : ℕ) → (j ≡ next → ⊥) → is_some (now j) ≡ is_some (m.servers j)
        elsewhere j other = go (nat_eq j next) refl
          where
            go : (b : Bool) → nat_eq j next ≡ b → is_some (if b then Some server else m.servers j) ≡ is_some (m.servers j)
            go true q = absurd (other (eqb-true j next q))
            go false q = refl

    sids_now : (a b : ℕ) (s t : Server) → now a ≡ Some s → now b ≡ Some t → same_sid s.sid t.sid ≡ true → a ≡ b
    sids_now a b s t e f = each (λ i x. same_sid x.sid t.sid ≡ true → i ≡ b) new_a old_a a s e
      where
        fresh : (n : ℕ) (x : Server) → m.servers n ≡ Some x → same_sid x.sid sid ≡ true → ⊥
        fresh n x q same = false≢true (sym (none_named may.fresh n x q) ∙ same)

        new_a : same_sid sid t.sid ≡ true → next ≡ b
        new_a =
            each (λ j y. same_sid sid y.sid ≡ true → next ≡ j) (λ same. refl)
            (λ j y q same. absurd (fresh j y q (sid_turned sid y.sid same))) b t f

        old_a : (i : ℕ) (x : Server) → m.servers i ≡ Some x → same_sid x.sid t.sid ≡ true → i ≡ b
        old_a i x q =
            each (λ j y. same_sid x.sid y.sid ≡ true → i ≡ j) (λ same. absurd (fresh i x q same))
            (λ j y r same. h.body.servers.sids i j x y q r same) b t f

    servers_now : AreServersMatched m.process now
    unfolding count_in
    servers_now = record {
      living = each (λ n x. is_living m x.pid ≡ true) may.live h.body.servers.living;
      sids = sids_now;
      numbers = λ number. most_alike m.servers now (is_of_number number) (counts (is_of_number number)) (h.body.servers.numbers number);
      few = few_now;
      slots = each (λ n x. slots_used x ≤ MESSAGE_LIMIT) (omega arith) h.body.servers.slots;
    }

    pub server_settles : Settles m (with_server (new_server m sid) m)
    server_settles = record {
      body = record {
        ledger = h.body.ledger;
        loans = record {
          lends = each (λ n x. All (IsMessageLent (loans m.ledger) x) (messages_of x)) (All-nil (IsMessageLent (loans m.ledger) server)) h.body.loans.lends;
          loans_sent = λ p loan e. one_alike m.servers now (is_lend_of loan.number) (counts (is_lend_of loan.number)) (h.body.loans.loans_sent p loan e);
          orphans_sent = λ p orphan e. one_alike m.servers now (is_lend_of orphan.number) (counts (is_lend_of orphan.number)) (h.body.loans.orphans_sent p orphan e);
        };
        senders = record {
          senders = λ who number.
              if_alike m.servers now (is_sent_as who number) (counts (is_sent_as who number)) (waits_for m.threads who number) (h.body.senders.senders who number);
          queued = each (λ n x. All IsQueueable x.queued) (All-nil IsQueueable) h.body.senders.queued;
          held = each (λ n x. All IsHoldable x.held) (All-nil IsHoldable) h.body.senders.held;
          sized = each (λ n x. All IsSized (messages_of x)) (All-nil IsSized) h.body.senders.sized;
        };
        receivers = λ id t serial e q.
            let w : IsServerAwaited m.servers id.pid serial = h.body.receivers id t serial e q in
            record { server = w.server; live = still serial.0 w.server w.live; own = w.own; empty = w.empty };
        joiners = h.body.joiners;
        threads = h.body.threads;
        heaps = h.body.heaps;
        ids = h.body.ids;
        pages = h.body.pages;
        processes = h.body.processes;
        servers = servers_now;
      };
      rest = record {
        handlers = h.rest.handlers;
        claims = h.rest.claims;
        above = record {
          numbers = each (λ n x. All (λ message. message.number.0 < m.next_number) (messages_of x))
              (All-nil (λ (message : Message). message.number.0 < m.next_number)) h.rest.above.numbers;
          serials = each (λ n x. n < m.next_serial + 1) (omega arith)
              (λ n x e. let low : n < m.next_serial = h.rest.above.serials n x e in omega arith);
          connections = λ pid j d low. let below = h.rest.above.connections pid j d low in omega (arith, below);
        };
        stepped = record {
          number_steps = let now_steps : m.next_number ≤ m.steps + 1 = h.rest.stepped.number_steps in omega arith;
          serial_steps = let now_steps : m.next_serial ≤ m.steps + 1 = h.rest.stepped.serial_steps in omega arith;
        };
        timer = h.rest.timer;
      };
    }
