-- The oldest queued message of a server is received: it is held where it is to be answered, and else goes. Nothing else changes.
use Rattle.std.proofs.Common.{◌≡◌, ℕ, ◌+◌, ◌<◌, ◌≤◌, Bool, true, false, inl, inr, List, [], ◌∷◌, ◌++◌, get_or, length, length-append, Option, Some, None, refl, sym, ap, ◌∙◌, arith, subst}
use Rattle.std.specs.Prelude.{is_some}
use Rattle.std.specs.List.{All}
use Rattle.std.specs.Option.{option_map_or}
use Rattle.std.proofs.lemmas.Bool.{and_parts, false≢true}
use Rattle.std.proofs.lemmas.List.Elements.{All-append, All-cons, All-head, All-nil, All-tail}
use Rattle.xk_base.specs.declared.ids.Number.{Number}
use Rattle.xk_base.specs.declared.ids.ThreadId.{ThreadId}
use Rattle.xk_base.specs.declared.limits.TheConstants.{MESSAGE_LIMIT}
use Rattle.xk_base.specs.declared.messages.Message.{Message}
use Rattle.xk_base.specs.Tables.Circle.{same_thread}
use Rattle.ledger_model.specs.Loans.{loans}
use Rattle.machine_model.specs.Messaging.MessageCounts.{HasAtMostOne, HasOne, count_at, count_in}
use Rattle.xk_base.specs.Calls.Kinds.{is_answered}
use Rattle.machine_model.specs.Messaging.Messages.{is_lend, is_lend_of, is_of_number, is_sent_by}
use Rattle.machine_model.specs.Runs.Matched.{AreLoansMatched, AreReceiversMatched, AreSendersMatched, IsHoldable, IsMessageLent, IsQueueable, IsSized, Matched, is_sent_as, waits_for}
use Rattle.machine_model.specs.State.Machine.{Machine, Server}
use Rattle.machine_model.specs.State.Servers.{messages_of}
use Rattle.machine_model.proofs.Matching.CountLemmas.{HasMore, all_left, all_right, count_in-append, less_all, more_count, one_if}
use Rattle.machine_model.proofs.Matching.OneMessageLemmas.{CountAlike, GetsMessage, gets_alike, if_alike, loses_one, most_alike, one_alike}
use Rattle.machine_laws.proofs.Messaging.OneServerLemmas.{awaited, counts_alike, each, lent_there, loses, now, servers_changed}
use Rattle.machine_laws.proofs.Sending.SentMessageLemmas.{lend_is_answered}

-- What the lists lose: counts stay of each test that the message fails, or of all where it is held; and where at most one passed, at most
-- one does.
record IsReceived (s new : ℕ → Option Server) (x : Message) : Type 0 where
  alike : (test : Message → Bool) → (is_answered x.kind ≡ false → test x ≡ false) → CountAlike s new test
  most : (test : Message → Bool) → HasAtMostOne s test → HasAtMostOne new test

module _ (m : Machine) (h : Matched m) (k : ℕ) (before : Server) (e : m.servers k ≡ Some before) (x : Message) (rest : List Message)
    (oldest : before.queued ≡ x ∷ rest) where
  -- ---- whatever the new list of held messages is

  module _ (held : List Message) (is : IsReceived m.servers (now m.servers k before e rest held) x) (holdable : All IsHoldable held)
      (slots : length rest + length held ≤ MESSAGE_LIMIT)
      (all : (P : Message → Type 0) → All P (messages_of before) → All P (rest ++ held)) where
    abbrev new : ℕ → Option Server
    new = now m.servers k before e rest held

    queueable : All IsQueueable (x ∷ rest)
    queueable = subst (All IsQueueable) oldest (h.body.senders.queued k before e)

    -- a message that isn't to be answered is no lend, and nobody waits for it
    not_lend : (number : Number) → is_answered x.kind ≡ false → is_lend_of number x ≡ false
    not_lend number never = go (is_lend_of number x) refl
      where
        go : (b : Bool) → is_lend_of number x ≡ b → b ≡ false
        go false q = refl
        go true q =
            absurd (false≢true (sym never ∙ lend_is_answered x.kind (and_parts (is_of_number number x) (is_lend x.kind) q).1))

    not_sent : (who : ThreadId) (number : Number) → is_answered x.kind ≡ false → is_sent_as who number x ≡ false
    not_sent who number never = go (is_sent_as who number x) refl x.sender refl
      where
        here : is_some x.sender ≡ is_answered x.kind
        here = All-head IsQueueable x rest queueable

        go : (b : Bool) → is_sent_as who number x ≡ b → (o : Option ThreadId) → x.sender ≡ o → b ≡ false
        go false q o f = refl
        go true q None f =
            absurd (false≢true (sym (ap (λ r. option_map_or (same_thread who) r false) f)
            ∙ (and_parts (is_of_number number x) (is_sent_by who x) q).1))
        go true q (Some sender) f = absurd (false≢true (sym never ∙ sym here ∙ ap is_some f))

    loans_now : AreLoansMatched (loans m.ledger) new
    loans_now = record {
      lends = each m.servers k before e rest held (λ n server. All (IsMessageLent (loans m.ledger) server) (messages_of server))
          (λ j d low. lent_there m.servers k before e rest held (loans m.ledger) (get_or (rest ++ held) j d)
          (all (IsMessageLent (loans m.ledger) before) (h.body.loans.lends k before e) j d low))
          h.body.loans.lends;
      loans_sent = λ p loan f. stays loan.number (h.body.loans.loans_sent p loan f);
      orphans_sent = λ p orphan f. stays orphan.number (h.body.loans.orphans_sent p orphan f);
    }
      where
        stays : (number : Number) → HasOne m.servers (is_lend_of number) → HasOne new (is_lend_of number)
        stays number one = one_alike m.servers new (is_lend_of number) (is.alike (is_lend_of number) (not_lend number)) one

    senders_now : AreSendersMatched m.threads new
    senders_now = record {
      senders = λ who number.
          if_alike m.servers new (is_sent_as who number) (is.alike (is_sent_as who number) (not_sent who number))
          (waits_for m.threads who number) (h.body.senders.senders who number);
      queued = each m.servers k before e rest held (λ n server. All IsQueueable server.queued) (All-tail IsQueueable x rest queueable)
          h.body.senders.queued;
      held = each m.servers k before e rest held (λ n server. All IsHoldable server.held) holdable h.body.senders.held;
      sized = each m.servers k before e rest held (λ n server. All IsSized (messages_of server))
          (all IsSized (h.body.senders.sized k before e)) h.body.senders.sized;
    }

    receivers_now : AreReceiversMatched m.threads new
    receivers_now id u serial f s =
        awaited m.servers k before e rest held id.pid serial
        (λ same none. ap (λ xs. drop_one xs) (sym oldest ∙ none)) (h.body.receivers id u serial f s)
      where
        drop_one : List Message → List Message
        drop_one [] = []
        drop_one (y ∷ ys) = ys

    received_matched : Matched (record m { servers = new })
    received_matched = record {
      body = record {
        ledger = h.body.ledger;
        loans = loans_now;
        senders = senders_now;
        receivers = receivers_now;
        joiners = h.body.joiners;
        threads = h.body.threads;
        heaps = h.body.heaps;
        ids = h.body.ids;
        pages = h.body.pages;
        processes = h.body.processes;
        servers = servers_changed m.servers k before e rest held m.process h.body.servers
            (λ number. is.most (is_of_number number) (h.body.servers.numbers number)) slots;
      };
      rest = record {
        handlers = h.rest.handlers;
        claims = h.rest.claims;
        above = record {
          numbers = each m.servers k before e rest held (λ n server. All (λ y. y.number.0 < m.next_number) (messages_of server))
              (all (λ y. y.number.0 < m.next_number) (h.rest.above.numbers k before e)) h.rest.above.numbers;
          serials = each m.servers k before e rest held (λ n server. n < m.next_serial) (h.rest.above.serials k before e) h.rest.above.serials;
          connections = h.rest.above.connections;
        };
        stepped = h.rest.stepped;
        timer = h.rest.timer;
      };
    }

  used_before : length rest + 1 + length before.held ≤ MESSAGE_LIMIT
  used_before =
      let most : length before.queued + length before.held ≤ MESSAGE_LIMIT = h.body.servers.slots k before e in
      let size : length before.queued ≡ length (x ∷ rest) = ap length oldest in
      omega (arith, most, size)

  -- ---- it is held

  module _ (answered : is_answered x.kind ≡ true) where
    abbrev held_too : List Message
    held_too = before.held ++ x ∷ []

    same_counts : (test : Message → Bool) → count_in test (rest ++ held_too) ≡ count_in test (messages_of before)
    unfolding count_in
    same_counts test =
        let left : count_in test (rest ++ held_too) ≡ count_in test rest + count_in test held_too = count_in-append test rest held_too in
        let more : count_in test held_too ≡ count_in test before.held + (one_if (test x) + 0) = count_in-append test before.held (x ∷ []) in
        let was : count_in test (messages_of before) ≡ one_if (test x) + count_in test (rest ++ before.held) =
        ap (λ xs. count_in test (xs ++ before.held)) oldest in
        let parts : count_in test (rest ++ before.held) ≡ count_in test rest + count_in test before.held =
        count_in-append test rest before.held in
        omega (arith, left, more, was, parts)

    pub held_matched : Matched (record m { servers = now m.servers k before e rest held_too })
    held_matched = received_matched held_too
        (record {
          alike = λ test fails. counts_alike m.servers k before e rest held_too test (same_counts test);
          most = λ test. most_alike m.servers (now m.servers k before e rest held_too) test
              (counts_alike m.servers k before e rest held_too test (same_counts test));
        })
        (All-append IsHoldable before.held (x ∷ []) (h.body.senders.held k before e) (All-cons IsHoldable x [] answered (All-nil IsHoldable)))
        (let size : length held_too ≡ length before.held + 1 = length-append before.held (x ∷ []) in
        let most : length rest + 1 + length before.held ≤ MESSAGE_LIMIT = used_before in
        omega (arith, size, most))
        (λ P all.
        let parts : All P ((x ∷ rest) ++ before.held) = subst (λ xs. All P (xs ++ before.held)) oldest all in
        let queue : All P (x ∷ rest) = all_left P (x ∷ rest) before.held parts in
        All-append P rest held_too (All-tail P x rest queue)
        (All-append P before.held (x ∷ []) (all_right P (x ∷ rest) before.held parts) (All-cons P x [] (All-head P x rest queue) (All-nil P))))

  -- ---- it goes

  more : HasMore (rest ++ before.held) (messages_of before) x
  more = record { before = []; behind = rest ++ before.held; less = refl; more = ap (λ xs. xs ++ before.held) oldest }

  abbrev without : ℕ → Option Server
  without = now m.servers k before e rest before.held

  lost : GetsMessage without m.servers k x
  lost = loses m.servers k before e rest before.held x more

  fewer : (test : Message → Bool) → HasAtMostOne m.servers test → HasAtMostOne without test
  fewer test most = go (test x) refl most
    where
      go : (b : Bool) → test x ≡ b → HasAtMostOne m.servers test → HasAtMostOne without test
      go false q h = most_alike m.servers without test (λ n. sym (gets_alike without m.servers k x lost test q n)) h
      go true q (inr one) = inl (loses_one without m.servers k x lost test q one)
      go true q (inl none) =
          let count : count_in test (messages_of before) ≡ one_if (test x) + count_in test (rest ++ before.held) =
          more_count (rest ++ before.held) (messages_of before) x more test in
          let passes : one_if (test x) ≡ 1 = ap one_if q in
          let zero : count_in test (messages_of before) ≡ 0 = sym (ap (count_at test) e) ∙ none k in
          absurd (omega (arith, count, passes, zero))

  pub gone_matched : is_answered x.kind ≡ false → Matched (record m { servers = without })
  gone_matched never = received_matched before.held
      (record {
        alike = λ test fails n. sym (gets_alike without m.servers k x lost test (fails never) n);
        most = fewer;
      })
      (h.body.senders.held k before e)
      (let most : length rest + 1 + length before.held ≤ MESSAGE_LIMIT = used_before in omega (arith, most))
      (λ P all. less_all (rest ++ before.held) (messages_of before) x more P all)
