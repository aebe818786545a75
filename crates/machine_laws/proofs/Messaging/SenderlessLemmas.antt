-- Held messages of a set of numbers become senderless: their loans become orphans, and who waits for one of them is answered. What is
-- matched of the body stays.
use Rattle.std.proofs.Common.{◌≡◌, ℕ, suc, ◌+◌, ◌<◌, ◌≤◌, Bool, true, false, List, [], ◌∷◌, get_or, length, map, Option, Some, None, refl, sym, ap, ◌∙◌, arith, subst}
use Rattle.std.specs.Prelude.{◌&&◌, if◌then◌else◌, is_some}
use Rattle.std.specs.List.{All}
use Rattle.std.specs.Option.{option_map, option_map_or}
use Rattle.std.proofs.lemmas.Bool.{eqb-true, false≢true}
use Rattle.std.proofs.lemmas.List.Elements.{All-append, All-head, All-map, All-tail}
use Rattle.std.proofs.lemmas.Option.{none-some, same_Some}
use Rattle.xk_base.specs.declared.ids.Number.{Number}
use Rattle.xk_base.specs.declared.ids.Place.{Place}
use Rattle.xk_base.specs.declared.ids.Serial.{Serial}
use Rattle.xk_base.specs.declared.ids.ThreadId.{ThreadId}
use Rattle.xk_base.specs.declared.limits.TheConstants.{MESSAGE_LIMIT, SERVER_LIMIT}
use Rattle.xk_base.specs.declared.messages.Message.{Message}
use Rattle.xk_base.specs.declared.pages.LoanKind.{LoanKind}
use Rattle.xk_base.specs.Tables.Circle.{same_thread}
use Rattle.xk_base.specs.Tables.Sids.{same_sid}
use Rattle.xk_base.proofs.CountingLemmas.{count_below-same}
use Rattle.ledger_model.specs.Lawful.{IsLawful}
use Rattle.ledger_model.specs.Ledger.{Ledger, Orphan, PageLoan, loan_at}
use Rattle.ledger_model.specs.Loans.{OrphanLoan, loan_of_orphan, loans}
use Rattle.machine_model.specs.Messaging.LoanSets.{orphan_loans}
use Rattle.machine_model.specs.Messaging.MessageCounts.{HasIf, HasNone, HasOne, count_at, count_in}
use Rattle.machine_model.specs.Messaging.Messages.{is_lend_of, is_of_number, is_sent_by}
use Rattle.machine_model.specs.Runs.Matched.{AreLoansMatched, AreNextAbove, AreReceiversMatched, AreSendersMatched, AreServersMatched, IsBodyMatched, IsHoldable, IsLedgerMatched, IsLendMatched, IsMessageLent, IsOnLoan, IsQueueable, IsSized, is_sent_as, lend_run, waits_for}
use Rattle.machine_model.specs.State.Machine.{Process, Server, Thread, Receiving}
use Rattle.machine_model.specs.State.Servers.{messages_of, slots_used}
use Rattle.machine_model.specs.State.Threads.{Answers}
use Rattle.machine_model.proofs.Matching.CountLemmas.{all_left, all_right, count_in-append, none_counted, one_if}
use Rattle.machine_model.proofs.Matching.LoanSetLawLemmas.{EachHas, orphaned_has, orphaned_home, orphaned_lawful, orphaned_stands, orphaned_still}
use Rattle.machine_model.proofs.Matching.LoanSetStepLemmas.{AreBelow}
use Rattle.machine_model.proofs.Matching.OneMessageLemmas.{CountAlike, if_alike, most_alike, one_alike}
use Rattle.machine_laws.proofs.Messaging.AnsweredThreadLemmas.{answered, answered_ids, answered_joiners, answered_threads, waits_now, was_in}

-- a message without its sender, where its number is one of the set
abbrev pub senderless_if : Bool → Message → Message
senderless_if b x = record x { sender = if b then None else x.sender }

abbrev pub alone_in : (Number → Bool) → Message → Message
alone_in alone x = senderless_if (alone x.number) x

abbrev pub server_alone : (Number → Bool) → Server → Server
server_alone alone server = record server { held = map (alone_in alone) server.held }

abbrev pub servers_alone : (Number → Bool) → (ℕ → Option Server) → ℕ → Option Server
servers_alone alone servers k = option_map (server_alone alone) (servers k)

-- What has to hold of the set and the answers: its messages are held and have senders, and who waits for one of them is answered, and
-- no other that waits or receives.
pub record IsLeftAlone (t : ThreadId → Option Thread) (s : ℕ → Option Server) (alone : Number → Bool) (answers : Answers) : Type 0 where
  pub queued : (k : ℕ) (server : Server) → s k ≡ Some server → All (λ x. alone x.number ≡ false) server.queued
  pub held : (k : ℕ) (server : Server) → s k ≡ Some server → All (λ x. alone x.number ≡ true → is_some x.sender ≡ true) server.held
  pub waits : (id : ThreadId) (number : Number) → waits_for t id number ≡ true → is_some (answers id) ≡ alone number
  pub receives : (id : ThreadId) (x : Thread) (serial : Serial) → t id ≡ Some x → x.state ≡ Receiving serial → answers id ≡ None

map_length : (f : Message → Message) (xs : List Message) → length (map f xs) ≡ length xs
map_length f [] = refl
map_length f (x ∷ xs) = ap suc (map_length f xs)

map_counts : (test : Message → Bool) (f : Message → Message) (xs : List Message) → All (λ x. test (f x) ≡ test x) xs
    → count_in test (map f xs) ≡ count_in test xs
unfolding count_in
map_counts test f [] all = refl
map_counts test f (x ∷ xs) all =
    λ i. one_if (All-head (λ y. test (f y) ≡ test y) x xs all i) + map_counts test f xs (All-tail (λ y. test (f y) ≡ test y) x xs all) i

module _ (n capacity : ℕ) (l : Ledger) (t : ThreadId → Option Thread) (p : ℕ → Process) (s : ℕ → Option Server)
    (alone : Number → Bool) (answers : Answers) (bound : ℕ) (low : AreBelow alone bound)
    (h : IsBodyMatched n capacity l t p s) (r : IsLeftAlone t s alone answers) where
  abbrev now : ℕ → Option Server
  now = servers_alone alone s

  abbrev ledger_now : Ledger
  ledger_now = orphan_loans n alone l

  -- ---- counts

  -- a test that is the same without the sender, for each message of a server, counts as before
  counts_same : (test : Message → Bool) → ((x : Message) → test (alone_in alone x) ≡ test x) → CountAlike s now test
  counts_same test same k = go (s k)
    where
      go : (o : Option Server) → count_at test (option_map (server_alone alone) o) ≡ count_at test o
      go None = refl
      go (Some server) =
          count_in-append test server.queued (map (alone_in alone) server.held)
          ∙ (λ i. count_in test server.queued + map_counts test (alone_in alone) server.held (λ j d low. same (get_or server.held j d)) i)
          ∙ sym (count_in-append test server.queued server.held)

  of_number : (number : Number) (b : Bool) → alone number ≡ b → (x : Message) → is_of_number number x ≡ true → alone x.number ≡ b
  of_number number b e x same =
      let at : x.number.0 ≡ number.0 = eqb-true x.number.0 number.0 same in
      ap alone (λ i. record { 0 = at i }) ∙ e

  -- ---- servers

  record WasServer (k : ℕ) (server : Server) : Type 0 where
    old : Server
    there : s k ≡ Some old
    same : server_alone alone old ≡ server

  was_server : (k : ℕ) (server : Server) → now k ≡ Some server → WasServer k server
  was_server k server e = go (s k) refl e
    where
      go : (o : Option Server) → s k ≡ o → option_map (server_alone alone) o ≡ Some server → WasServer k server
      go None q e = absurd (none-some server e)
      go (Some old) q e = record { old = old; there = q; same = same_Some (server_alone alone old) server e }

  -- what doesn't speak of senders holds of the messages as before
  all_messages : (P : Message → Type 0) → ((x : Message) → P x → P (alone_in alone x))
      → ((k : ℕ) (server : Server) → s k ≡ Some server → All P (messages_of server))
      → (k : ℕ) (server : Server) → now k ≡ Some server → All P (messages_of server)
  all_messages P still all k server e =
      let w : WasServer k server = was_server k server e in
      let before : All P (messages_of w.old) = all k w.old w.there in
      subst (λ (y : Server). All P (messages_of y)) w.same
      (All-append P w.old.queued (map (alone_in alone) w.old.held) (all_left P w.old.queued w.old.held before)
      (All-map P (alone_in alone) w.old.held
      (λ j d low. still (get_or w.old.held j d) (all_right P w.old.queued w.old.held before j d low))))

  -- ---- 1 and 2

  lawful_now : IsLawful n capacity ledger_now
  lawful_now = orphaned_lawful n capacity alone l bound low h.ledger.lawful

  lives : EachHas (λ loan. (p loan.holder.pid.0).alive ≡ true) (λ q number. (p q.pid.0).alive ≡ true) ledger_now
  lives =
      orphaned_has n capacity (λ loan. (p loan.holder.pid.0).alive ≡ true) (λ q number. (p q.pid.0).alive ≡ true) (λ loan e. e)
      alone l bound low h.ledger.lawful (record { loans = h.ledger.holders_live; orphans = h.ledger.orphans_live })

  ledger_left : IsLedgerMatched n capacity p ledger_now
  ledger_left = record {
    lawful = lawful_now;
    homes_live = λ q page e. h.ledger.homes_live q page (orphaned_home n alone l q page e);
    holders_live = lives.loans;
    orphans_live = lives.orphans;
  }

  abbrev Sent : Number → Type 0
  Sent number = HasOne s (is_lend_of number)

  old_orphans : (q : Place) (orphan : Orphan) → l.orphan q ≡ Some orphan → Sent orphan.number
  unfolding loans
  old_orphans q orphan e = h.loans.orphans_sent q (loan_of_orphan orphan) (ap (option_map loan_of_orphan) e)

  old_loans : (q : Place) (loan : PageLoan) → loan_at l q ≡ Some loan → Sent loan.number
  unfolding loans
  old_loans q loan e = h.loans.loans_sent q loan e

  sent : EachHas (λ loan. Sent loan.number) (λ q number. Sent number) ledger_now
  sent =
      orphaned_has n capacity (λ loan. Sent loan.number) (λ q number. Sent number) (λ loan e. e) alone l bound low h.ledger.lawful
      (record { loans = old_loans; orphans = old_orphans })

  sent_now : (number : Number) → Sent number → HasOne now (is_lend_of number)
  sent_now number one = one_alike s now (is_lend_of number) (counts_same (is_lend_of number) (λ x. refl)) one

  on_loan : (server : Server) (x : Message) (kind : LoanKind) (sender : Option ThreadId) → alone x.number ≡ false
      → IsOnLoan (loans l) server x kind sender → IsOnLoan (loans ledger_now) server x kind sender
  on_loan server x kind None e f = orphaned_still n capacity alone l bound low h.ledger.lawful (lend_run server x kind None) e f
  on_loan server x kind (Some sender) e f =
      (f.0, f.1, orphaned_still n capacity alone l bound low h.ledger.lawful (lend_run server x kind (Some f.0)) e f.2)

  orphaned : (server : Server) (x : Message) (kind : LoanKind) (sender : Option ThreadId) → alone x.number ≡ true → is_some sender ≡ true
      → IsOnLoan (loans l) server x kind sender → IsOnLoan (loans ledger_now) server x kind None
  orphaned server x kind None e i f = absurd (false≢true i)
  orphaned server x kind (Some sender) e i f =
      orphaned_stands n capacity alone l bound low h.ledger.lawful (lend_run server x kind (Some f.0)) f.0 refl e f.2

  queued_lent : (server : Server) (x : Message) → alone x.number ≡ false → IsMessageLent (loans l) server x
      → IsMessageLent (loans ledger_now) (server_alone alone server) x
  queued_lent server x e f kind q =
      let lend : IsLendMatched (loans l) server x kind = f kind q in
      record { count = lend.count; loan = on_loan server x kind x.sender e lend.loan }

  held_lent : (server : Server) (x : Message) → (alone x.number ≡ true → is_some x.sender ≡ true) → IsMessageLent (loans l) server x
      → IsMessageLent (loans ledger_now) (server_alone alone server) (alone_in alone x)
  held_lent server x some f = go (alone x.number) refl
    where
      go : (b : Bool) → alone x.number ≡ b → IsMessageLent (loans ledger_now) (server_alone alone server) (senderless_if b x)
      go false e kind q =
          let lend : IsLendMatched (loans l) server x kind = f kind q in
          record { count = lend.count; loan = on_loan server x kind x.sender e lend.loan }
      go true e kind q =
          let lend : IsLendMatched (loans l) server x kind = f kind q in
          record { count = lend.count; loan = orphaned server x kind x.sender e (some e) lend.loan }

  lends_now : (k : ℕ) (server : Server) → now k ≡ Some server → All (IsMessageLent (loans ledger_now) server) (messages_of server)
  lends_now k server e =
      let w : WasServer k server = was_server k server e in
      let before : All (IsMessageLent (loans l) w.old) (messages_of w.old) = h.loans.lends k w.old w.there in
      subst (λ (y : Server). All (IsMessageLent (loans ledger_now) y) (messages_of y)) w.same
      (All-append (IsMessageLent (loans ledger_now) (server_alone alone w.old)) w.old.queued (map (alone_in alone) w.old.held)
      (λ j d low. queued_lent w.old (get_or w.old.queued j d) (r.queued k w.old w.there j d low)
      (all_left (IsMessageLent (loans l) w.old) w.old.queued w.old.held before j d low))
      (All-map (IsMessageLent (loans ledger_now) (server_alone alone w.old)) (alone_in alone) w.old.held
      (λ j d low. held_lent w.old (get_or w.old.held j d) (r.held k w.old w.there j d low)
      (all_right (IsMessageLent (loans l) w.old) w.old.queued w.old.held before j d low))))

  loans_now : AreLoansMatched (loans ledger_now) now
  unfolding loans
  loans_now = record {
    lends = lends_now;
    loans_sent = λ q loan e. sent_now loan.number (sent.loans q loan e);
    orphans_sent = λ q orphan e.
        let there = orphan_there (ledger_now.orphan q) orphan e in
        let named : there.0.number ≡ orphan.number = ap (λ (x : OrphanLoan). x.number) there.2 in
        sent_now orphan.number (subst Sent named (sent.orphans q there.0 there.1));
  }
    where
      orphan_there : (o : Option Orphan) (x : OrphanLoan) → option_map loan_of_orphan o ≡ Some x → (y : Orphan) × (o ≡ Some y) × (loan_of_orphan y ≡ x)
      orphan_there None x e = absurd (none-some x e)
      orphan_there (Some y) x e = (y, refl, same_Some (loan_of_orphan y) x e)

  -- ---- 3

  -- of a number of the set nobody is the sender now
  none_sends : (who : ThreadId) (number : Number) → alone number ≡ true → HasNone now (is_sent_as who number)
  none_sends who number g k = go (s k) refl
    where
      fails : (x : Message) (b : Bool) → is_of_number number x ≡ b → (b && is_sent_by who (alone_in alone x)) ≡ false
      fails x false e = refl
      fails x true e = ap (λ c. option_map_or (same_thread who) (if c then None else x.sender) false) (of_number number true g x e)

      other : (x : Message) (b : Bool) → is_of_number number x ≡ b → alone x.number ≡ false → (b && is_sent_by who x) ≡ false
      other x false e f = refl
      other x true e f = absurd (false≢true (sym f ∙ of_number number true g x e))

      go : (o : Option Server) → s k ≡ o → count_at (is_sent_as who number) (option_map (server_alone alone) o) ≡ 0
      go None e = refl
      go (Some server) e =
          none_counted (is_sent_as who number) (messages_of (server_alone alone server))
          (All-append (λ x. is_sent_as who number x ≡ false) server.queued (map (alone_in alone) server.held)
          (λ j d low. other (get_or server.queued j d) (is_of_number number (get_or server.queued j d)) refl (r.queued k server e j d low))
          (All-map (λ x. is_sent_as who number x ≡ false) (alone_in alone) server.held
          (λ j d low. fails (get_or server.held j d) (is_of_number number (get_or server.held j d)) refl)))

  -- of any other number the senders are the same
  same_sender : (who : ThreadId) (number : Number) → alone number ≡ false → (x : Message) → is_sent_as who number (alone_in alone x) ≡ is_sent_as who number x
  same_sender who number g x = go (is_of_number number x) refl
    where
      go : (b : Bool) → is_of_number number x ≡ b → (b && is_sent_by who (alone_in alone x)) ≡ (b && is_sent_by who x)
      go false e = refl
      go true e = ap (λ c. option_map_or (same_thread who) (if c then None else x.sender) false) (of_number number false g x e)

  senders_at : (who : ThreadId) (number : Number) → HasIf (waits_for (answered t answers) who number) now (is_sent_as who number)
  senders_at who number = go (alone number) refl (answers who) refl (waits_for t who number) refl
    where
      at : (b : Bool) → waits_for (answered t answers) who number ≡ b → HasIf b now (is_sent_as who number)
          → HasIf (waits_for (answered t answers) who number) now (is_sent_as who number)
      at b e has = subst (λ c. HasIf c now (is_sent_as who number)) (sym e) has

      stays : (b : Bool) → waits_for t who number ≡ b → alone number ≡ false → HasIf b now (is_sent_as who number)
      stays b e g =
          if_alike s now (is_sent_as who number) (counts_same (is_sent_as who number) (same_sender who number g)) b
          (subst (λ c. HasIf c s (is_sent_as who number)) e (h.senders.senders who number))

      is_now : (a : Option (List ℕ)) → answers who ≡ a → (w : Bool) → waits_for t who number ≡ w
          → waits_for (answered t answers) who number ≡ (if is_some a then false else w)
      is_now a q w e = waits_now t answers who number ∙ (λ i. if is_some (q i) then false else e i)

      go : (g : Bool) → alone number ≡ g → (a : Option (List ℕ)) → answers who ≡ a → (w : Bool) → waits_for t who number ≡ w
          → HasIf (waits_for (answered t answers) who number) now (is_sent_as who number)
      go true g (Some words) q w e = at false (is_now (Some words) q w e) (none_sends who number g)
      go true g None q false e = at false (is_now None q false e) (none_sends who number g)
      go true g None q true e = absurd (false≢true (sym (ap is_some q) ∙ r.waits who number e ∙ g))
      go false g None q w e = at w (is_now None q w e) (stays w e g)
      go false g (Some words) q false e = at false (is_now (Some words) q false e) (stays false e g)
      go false g (Some words) q true e = absurd (false≢true (sym (r.waits who number e ∙ g) ∙ ap is_some q))

  senders_now : AreSendersMatched (answered t answers) now
  senders_now = record {
    senders = senders_at;
    queued = λ k server e.
        let w : WasServer k server = was_server k server e in
        subst (λ (y : Server). All IsQueueable y.queued) w.same (h.senders.queued k w.old w.there);
    held = λ k server e.
        let w : WasServer k server = was_server k server e in
        subst (λ (y : Server). All IsHoldable y.held) w.same (All-map IsHoldable (alone_in alone) w.old.held (h.senders.held k w.old w.there));
    sized = all_messages IsSized (λ x sized. sized) h.senders.sized;
  }

  -- ---- 4

  receivers_now : AreReceiversMatched (answered t answers) now
  receivers_now id x serial e q =
      let old = was_in t answers id x (Receiving serial) e q refl in
      let w = h.receivers id old.0 serial old.1 old.3 in
      record {
        server = server_alone alone w.server;
        live = ap (option_map (server_alone alone)) w.live;
        own = w.own;
        empty = w.empty;
      }

  -- ---- 8

  servers_now : AreServersMatched p now
  servers_now = record {
    living = λ k server e.
        let w : WasServer k server = was_server k server e in
        subst (λ (y : Server). (p y.pid.0).alive ≡ true) w.same (h.servers.living k w.old w.there);
    sids = λ a b x y e f same.
        let v : WasServer a x = was_server a x e in
        let w : WasServer b y = was_server b y f in
        h.servers.sids a b v.old w.old v.there w.there ((λ i. same_sid (v.same i).sid (w.same i).sid) ∙ same);
    numbers = λ number. most_alike s now (is_of_number number) (counts_same (is_of_number number) (λ x. refl)) (h.servers.numbers number);
    few = λ below. subst (λ k. k ≤ SERVER_LIMIT)
        (count_below-same below (λ k. is_some (s k)) (λ k. is_some (now k)) (λ k q. still_some (s k))) (h.servers.few below);
    slots = λ k server e.
        let w : WasServer k server = was_server k server e in
        let before : slots_used w.old ≤ MESSAGE_LIMIT = h.servers.slots k w.old w.there in
        let held : length (map (alone_in alone) w.old.held) ≡ length w.old.held = map_length (alone_in alone) w.old.held in
        subst (λ (y : Server). slots_used y ≤ MESSAGE_LIMIT) w.same (omega arith);
  }
    where
      still_some : (o : Option Server) → is_some o ≡ is_some (option_map (server_alone alone) o)
      still_some None = refl
      still_some (Some old) = refl

  -- ---- all

  pub alone_body : IsBodyMatched n capacity (orphan_loans n alone l) (answered t answers) p (servers_alone alone s)
  alone_body = record {
    ledger = ledger_left;
    loans = loans_now;
    senders = senders_now;
    receivers = receivers_now;
    joiners = answered_joiners t answers h.joiners;
    threads = answered_threads t answers p h.threads;
    heaps = record {
      whole = h.heaps.whole;
      within = h.heaps.within;
      below = λ q page e. h.heaps.below q page (orphaned_home n alone l q page e);
    };
    ids = answered_ids t answers n p h.ids;
    pages = ledger_left.homes_live;
    processes = h.processes;
    servers = servers_now;
  }

  pub alone_above : (number serial : ℕ) → AreNextAbove number serial p s → AreNextAbove number serial p (servers_alone alone s)
  alone_above number serial a = record {
    numbers = all_messages (λ x. x.number.0 < number) (λ x low. low) a.numbers;
    serials = λ k server e. let w : WasServer k server = was_server k server e in a.serials k w.old w.there;
    connections = a.connections;
  }
