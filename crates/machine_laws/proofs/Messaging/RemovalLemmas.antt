-- Messages go: those of a set of numbers are taken out of all servers, and some servers, which have none but these, go. Their loans
-- end, and who waits for one of them, or receives at a server that goes, is answered. What is matched of the body stays. This serves a
-- return, the end of servers, and the queued messages of the dead.
use Rattle.std.proofs.Common.{le_trans, ◌≡◌, ℕ, ◌+◌, ◌<◌, ◌≤◌, Bool, true, false, List, [], ◌∷◌, cond, filter, get_or, inl, length, Option, Some, None, refl, sym, ap, ◌∙◌, arith, subst}
use Rattle.std.specs.Prelude.{not, if◌then◌else◌, is_some}
use Rattle.std.specs.List.{All}
use Rattle.std.specs.Option.{option_map}
use Rattle.std.proofs.lemmas.Bool.{eqb-true, false≢true, and_parts}
use Rattle.std.proofs.lemmas.List.Elements.{All-append, All-cons, All-filter, All-nil}
use Rattle.std.proofs.lemmas.Option.{none-some, same_Some}
use Rattle.xk_base.specs.declared.ids.Number.{Number}
use Rattle.xk_base.specs.declared.ids.Serial.{Serial}
use Rattle.xk_base.specs.declared.ids.ThreadId.{ThreadId}
use Rattle.xk_base.specs.declared.limits.TheConstants.{MESSAGE_LIMIT}
use Rattle.xk_base.specs.declared.messages.Message.{Message}
use Rattle.xk_base.specs.declared.pages.LoanKind.{LoanKind}
use Rattle.xk_base.specs.Tables.Sids.{same_sid}
use Rattle.xk_base.proofs.CountingLemmas.{count_below-le}
use Rattle.ledger_model.specs.Ledger.{Ledger, Orphan}
use Rattle.ledger_model.specs.Loans.{OrphanLoan, loan_of_orphan, loans}
use Rattle.machine_model.specs.Messaging.LoanSets.{end_loans}
use Rattle.machine_model.specs.Messaging.MessageCounts.{HasAtMostOne, HasIf, HasNone, HasOne, count_at, count_in}
use Rattle.machine_model.specs.Messaging.Messages.{is_lend, is_lend_of, is_of_number, is_sent_by}
use Rattle.machine_model.specs.Runs.Matched.{AreLoansMatched, AreNextAbove, AreReceiversMatched, AreSendersMatched, AreServersMatched, IsBodyMatched, IsHoldable, IsLedgerMatched, IsLendMatched, IsMessageLent, IsOnLoan, IsQueueable, IsSized, is_sent_as, lend_run, waits_for}
use Rattle.machine_model.specs.State.Machine.{Process, Server, Thread, Receiving}
use Rattle.machine_model.specs.State.Servers.{messages_of, slots_used}
use Rattle.machine_model.specs.State.Threads.{Answers}
use Rattle.machine_model.proofs.Matching.CountLemmas.{all_left, all_right, count_in-append, none_counted}
use Rattle.machine_model.proofs.Matching.LoanSetLawLemmas.{ended_home, ended_lawful, ended_loan, ended_orphan, ended_stands}
use Rattle.machine_model.proofs.Matching.LoanSetStepLemmas.{AreBelow}
use Rattle.machine_model.proofs.Matching.OneMessageLemmas.{CountAlike, if_alike, most_alike, one_alike}
use Rattle.machine_laws.proofs.Messaging.AnsweredThreadLemmas.{answered, answered_ids, answered_joiners, answered_threads, waits_now, was_in}
use Rattle.machine_laws.proofs.Messaging.FilterLemmas.{filter_none, filter_others, filter_shorter}

-- a server without the messages of the set
abbrev pub left : (Number → Bool) → Server → Server
left gone server = record server {
  queued = filter (λ x. not (gone x.number)) server.queued;
  held = filter (λ x. not (gone x.number)) server.held;
}

abbrev pub servers_left : (Number → Bool) → (ℕ → Bool) → (ℕ → Option Server) → ℕ → Option Server
servers_left gone which servers k = if which k then None else option_map (left gone) (servers k)

-- What has to hold of the sets and the answers: a server that goes has none but these messages; and a thread that waits for a message,
-- or receives at a server, is answered exactly where that goes.
pub record IsRemoval (t : ThreadId → Option Thread) (s : ℕ → Option Server) (gone : Number → Bool) (which : ℕ → Bool) (answers : Answers) : Type 0 where
  pub emptied : (k : ℕ) (server : Server) → s k ≡ Some server → which k ≡ true → All (λ x. gone x.number ≡ true) (messages_of server)
  pub waits : (id : ThreadId) (number : Number) → waits_for t id number ≡ true → is_some (answers id) ≡ gone number
  pub receives : (id : ThreadId) (x : Thread) (serial : Serial) → t id ≡ Some x → x.state ≡ Receiving serial → is_some (answers id) ≡ which serial.0

not_true : (b : Bool) → b ≡ false → not b ≡ true
not_true b e = ap not e

not_false : (b : Bool) → b ≡ true → not b ≡ false
not_false b e = ap not e

module _ (n capacity : ℕ) (l : Ledger) (t : ThreadId → Option Thread) (p : ℕ → Process) (s : ℕ → Option Server)
    (gone : Number → Bool) (which : ℕ → Bool) (answers : Answers) (bound : ℕ) (low : AreBelow gone bound)
    (h : IsBodyMatched n capacity l t p s) (r : IsRemoval t s gone which answers) where
  abbrev now : ℕ → Option Server
  now = servers_left gone which s

  abbrev keep : Message → Bool
  keep x = not (gone x.number)

  -- ---- counts

  -- a test that no message of the set passes counts as before
  counts_stay : (test : Message → Bool) → ((x : Message) → test x ≡ true → gone x.number ≡ false) → CountAlike s now test
  counts_stay test others k = go (which k) (s k) refl refl
    where
      of_list : (xs : List Message) → count_in test (filter keep xs) ≡ count_in test xs
      of_list xs = filter_others test keep (λ x e. not_true (gone x.number) (others x e)) xs

      fails : (server : Server) → s k ≡ Some server → which k ≡ true → All (λ x. test x ≡ false) (messages_of server)
      fails server e w j d low = by_test (test x) refl
        where
          x : Message
          x = get_or (messages_of server) j d

          by_test : (b : Bool) → test x ≡ b → b ≡ false
          by_test false q = refl
          by_test true q = absurd (false≢true (sym (others x q) ∙ r.emptied k server e w j d low))

      go : (b : Bool) (o : Option Server) → which k ≡ b → s k ≡ o → count_at test (if b then None else option_map (left gone) o) ≡ count_at test o
      go true None w e = refl
      go false None w e = refl
      go true (Some server) w e = sym (none_counted test (messages_of server) (fails server e w))
      go false (Some server) w e =
          count_in-append test (filter keep server.queued) (filter keep server.held)
          ∙ (λ i. of_list server.queued i + of_list server.held i)
          ∙ sym (count_in-append test server.queued server.held)

  -- a test that only messages of the set pass counts none
  counts_go : (test : Message → Bool) → ((x : Message) → test x ≡ true → gone x.number ≡ true) → HasNone now test
  counts_go test these k = go (which k) (s k)
    where
      of_list : (xs : List Message) → count_in test (filter keep xs) ≡ 0
      of_list xs = filter_none test keep (λ x e. not_false (gone x.number) (these x e)) xs

      go : (b : Bool) (o : Option Server) → count_at test (if b then None else option_map (left gone) o) ≡ 0
      go true o = refl
      go false None = refl
      go false (Some server) =
          count_in-append test (filter keep server.queued) (filter keep server.held) ∙ (λ i. of_list server.queued i + of_list server.held i)

  -- the messages of one number are of the set or not
  of_number : (number : Number) (b : Bool) → gone number ≡ b → (x : Message) → is_of_number number x ≡ true → gone x.number ≡ b
  of_number number b e x same =
      let at : x.number.0 ≡ number.0 = eqb-true x.number.0 number.0 same in
      ap gone (λ i. record { 0 = at i }) ∙ e

  -- ---- servers that are left

  record WasServer (k : ℕ) (server : Server) : Type 0 where
    old : Server
    there : s k ≡ Some old
    stays : which k ≡ false
    same : left gone old ≡ server

  was_server : (k : ℕ) (server : Server) → now k ≡ Some server → WasServer k server
  was_server k server e = go (which k) (s k) refl refl e
    where
      go : (b : Bool) (o : Option Server) → which k ≡ b → s k ≡ o → (if b then None else option_map (left gone) o) ≡ Some server → WasServer k server
      go true o w q e = absurd (none-some server e)
      go false None w q e = absurd (none-some server e)
      go false (Some old) w q e = record { old = old; there = q; stays = w; same = same_Some (left gone old) server e }

  -- what held of all messages of a server holds of those that are left
  all_queued : (P : Message → Type 0) → ((k : ℕ) (server : Server) → s k ≡ Some server → All P server.queued)
      → (k : ℕ) (server : Server) → now k ≡ Some server → All P server.queued
  all_queued P all k server e =
      let w : WasServer k server = was_server k server e in
      subst (λ (x : Server). All P x.queued) w.same (All-filter keep P w.old.queued (all k w.old w.there))

  all_held : (P : Message → Type 0) → ((k : ℕ) (server : Server) → s k ≡ Some server → All P server.held)
      → (k : ℕ) (server : Server) → now k ≡ Some server → All P server.held
  all_held P all k server e =
      let w : WasServer k server = was_server k server e in
      subst (λ (x : Server). All P x.held) w.same (All-filter keep P w.old.held (all k w.old w.there))

  all_messages : (P : Message → Type 0) → ((k : ℕ) (server : Server) → s k ≡ Some server → All P (messages_of server))
      → (k : ℕ) (server : Server) → now k ≡ Some server → All P (messages_of server)
  all_messages P all k server e =
      All-append P server.queued server.held
      (all_queued P (λ j x q. all_left P x.queued x.held (all j x q)) k server e)
      (all_held P (λ j x q. all_right P x.queued x.held (all j x q)) k server e)

  -- ---- 1 and 2

  ledger_left : IsLedgerMatched n capacity p (end_loans gone l)
  ledger_left = record {
    lawful = ended_lawful gone l bound low n capacity h.ledger.lawful;
    homes_live = λ q page e. let old = ended_home gone l q page e in h.ledger.homes_live q old.0 old.1;
    holders_live = λ q loan e. h.ledger.holders_live q loan (ended_loan gone l q loan e).0;
    orphans_live = λ q orphan e. h.ledger.orphans_live q orphan (ended_orphan gone l q orphan e).0;
  }

  on_loan : (server : Server) (x : Message) (kind : LoanKind) (sender : Option ThreadId) → gone x.number ≡ false
      → IsOnLoan (loans l) server x kind sender → IsOnLoan (loans (end_loans gone l)) server x kind sender
  on_loan server x kind None e f = ended_stands gone l bound low (lend_run server x kind None) e f
  on_loan server x kind (Some sender) e f = (f.0, f.1, ended_stands gone l bound low (lend_run server x kind (Some f.0)) e f.2)

  lent_left : (server : Server) (x : Message) → gone x.number ≡ false → IsMessageLent (loans l) server x
      → IsMessageLent (loans (end_loans gone l)) (left gone server) x
  lent_left server x e f kind q =
      let lend : IsLendMatched (loans l) server x kind = f kind q in
      record { count = lend.count; loan = on_loan server x kind x.sender e lend.loan }

  -- those that are left are not of the set
  kept_stay : (xs : List Message) → All (λ x. gone x.number ≡ false) (filter keep xs)
  kept_stay [] = All-nil (λ x. gone x.number ≡ false)
  kept_stay (x ∷ xs) = go (gone x.number) refl (kept_stay xs)
    where
      go : (b : Bool) → gone x.number ≡ b → All (λ y. gone y.number ≡ false) (filter keep xs)
          → All (λ y. gone y.number ≡ false) (cond (not b) (x ∷ filter keep xs) (filter keep xs))
      go true e rest = rest
      go false e rest = All-cons (λ y. gone y.number ≡ false) x (filter keep xs) e rest

  lends_left : (k : ℕ) (server : Server) → now k ≡ Some server → All (IsMessageLent (loans (end_loans gone l)) server) (messages_of server)
  lends_left k server e =
      let w : WasServer k server = was_server k server e in
      let before : All (IsMessageLent (loans l) w.old) (messages_of w.old) = h.loans.lends k w.old w.there in
      subst (λ (y : Server). All (IsMessageLent (loans (end_loans gone l)) y) (messages_of y)) w.same
      (All-append (IsMessageLent (loans (end_loans gone l)) (left gone w.old)) (filter keep w.old.queued) (filter keep w.old.held)
      (part w.old w.old.queued (all_left (IsMessageLent (loans l) w.old) w.old.queued w.old.held before))
      (part w.old w.old.held (all_right (IsMessageLent (loans l) w.old) w.old.queued w.old.held before)))
    where
      part : (old : Server) (xs : List Message) → All (IsMessageLent (loans l) old) xs
          → All (IsMessageLent (loans (end_loans gone l)) (left gone old)) (filter keep xs)
      part old xs all j d low =
          lent_left old (get_or (filter keep xs) j d) (kept_stay xs j d low) (All-filter keep (IsMessageLent (loans l) old) xs all j d low)

  sent_stays : (number : Number) → gone number ≡ false → HasOne s (is_lend_of number) → HasOne now (is_lend_of number)
  sent_stays number e one =
      one_alike s now (is_lend_of number)
      (counts_stay (is_lend_of number) (λ x q. of_number number false e x (and_parts (is_of_number number x) (is_lend x.kind) q).0)) one

  loans_left : AreLoansMatched (loans (end_loans gone l)) now
  unfolding loans
  loans_left = record {
    lends = lends_left;
    loans_sent = λ q loan e.
        let old = ended_loan gone l q loan e in
        sent_stays loan.number old.1 (h.loans.loans_sent q loan old.0);
    orphans_sent = λ q orphan e.
        let made = orphan_there ((end_loans gone l).orphan q) orphan e in
        let old = ended_orphan gone l q made.0 made.1 in
        let number_same : made.0.number ≡ orphan.number = ap (λ (x : OrphanLoan). x.number) made.2 in
        sent_stays orphan.number (sym (ap gone number_same) ∙ old.1)
        (subst (λ k. HasOne s (is_lend_of k)) number_same (h.loans.orphans_sent q (loan_of_orphan made.0) (ap (option_map loan_of_orphan) old.0)));
  }
    where
      orphan_there : (o : Option Orphan) (x : OrphanLoan) → option_map loan_of_orphan o ≡ Some x → (y : Orphan) × (o ≡ Some y) × (loan_of_orphan y ≡ x)
      orphan_there None x e = absurd (none-some x e)
      orphan_there (Some y) x e = (y, refl, same_Some (loan_of_orphan y) x e)

  -- ---- 3

  senders_left_at : (who : ThreadId) (number : Number) → HasIf (waits_for (answered t answers) who number) now (is_sent_as who number)
  senders_left_at who number = go (gone number) refl (answers who) refl (waits_for t who number) refl
    where
      number_of : (x : Message) → is_sent_as who number x ≡ true → is_of_number number x ≡ true
      number_of x q = (and_parts (is_of_number number x) (is_sent_by who x) q).0

      at : (b : Bool) → waits_for (answered t answers) who number ≡ b → HasIf b now (is_sent_as who number)
          → HasIf (waits_for (answered t answers) who number) now (is_sent_as who number)
      at b e has = subst (λ c. HasIf c now (is_sent_as who number)) (sym e) has

      stays : (b : Bool) → waits_for t who number ≡ b → gone number ≡ false → HasIf b now (is_sent_as who number)
      stays b e g =
          if_alike s now (is_sent_as who number) (counts_stay (is_sent_as who number) (λ x q. of_number number false g x (number_of x q))) b
          (subst (λ c. HasIf c s (is_sent_as who number)) e (h.senders.senders who number))

      goes : gone number ≡ true → HasNone now (is_sent_as who number)
      goes g = counts_go (is_sent_as who number) (λ x q. of_number number true g x (number_of x q))

      is_now : (a : Option (List ℕ)) → answers who ≡ a → (w : Bool) → waits_for t who number ≡ w
          → waits_for (answered t answers) who number ≡ (if is_some a then false else w)
      is_now a p w q = waits_now t answers who number ∙ (λ i. if is_some (p i) then false else q i)

      go : (g : Bool) → gone number ≡ g → (a : Option (List ℕ)) → answers who ≡ a → (w : Bool) → waits_for t who number ≡ w
          → HasIf (waits_for (answered t answers) who number) now (is_sent_as who number)
      go true g (Some words) p w q = at false (is_now (Some words) p w q) (goes g)
      go true g None p false q = at false (is_now None p false q) (goes g)
      go true g None p true q = absurd (false≢true (sym (ap is_some p) ∙ r.waits who number q ∙ g))
      go false g None p w q = at w (is_now None p w q) (stays w q g)
      go false g (Some words) p false q = at false (is_now (Some words) p false q) (stays false q g)
      go false g (Some words) p true q = absurd (false≢true (sym (r.waits who number q ∙ g) ∙ ap is_some p))

  senders_left : AreSendersMatched (answered t answers) now
  senders_left = record {
    senders = senders_left_at;
    queued = all_queued IsQueueable h.senders.queued;
    held = all_held IsHoldable h.senders.held;
    sized = all_messages IsSized h.senders.sized;
  }

  -- ---- 4

  receivers_left : AreReceiversMatched (answered t answers) now
  receivers_left id x serial e q =
      let old = was_in t answers id x (Receiving serial) e q refl in
      let w = h.receivers id old.0 serial old.1 old.3 in
      let stays : which serial.0 ≡ false = sym (r.receives id old.0 serial old.1 old.3) ∙ ap is_some old.2 in
      record {
        server = left gone w.server;
        live = (λ i. if stays i then None else option_map (left gone) (w.live i));
        own = w.own;
        empty = ap (filter keep) w.empty;
      }

  -- ---- 8

  servers_matched : AreServersMatched p now
  servers_matched = record {
    living = λ k server e.
        let w : WasServer k server = was_server k server e in
        subst (λ (y : Server). (p y.pid.0).alive ≡ true) w.same (h.servers.living k w.old w.there);
    sids = λ a b x y e f same.
        let v : WasServer a x = was_server a x e in
        let w : WasServer b y = was_server b y f in
        h.servers.sids a b v.old w.old v.there w.there ((λ i. same_sid (v.same i).sid (w.same i).sid) ∙ same);
    numbers = numbers_at;
    few = λ below.
        le_trans (count_below-le below (λ k. is_some (now k)) (λ k. is_some (s k)) (λ k q e. was_some k e)) (h.servers.few below);
    slots = λ k server e.
        let w : WasServer k server = was_server k server e in
        let before : slots_used w.old ≤ MESSAGE_LIMIT = h.servers.slots k w.old w.there in
        let queued : length (filter keep w.old.queued) ≤ length w.old.queued = filter_shorter keep w.old.queued in
        let held : length (filter keep w.old.held) ≤ length w.old.held = filter_shorter keep w.old.held in
        subst (λ (y : Server). slots_used y ≤ MESSAGE_LIMIT) w.same (omega arith);
  }
    where
      was_some : (k : ℕ) → is_some (now k) ≡ true → is_some (s k) ≡ true
      was_some k e = go (which k) (s k) e
        where
          go : (b : Bool) (o : Option Server) → is_some (if b then None else option_map (left gone) o) ≡ true → is_some o ≡ true
          go true o e = absurd (false≢true e)
          go false None e = e
          go false (Some old) e = refl

      numbers_at : (number : Number) → HasAtMostOne now (is_of_number number)
      numbers_at number = go (gone number) refl
        where
          go : (b : Bool) → gone number ≡ b → HasAtMostOne now (is_of_number number)
          go true e = inl (counts_go (is_of_number number) (of_number number true e))
          go false e = most_alike s now (is_of_number number) (counts_stay (is_of_number number) (of_number number false e)) (h.servers.numbers number)

  -- ---- all

  pub removed_body : IsBodyMatched n capacity (end_loans gone l) (answered t answers) p now
  removed_body = record {
    ledger = ledger_left;
    loans = loans_left;
    senders = senders_left;
    receivers = receivers_left;
    joiners = answered_joiners t answers h.joiners;
    threads = answered_threads t answers p h.threads;
    heaps = record {
      whole = h.heaps.whole;
      within = h.heaps.within;
      below = λ q page e. let old = ended_home gone l q page e in h.heaps.below q old.0 old.1;
    };
    ids = answered_ids t answers n p h.ids;
    pages = ledger_left.homes_live;
    processes = h.processes;
    servers = servers_matched;
  }

  -- the next number and serial are above what is left
  pub removed_above : (number serial : ℕ) → AreNextAbove number serial p s → AreNextAbove number serial p now
  removed_above number serial a = record {
    numbers = all_messages (λ x. x.number.0 < number) a.numbers;
    serials = λ k server e. let w : WasServer k server = was_server k server e in a.serials k w.old w.there;
    connections = a.connections;
  }
