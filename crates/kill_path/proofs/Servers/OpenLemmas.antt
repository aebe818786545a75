-- The messages of the other servers stay as they are where one server closes.
use Rattle.std.proofs.Common.{◌≡◌, ℕ, zero, suc, ◌<◌, ◌≤◌, Bool, true, false, List, [], ◌∷◌, get_or, inl, inr, length, map, Option, Some, None, refl, sym, ap, subst, ◌∙◌, arith}
use Rattle.std.specs.Prelude.{◌≢◌, ◌==◌, ◌||◌, ◌&&◌, All, if◌then◌else◌, nat_eq}
use Rattle.std.specs.List.{list_any}
use Rattle.std.specs.Option.{option_map}
use Rattle.std.proofs.lemmas.Bool.{eq-eqb, eqb-true, false≢true}
use Rattle.std.proofs.lemmas.List.{get_or-map, length-map, map-append}
use Rattle.std.proofs.lemmas.List.Elements.{All-nil}
use Rattle.std.proofs.lemmas.Option.{none-some, same_Some}
use Rattle.ledger_model.proofs.LedgerLemmas.{same_number-true}
use Rattle.ledger_model.proofs.Loans.OfNumberLemmas.{SameOf, fresh_still, stands_still}
use Rattle.ledger_model.specs.Ledger.{Ledger, Orphan, Page, PageLoan, loan_of}
use Rattle.ledger_model.specs.Loans.{LoanRun, Loans, loan_of_orphan, loans, of_number, orphan_of_number, same_number}
use Rattle.machine_laws.proofs.Messaging.AnyServerLemmas.{messages_apart, number_counted, only_at, only_server}
use Rattle.machine_laws.proofs.Messaging.ListedLemmas.{not_counted}
use Rattle.machine_model.proofs.Matching.OneMessageLemmas.{same_or_not}
use Rattle.machine_model.specs.Ending.Closing.{any_server}
use Rattle.machine_model.specs.Messaging.LoanSets.{end_loans, freed_but, loan_but, orphan_but}
use Rattle.machine_model.specs.Messaging.MessageCounts.{HasAtMostOne, count_at, count_in}
use Rattle.machine_model.specs.Messaging.Messages.{is_of_number as is_message_of, is_sent_by}
use Rattle.machine_model.specs.State.Machine.{Machine, Server}
use Rattle.machine_model.specs.State.Servers.{messages_of}
use Rattle.msg_queue.specs.Seats.{Seat, changed_at, empty_seat, message_of, seat_of}
use Rattle.msg_queue.specs.declared.held.Held.{Held}
use Rattle.send_path.proofs.Servers.SeatLemmas.{seat_changed, seat_is_there, seat_other, seats_counted, server_there}
use Rattle.xk_parts.specs.Shown.{server_of, server_with, servers_shown}
use Rattle.xk_parts.specs.Seats.{HasLoanIfLend, HasNoServer, IsSeatOf, messages_at}
use Rattle.xk_parts.specs.Sound.{AreSeatsSound, HasKnownSender, AreOpen, IsLoanFit, IsLoanFitOf}
use Rattle.server_table.proofs.Lemmas.{live_below, seats_differ}
use Rattle.server_table.specs.ServersOf.{servers_of}
use Rattle.server_table.specs.ServerState.{Server as TableServer, ServerState, without_server}
use Rattle.server_table.specs.declared.table.Servers.{Servers}
use Rattle.xk_base.specs.declared.ids.Number.{Number}
use Rattle.xk_base.specs.declared.ids.Pid.{Pid}
use Rattle.xk_base.specs.declared.ids.ThreadId.{ThreadId}
use Rattle.xk_base.specs.declared.limits.TheConstants.{SERVER_LIMIT}
use Rattle.xk_base.specs.declared.messages.Message.{Message}
use Rattle.kill_path.specs.Closing.{AreClosed, Closable, closable, with_servers}
use Rattle.kill_path.specs.Ending.{AreEndable, IsEndable, IsLoanEndable, emptied, is_number_in, with_senders}

-- ---- loans of other numbers

same_home : (set : Number → Bool) (number : Number) → set number ≡ false → (o : Option Page)
    → of_number number (loan_of (option_map (freed_but set) o)) ≡ of_number number (loan_of o)
same_home set number e None = refl
same_home set number e (Some page) = by_loan page.loan
  where
    by : (loan : PageLoan) (a b : Bool) → set loan.number ≡ a → same_number loan.number number ≡ b
        → of_number number (if a then None else Some loan) ≡ of_number number (Some loan)
    by loan false b p q = refl
    by loan true true p q = absurd (false≢true (sym e ∙ sym (ap set (same_number-true loan.number number q)) ∙ p))
    by loan true false p q = sym (ap (λ c. if c then Some loan else None) q)

    by_loan : (o : Option PageLoan) → of_number number (loan_but set o) ≡ of_number number o
    by_loan None = refl
    by_loan (Some loan) = by loan (set loan.number) (same_number loan.number number) refl refl

same_orphan : (set : Number → Bool) (number : Number) → set number ≡ false → (o : Option Orphan)
    → orphan_of_number number (option_map loan_of_orphan (orphan_but set o)) ≡ orphan_of_number number (option_map loan_of_orphan o)
same_orphan set number e None = refl
same_orphan set number e (Some orphan) = by (set orphan.number) (same_number orphan.number number) refl refl
  where
    by : (a b : Bool) → set orphan.number ≡ a → same_number orphan.number number ≡ b
        → orphan_of_number number (option_map loan_of_orphan (if a then None else Some orphan)) ≡ orphan_of_number number (Some (loan_of_orphan orphan))
    by false b p q = refl
    by true true p q = absurd (false≢true (sym e ∙ sym (ap set (same_number-true orphan.number number q)) ∙ p))
    by true false p q = sym (ap (λ c. if c then Some (loan_of_orphan orphan) else None) q)

-- loans of a number that isn't of the set are the same
pub ended_same : (set : Number → Bool) (number : Number) (l : Ledger) → set number ≡ false → SameOf number (loans l) (loans (end_loans set l))
unfolding loans end_loans
ended_same set number l e = record {
  homes = λ p. same_home set number e (l.home p);
  orphans = λ p. same_orphan set number e (l.orphan p);
}

pub fit_still : (x y : Loans) (pid : Pid) (message : Message) (o : Option LoanRun) → SameOf message.number x y → IsLoanFitOf x pid message o
    → IsLoanFitOf y pid message o
fit_still x y pid message None same e = fresh_still x y message.number same e
fit_still x y pid message (Some run) same e = record {
  stands = stands_still x y run (subst (λ n. SameOf n x y) (sym e.number) same) e.stands;
  number = e.number;
  kind = e.kind;
  first = e.first;
  count = e.count;
  lender = e.lender;
}

pub fit_endable : (all : Loans) (pid : Pid) (h : Held) → IsLoanFit all pid h → IsEndable all h
fit_endable all pid h f = go h.loan f
  where
    go : (o : Option LoanRun) → IsLoanFitOf all pid h.msg o → IsLoanEndable all h.msg.number o
    go None e = e
    go (Some run) e = (e.stands, e.number)

-- ---- lists of messages

pub any_shown : (p : Message → Bool) (hs : List Held) → list_any p (map message_of hs) ≡ list_any (λ h. p h.msg) hs
any_shown p [] = refl
any_shown p (h ∷ hs) = ap (λ b. p h.msg || b) (any_shown p hs)

-- the messages of a server are those of its seat
pub messages_shown : (seat : Seat) (v : TableServer) → messages_of (server_with seat v) ≡ map message_of (messages_at seat)
messages_shown seat v = sym (map-append message_of seat.queued seat.held)

pub at_number_counted : (hs : List Held) (j : ℕ) (d : Held) → j < length hs
    → 1 ≤ count_in (is_message_of (get_or hs j d).msg.number) (map message_of hs)
at_number_counted hs j d l =
    subst (λ (x : Message). 1 ≤ count_in (is_message_of x.number) (map message_of hs)) (get_or-map message_of hs j d (message_of d) l)
    (number_counted (map message_of hs) j (message_of d) (let same : length (map message_of hs) ≡ length hs = length-map hs message_of in omega arith))

-- ---- fewer messages

pub most_fewer : (s t : ℕ → Option Server) (test : Message → Bool) → ((n : ℕ) → count_at test (t n) ≤ count_at test (s n)) → HasAtMostOne s test
    → HasAtMostOne t test
most_fewer s t test fewer (inl none) = inl (λ n. let a : count_at test (t n) ≤ count_at test (s n) = fewer n in let b : count_at test (s n) ≡ 0 = none n in omega arith)
most_fewer s t test fewer (inr one) = go (count_at test (t one.serial)) refl
  where
    elsewhere : (n : ℕ) → n ≢ one.serial → count_at test (t n) ≡ 0
    elsewhere n ne =
        let a : count_at test (t n) ≤ count_at test (s n) = fewer n in
        let b : count_at test (s n) ≡ 0 = one.elsewhere n ne in
        omega arith

    go : (c : ℕ) → count_at test (t one.serial) ≡ c → HasAtMostOne t test
    go zero e = inl (λ n. elim (same_or_not n one.serial) [
      | inl same ↦ ap (λ k. count_at test (t k)) same ∙ e
      | inr ne ↦ elsewhere n ne
    ])
    go (suc c) e =
        let a : count_at test (t one.serial) ≤ count_at test (s one.serial) = fewer one.serial in
        let b : count_at test (s one.serial) ≡ 1 = one.here in
        inr (record { serial = one.serial; here = omega arith; elsewhere = elsewhere })

-- ---- one server closes

module _ (servers : Servers) (seats : List Seat) (s k : ℕ) (its : IsSeatOf (servers_of servers) s k) (l : Ledger)
    (was_open : AreOpen (loans l) servers seats) where
  -- its messages can end
  pub can_end : AreEndable (loans l) (messages_at (seat_of seats k))
  can_end = record {
    each = λ j d low. fit_endable (loans l) its.server.pid (get_or (messages_at (seat_of seats k)) j d)
        (subst (λ i. All (IsLoanFit (loans l) its.server.pid) (messages_at (seat_of seats i))) its.its (was_open.fit s its.server its.live) j d low);
    apart = λ number. subst (λ (ms : List Message). count_in (is_message_of number) ms ≤ 1) (messages_shown (seat_of seats k) its.server)
        (messages_apart (servers_shown servers seats) was_open.numbers s (server_with (seat_of seats k) its.server)
        (server_there servers seats s k its was_open.seats.all) number);
    senders = subst (λ i. All HasKnownSender (messages_at (seat_of seats i))) its.its (was_open.senders s its.server its.live);
  }

module _ (servers new : Servers) (seats : List Seat) (s k : ℕ) (its : IsSeatOf (servers_of servers) s k)
    (gone : servers_of new ≡ without_server s (servers_of servers)) (l : Ledger) (was_open : AreOpen (loans l) servers seats) where
  abbrev xs : List Held
  xs = messages_at (seat_of seats k)

  abbrev left : List Seat
  left = changed_at k emptied seats

  there : k < length seats
  there = seat_is_there servers seats s k its was_open.seats.all

  -- ---- the servers that are left

  live_now : (n : ℕ) (b : Bool) → nat_eq n s ≡ b → (servers_of new).live n ≡ (if b then None else (servers_of servers).live n)
  live_now n b e = ap (λ (t : ServerState). t.live n) gone ∙ ap (λ c. if c then None else (servers_of servers).live n) e

  pub record IsStill (n : ℕ) (v : TableServer) : Type 0 where
    pub other : n ≢ s
    pub live : (servers_of servers).live n ≡ Some v
    pub apart : v.seat ≢ k

  pub still : (n : ℕ) (v : TableServer) → (servers_of new).live n ≡ Some v → IsStill n v
  still n v e = go (nat_eq n s) refl
    where
      go : (b : Bool) → nat_eq n s ≡ b → IsStill n v
      go true q = absurd (none-some v (sym (live_now n true q) ∙ e))
      go false q =
          let ne : n ≢ s = λ same. false≢true (sym q ∙ eq-eqb n s same) in
          let live : (servers_of servers).live n ≡ Some v = sym (live_now n false q) ∙ e in
          record { other = ne; live = live; apart = λ same. ne (seats_differ servers n s v its.server live its.live (same ∙ sym its.its)) }

  pub shown_left : (n : ℕ) → servers_shown new left n ≡ (if n == s then None else servers_shown servers seats n)
  shown_left n = go (nat_eq n s) refl ((servers_of new).live n) refl
    where
      go : (b : Bool) → nat_eq n s ≡ b → (o : Option TableServer) → (servers_of new).live n ≡ o
          → option_map (server_of left) o ≡ (if b then None else servers_shown servers seats n)
      go true q None e = refl
      go true q (Some v) e = absurd ((still n v e).other (eqb-true n s q))
      go false q None e = sym (ap (option_map (server_of seats)) (sym (live_now n false q) ∙ e))
      go false q (Some v) e =
          let was : IsStill n v = still n v e in
          ap (λ seat. Some (server_with seat v)) (seat_other seats k v.seat emptied was.apart) ∙ sym (ap (option_map (server_of seats)) was.live)

  -- no message at another server has the number of one that ended
  not_ended : (n : ℕ) (v : TableServer) → IsStill n v → (j : ℕ) (d : Held) → j < length (messages_at (seat_of seats v.seat))
      → is_number_in xs (get_or (messages_at (seat_of seats v.seat)) j d).msg.number ≡ false
  not_ended n v was j d low =
      sym (any_shown (is_message_of number) xs) ∙ not_counted (is_message_of number) (map message_of xs)
      (sym (ap (count_in (is_message_of number)) (messages_shown (seat_of seats k) its.server))
      ∙ sym (ap (count_at (is_message_of number)) (server_there servers seats s k its was_open.seats.all))
      ∙ only_at (servers_shown servers seats) was_open.numbers number n some s (λ same. was.other (sym same)))
    where
      number : Number
      number = (get_or (messages_at (seat_of seats v.seat)) j d).msg.number

      some : 1 ≤ count_at (is_message_of number) (servers_shown servers seats n)
      some =
          subst (λ o. 1 ≤ count_at (is_message_of number) (option_map (server_of seats) o)) (sym was.live)
          (subst (λ (ms : List Message). 1 ≤ count_in (is_message_of number) ms) (sym (messages_shown (seat_of seats v.seat) v))
          (at_number_counted (messages_at (seat_of seats v.seat)) j d low))

  same_seat : (n : ℕ) (v : TableServer) → IsStill n v → seat_of left v.seat ≡ seat_of seats v.seat
  same_seat n v was = seat_other seats k v.seat emptied was.apart

  seats_left : AreSeatsSound (servers_of new) left
  seats_left = record {
    all = seats_counted seats k emptied ∙ was_open.seats.all;
    empty = λ j low none. empty_at j low none (nat_eq j k) refl;
    loans = λ j. loans_at j (nat_eq j k) refl;
  }
    where
      emptied_here : (j : ℕ) → nat_eq j k ≡ true → seat_of left j ≡ empty_seat
      emptied_here j e = ap (seat_of left) (eqb-true j k e) ∙ seat_changed seats k emptied there

      elsewhere : (j : ℕ) → nat_eq j k ≡ false → seat_of left j ≡ seat_of seats j
      elsewhere j e = seat_other seats k j emptied (λ same. false≢true (sym e ∙ eq-eqb j k same))

      no_server : (j : ℕ) → nat_eq j k ≡ false → HasNoServer (servers_of new) j → HasNoServer (servers_of servers) j
      no_server j e none n v live at = go (nat_eq n s) refl
        where
          go : (b : Bool) → nat_eq n s ≡ b → ⊥
          go true q =
              let same : v ≡ its.server = same_Some v its.server (sym live ∙ ap (servers_of servers).live (eqb-true n s q) ∙ its.live) in
              false≢true (sym e ∙ eq-eqb j k (sym at ∙ ap (λ (w : TableServer). w.seat) same ∙ its.its))
          go false q = none n v (live_now n false q ∙ live) at

      empty_at : (j : ℕ) → j < SERVER_LIMIT → HasNoServer (servers_of new) j → (b : Bool) → nat_eq j k ≡ b → seat_of left j ≡ empty_seat
      empty_at j low none true e = emptied_here j e
      empty_at j low none false e = elsewhere j e ∙ was_open.seats.empty j low (no_server j e none)

      loans_at : (j : ℕ) (b : Bool) → nat_eq j k ≡ b → All HasLoanIfLend (messages_at (seat_of left j))
      loans_at j true e = subst (λ seat. All HasLoanIfLend (messages_at seat)) (sym (emptied_here j e)) (All-nil HasLoanIfLend)
      loans_at j false e = subst (λ seat. All HasLoanIfLend (messages_at seat)) (sym (elsewhere j e)) (was_open.seats.loans j)

  -- what is left is as it was, but for the loans that ended
  pub open_left : AreOpen (loans (end_loans (is_number_in xs) l)) new left
  open_left = record {
    seats = seats_left;
    fit = λ n v e.
        let was : IsStill n v = still n v e in
        subst (λ seat. All (IsLoanFit (loans (end_loans (is_number_in xs) l)) v.pid) (messages_at seat)) (sym (same_seat n v was))
        (λ j d low. fit_still (loans l) (loans (end_loans (is_number_in xs) l)) v.pid (get_or (messages_at (seat_of seats v.seat)) j d).msg
        (get_or (messages_at (seat_of seats v.seat)) j d).loan
        (ended_same (is_number_in xs) (get_or (messages_at (seat_of seats v.seat)) j d).msg.number l (not_ended n v was j d low))
        (was_open.fit n v was.live j d low));
    senders = λ n v e.
        let was : IsStill n v = still n v e in
        subst (λ seat. All HasKnownSender (messages_at seat)) (sym (same_seat n v was)) (was_open.senders n v was.live);
    numbers = λ number. most_fewer (servers_shown servers seats) (servers_shown new left) (is_message_of number) (λ n. fewer number n) (was_open.numbers number);
  }
    where
      fewer : (number : Number) (n : ℕ) → count_at (is_message_of number) (servers_shown new left n) ≤ count_at (is_message_of number) (servers_shown servers seats n)
      fewer number n = subst (λ o. count_at (is_message_of number) o ≤ count_at (is_message_of number) (servers_shown servers seats n)) (sym (shown_left n)) (go (n == s))
        where
          go : (b : Bool) → count_at (is_message_of number) (if b then None else servers_shown servers seats n) ≤ count_at (is_message_of number) (servers_shown servers seats n)
          go true = omega arith
          go false = omega arith

  -- ---- as the machine closes it

  module _ (noted after : ThreadId → Bool) (told : after ≡ with_senders xs noted) (ended : Ledger) (ends : ended ≡ end_loans (is_number_in xs) l) where
    abbrev old : Closable
    old = closable l servers seats noted

    abbrev which : ℕ → Bool
    which n = n == s

    only_here : (m : Machine) (test : Message → Bool)
        → any_server (with_servers old m) (λ n server. which n && list_any test (messages_of server)) ≡ list_any (λ h. test h.msg) xs
    only_here m test =
        only_server (with_servers old m) (λ n server. which n && list_any test (messages_of server)) s (server_with (seat_of seats k) its.server)
        (server_there servers seats s k its was_open.seats.all) (live_below servers s its.server its.live) (λ n other ne e. not_which n ne (list_any test (messages_of other)))
        ∙ (λ i. eq-eqb s s refl i && list_any test (messages_shown (seat_of seats k) its.server i))
        ∙ any_shown test xs
      where
        not_which : (n : ℕ) → n ≢ s → (c : Bool) → (which n && c) ≡ false
        not_which n ne c = go (n == s) refl
          where
            go : (b : Bool) → (n == s) ≡ b → (b && c) ≡ false
            go true q = absurd (ne (eqb-true n s q))
            go false q = refl

    pub server_closed : AreClosed which old (closable ended new left after)
    server_closed = record {
      ledger = λ m. ends ∙ (λ i. end_loans (λ number. sym (only_here m (is_message_of number)) i) l);
      noted = λ m id. ap (λ (f : ThreadId → Bool). f id) told ∙ ap (λ b. noted id || b) (sym (only_here m (is_sent_by id)));
      servers = shown_left;
      next = ap (λ (t : ServerState). t.next) gone;
    }
