-- One message of a seat ends or is left alone: what holds of all messages still does.
use Rattle.std.proofs.Common.{◌≡◌, ℕ, zero, suc, ◌+◌, ◌<◌, ◌≤◌, Bool, true, false, List, [], ◌∷◌, ◌++◌, cond, get_or, length, map, Option, Some, None, refl, sym, ap, subst, ◌∙◌, arith}
use Rattle.std.specs.Prelude.{◌≢◌, All, if◌then◌else◌, is_some, nat_eq}
use Rattle.std.specs.List.{remove}
use Rattle.std.specs.Option.{option_map}
use Rattle.std.proofs.lemmas.Bool.{eq-eqb, eqb-true, false≢true}
use Rattle.std.proofs.lemmas.List.{map-append}
use Rattle.std.proofs.lemmas.List.Elements.{All-append, All-cons, All-head, All-nil, All-tail}
use Rattle.std.proofs.lemmas.Option.{none-some, same_Some}
use Rattle.ledger_model.proofs.LedgerLemmas.{same_number-true}
use Rattle.ledger_model.proofs.Loans.OfNumberLemmas.{SameOf}
use Rattle.ledger_model.proofs.Stepping.EndingLemmas.{end_loan_other}
use Rattle.ledger_model.proofs.Stepping.OrphaningLemmas.{orphan_loan_other, orphan_loan_stands}
use Rattle.ledger_model.specs.Lawful.{IsLawful}
use Rattle.ledger_model.specs.Ledger.{Ledger}
use Rattle.ledger_model.specs.Loans.{IsFresh, LoanRun, Loans, Stands, loans, without_lender}
use Rattle.ledger_model.specs.Steps.{end_loan, orphan_loan}
use Rattle.machine_laws.proofs.Messaging.AnyServerLemmas.{messages_apart, only_at}
use Rattle.machine_model.proofs.Matching.CountLemmas.{count_in-append, none_pass, one_if}
use Rattle.machine_model.specs.Messaging.MessageCounts.{count_at, count_in}
use Rattle.machine_model.specs.Messaging.Messages.{is_of_number as is_message_of}
use Rattle.msg_queue.specs.Seats.{Seat, changed_at, is_of_number, message_of, of_number, message_place, seat_of, without_queued}
use Rattle.msg_queue.specs.declared.held.Held.{Held}
use Rattle.send_path.proofs.Servers.HeldListLemmas.{of_shown, others_fail}
use Rattle.send_path.proofs.Servers.SeatLemmas.{seat_changed, seat_is_there, seat_other, server_there}
use Rattle.send_path.proofs.Servers.SoundLemmas.{seats_changed}
use Rattle.xk_parts.specs.Shown.{server_of, server_with, servers_shown}
use Rattle.xk_parts.specs.Seats.{HasLoanIfLend, IsSeatOf, messages_at}
use Rattle.xk_parts.specs.Sound.{IsLenderOf, HasKnownSender, AreOpen, IsLoanFit, IsLoanFitOf}
use Rattle.server_table.proofs.Lemmas.{seats_differ}
use Rattle.server_table.specs.ServersOf.{servers_of}
use Rattle.server_table.specs.ServerState.{Server as TableServer}
use Rattle.server_table.specs.declared.table.Servers.{Servers}
use Rattle.xk_base.specs.declared.ids.Number.{Number}
use Rattle.xk_base.specs.declared.ids.Place.{Place}
use Rattle.xk_base.specs.declared.ids.ThreadId.{ThreadId}
use Rattle.xk_base.specs.declared.messages.Message.{Message}
use Rattle.kill_path.specs.Leaving.{alone, first_alone, with_alone}
use Rattle.kill_path.proofs.Messages.LeavingLemmas.{fresh_orphans}
use Rattle.kill_path.proofs.Servers.OpenLemmas.{at_number_counted, fit_still, messages_shown, most_fewer}

-- ---- lists of messages

abbrev pub number_count : Number → List Held → ℕ
number_count number hs = count_in (is_message_of number) (map message_of hs)

pub count_both : (number : Number) (xs ys : List Held) → number_count number (xs ++ ys) ≡ number_count number xs + number_count number ys
count_both number xs ys =
    ap (count_in (is_message_of number)) (map-append message_of xs ys) ∙ count_in-append (is_message_of number) (map message_of xs) (map message_of ys)

-- what is found is counted
pub found_counts : (number : Number) (hs : List Held) (h : Held) → of_number number hs ≡ Some h → 1 ≤ number_count number hs
unfolding count_in
found_counts number [] h e = absurd (none-some h e)
found_counts number (x ∷ xs) h e = go (is_of_number number x) (λ later. found_counts number xs h later) e
  where
    go : (b : Bool) → (of_number number xs ≡ Some h → 1 ≤ number_count number xs) → cond b (Some x) (of_number number xs) ≡ Some h
        → 1 ≤ (if b then 1 else 0) + number_count number xs
    go true rest q = omega arith
    go false rest q = let later : 1 ≤ number_count number xs = rest q in omega arith

pub none_of : (number : Number) (hs : List Held) → number_count number hs ≡ 0 → All (λ h. is_of_number number h ≡ false) hs
none_of number hs e = of_shown (λ x. is_message_of number x ≡ false) hs (none_pass (is_message_of number) (map message_of hs) e)

-- without the first of a number, where there is one of it, none is left
pub rest_fails : (number : Number) (xs ys : List Held) (h : Held) → of_number number xs ≡ Some h → number_count number (xs ++ ys) ≤ 1
    → All (λ x. is_of_number number x ≡ false) (remove xs (message_place number xs) ++ ys)
rest_fails number xs ys h found most =
    let both : number_count number (xs ++ ys) ≡ number_count number xs + number_count number ys = count_both number xs ys in
    let some : 1 ≤ number_count number xs = found_counts number xs h found in
    let few : number_count number xs ≤ 1 = omega arith in
    let none : number_count number ys ≡ 0 = omega arith in
    All-append (λ x. is_of_number number x ≡ false) (remove xs (message_place number xs)) ys
    (of_shown (λ x. is_message_of number x ≡ false) (remove xs (message_place number xs)) (others_fail (is_message_of number) xs few))
    (none_of number ys none)

-- what is left of a list was there
pub rest_all : (P : Held → Type 0) (xs ys : List Held) (place : ℕ) → All P (xs ++ ys) → All P (remove xs place ++ ys)
rest_all P [] ys zero a = a
rest_all P [] ys (suc place) a = a
rest_all P (x ∷ xs) ys zero a = All-tail P x (xs ++ ys) a
rest_all P (x ∷ xs) ys (suc place) a =
    All-cons P x (remove xs place ++ ys) (All-head P x (xs ++ ys) a) (rest_all P xs ys place (All-tail P x (xs ++ ys) a))

pub fewer_left : (test : Message → Bool) (xs ys : List Held) (place : ℕ)
    → count_in test (map message_of (remove xs place ++ ys)) ≤ count_in test (map message_of (xs ++ ys))
unfolding count_in
fewer_left test [] ys zero = omega arith
fewer_left test [] ys (suc place) = omega arith
fewer_left test (x ∷ xs) ys zero =
    let more : count_in test (map message_of ((x ∷ xs) ++ ys)) ≡ one_if (test x.msg) + count_in test (map message_of (xs ++ ys)) = refl in
    omega arith
fewer_left test (x ∷ xs) ys (suc place) =
    let rest : count_in test (map message_of (remove xs place ++ ys)) ≤ count_in test (map message_of (xs ++ ys)) = fewer_left test xs ys place in
    let more : count_in test (map message_of ((x ∷ xs) ++ ys)) ≡ one_if (test x.msg) + count_in test (map message_of (xs ++ ys)) = refl in
    let less : count_in test (map message_of ((x ∷ remove xs place) ++ ys)) ≡ one_if (test x.msg) + count_in test (map message_of (remove xs place ++ ys)) = refl in
    omega arith

-- what is left alone has another sender, and nothing else of it changes
pub first_alone_all : (number : Number) (P Q : Held → Type 0) → ((h : Held) → is_of_number number h ≡ false → P h → Q h)
    → ((h : Held) → is_of_number number h ≡ true → P h → Q (alone h)) → (hs : List Held) → number_count number hs ≤ 1 → All P hs
    → All Q (first_alone number hs)
unfolding count_in
first_alone_all number P Q keeps changes [] most all = All-nil Q
first_alone_all number P Q keeps changes (h ∷ hs) most all =
    go (is_of_number number h) refl (λ few. first_alone_all number P Q keeps changes hs few (All-tail P h hs all)) most
  where
    go : (b : Bool) → is_of_number number h ≡ b → (number_count number hs ≤ 1 → All Q (first_alone number hs))
        → (if b then 1 else 0) + number_count number hs ≤ 1 → All Q (if b then alone h ∷ hs else h ∷ first_alone number hs)
    go true e rest few =
        let none : number_count number hs ≡ 0 = omega arith in
        All-cons Q (alone h) hs (changes h e (All-head P h hs all))
        (λ j d low. keeps (get_or hs j d) (none_of number hs none j d low) (All-tail P h hs all j d low))
    go false e rest few = All-cons Q h (first_alone number hs) (keeps h e (All-head P h hs all)) (rest (omega arith))

pub first_alone_counts : (test : Message → Bool) → ((h : Held) → test (alone h).msg ≡ test h.msg) → (number : Number) (hs : List Held)
    → count_in test (map message_of (first_alone number hs)) ≡ count_in test (map message_of hs)
unfolding count_in
first_alone_counts test same number [] = refl
first_alone_counts test same number (h ∷ hs) = go (is_of_number number h) (first_alone_counts test same number hs)
  where
    go : (b : Bool) → count_in test (map message_of (first_alone number hs)) ≡ count_in test (map message_of hs)
        → count_in test (map message_of (if b then alone h ∷ hs else h ∷ first_alone number hs)) ≡ one_if (test h.msg) + count_in test (map message_of hs)
    go true rest = ap (λ b. one_if b + count_in test (map message_of hs)) (same h)
    go false rest = ap (λ n. one_if (test h.msg) + n) rest

pub left_all : (P : Held → Type 0) (xs ys : List Held) → All P (xs ++ ys) → All P xs
left_all P [] ys a = All-nil P
left_all P (x ∷ xs) ys a = All-cons P x xs (All-head P x (xs ++ ys) a) (left_all P xs ys (All-tail P x (xs ++ ys) a))

pub right_all : (P : Held → Type 0) (xs ys : List Held) → All P (xs ++ ys) → All P ys
right_all P [] ys a = a
right_all P (x ∷ xs) ys a = right_all P xs ys (All-tail P x (xs ++ ys) a)

-- ---- one seat changes

module _ (servers : Servers) (seats : List Seat) (s k : ℕ) (its : IsSeatOf (servers_of servers) s k) (l m : Ledger)
    (was_open : AreOpen (loans l) servers seats) (number : Number) (f : Seat → Seat)
    (here : 1 ≤ number_count number (messages_at (seat_of seats k)))
    (same : (other : Number) → other ≢ number → SameOf other (loans l) (loans m))
    (lent : All HasLoanIfLend (messages_at (f (seat_of seats k))))
    (fits : All (IsLoanFit (loans m) its.server.pid) (messages_at (f (seat_of seats k))))
    (known : All HasKnownSender (messages_at (f (seat_of seats k))))
    (fewer : (other : Number) → number_count other (messages_at (f (seat_of seats k))) ≤ number_count other (messages_at (seat_of seats k))) where
  there : k < length seats
  there = seat_is_there servers seats s k its was_open.seats.all

  abbrev new : List Seat
  new = changed_at k f seats

  at_seat : (n : ℕ) (v : TableServer) → (servers_of servers).live n ≡ Some v → n ≡ s → (v ≡ its.server) × (seat_of new v.seat ≡ f (seat_of seats k))
  at_seat n v e at =
      let is : v ≡ its.server = same_Some v its.server (sym e ∙ ap (servers_of servers).live at ∙ its.live) in
      (is, ap (seat_of new) (ap (λ (w : TableServer). w.seat) is ∙ its.its) ∙ seat_changed seats k f there)

  elsewhere : (n : ℕ) (v : TableServer) → (servers_of servers).live n ≡ Some v → n ≢ s → seat_of new v.seat ≡ seat_of seats v.seat
  elsewhere n v e ne = seat_other seats k v.seat f (λ at. ne (seats_differ servers n s v its.server e its.live (at ∙ sym its.its)))

  by_server : (P : TableServer → Seat → Type 0) → P its.server (f (seat_of seats k))
      → ((n : ℕ) (v : TableServer) → (servers_of servers).live n ≡ Some v → n ≢ s → P v (seat_of seats v.seat))
      → (n : ℕ) (v : TableServer) → (servers_of servers).live n ≡ Some v → P v (seat_of new v.seat)
  by_server P at others n v e = go (nat_eq n s) refl
    where
      go : (b : Bool) → nat_eq n s ≡ b → P v (seat_of new v.seat)
      go true q =
          let is = at_seat n v e (eqb-true n s q) in
          subst (λ (w : TableServer). P w (seat_of new v.seat)) (sym is.0) (subst (P its.server) (sym is.1) at)
      go false q =
          let ne : n ≢ s = λ eq. false≢true (sym q ∙ eq-eqb n s eq) in
          subst (P v) (sym (elsewhere n v e ne)) (others n v e ne)

  -- no message at another server has the number
  other_number : (n : ℕ) (v : TableServer) → (servers_of servers).live n ≡ Some v → n ≢ s → (j : ℕ) (d : Held)
      → j < length (messages_at (seat_of seats v.seat)) → (get_or (messages_at (seat_of seats v.seat)) j d).msg.number ≢ number
  other_number n v e ne j d low is =
      let none : count_at (is_message_of number) (servers_shown servers seats n) ≡ 0 =
      only_at (servers_shown servers seats) was_open.numbers number s at_its n ne in
      let counted : 1 ≤ number_count (get_or (messages_at (seat_of seats v.seat)) j d).msg.number (messages_at (seat_of seats v.seat)) =
      at_number_counted (messages_at (seat_of seats v.seat)) j d low in
      let same_count : number_count (get_or (messages_at (seat_of seats v.seat)) j d).msg.number (messages_at (seat_of seats v.seat))
      ≡ number_count number (messages_at (seat_of seats v.seat)) =
      ap (λ q. number_count q (messages_at (seat_of seats v.seat))) is in
      let shown : count_at (is_message_of number) (servers_shown servers seats n) ≡ number_count number (messages_at (seat_of seats v.seat)) =
      ap (λ o. count_at (is_message_of number) (option_map (server_of seats) o)) e
      ∙ ap (count_in (is_message_of number)) (messages_shown (seat_of seats v.seat) v) in
      absurd (omega arith)
    where
      at_its : 1 ≤ count_at (is_message_of number) (servers_shown servers seats s)
      at_its =
          subst (λ o. 1 ≤ count_at (is_message_of number) o) (sym (server_there servers seats s k its was_open.seats.all))
          (subst (λ (ms : List Message). 1 ≤ count_in (is_message_of number) ms) (sym (messages_shown (seat_of seats k) its.server)) here)

  pub open_changed : AreOpen (loans m) servers new
  open_changed = record {
    seats = seats_changed servers seats s k was_open.seats its f lent;
    fit = by_server (λ v seat. All (IsLoanFit (loans m) v.pid) (messages_at seat)) fits (λ n v e ne j d low.
        fit_still (loans l) (loans m) v.pid (get_or (messages_at (seat_of seats v.seat)) j d).msg (get_or (messages_at (seat_of seats v.seat)) j d).loan
        (same (get_or (messages_at (seat_of seats v.seat)) j d).msg.number (other_number n v e ne j d low)) (was_open.fit n v e j d low));
    senders = by_server (λ v seat. All HasKnownSender (messages_at seat)) known (λ n v e ne. was_open.senders n v e);
    numbers = λ other. most_fewer (servers_shown servers seats) (servers_shown servers new) (is_message_of other)
        (λ n. fewer_shown other n ((servers_of servers).live n) refl) (was_open.numbers other);
  }
    where
      fewer_at : (other : Number) (v : TableServer) (a b : Seat) → number_count other (messages_at a) ≤ number_count other (messages_at b)
          → count_at (is_message_of other) (Some (server_with a v)) ≤ count_at (is_message_of other) (Some (server_with b v))
      fewer_at other v a b less =
          let x : count_at (is_message_of other) (Some (server_with a v)) ≡ number_count other (messages_at a) =
          ap (count_in (is_message_of other)) (messages_shown a v) in
          let y : count_at (is_message_of other) (Some (server_with b v)) ≡ number_count other (messages_at b) =
          ap (count_in (is_message_of other)) (messages_shown b v) in
          omega arith

      fewer_shown : (other : Number) (n : ℕ) (o : Option TableServer) → (servers_of servers).live n ≡ o
          → count_at (is_message_of other) (option_map (server_of new) o) ≤ count_at (is_message_of other) (option_map (server_of seats) o)
      fewer_shown other n None e = omega arith
      fewer_shown other n (Some v) e =
          by_server (λ w seat. w ≡ v → count_at (is_message_of other) (Some (server_with seat v)) ≤ count_at (is_message_of other) (Some (server_with (seat_of seats v.seat) v)))
          (λ is. fewer_at other v (f (seat_of seats k)) (seat_of seats v.seat)
          (subst (λ j. number_count other (messages_at (f (seat_of seats k))) ≤ number_count other (messages_at (seat_of seats j)))
          (sym its.its ∙ ap (λ (w : TableServer). w.seat) is) (fewer other)))
          (λ i w e ne is. fewer_at other v (seat_of seats w.seat) (seat_of seats v.seat)
          (subst (λ j. number_count other (messages_at (seat_of seats w.seat)) ≤ number_count other (messages_at (seat_of seats j)))
          (ap (λ (x : TableServer). x.seat) is) (omega arith)))
          n v e refl

-- ---- the messages at a seat

module _ (servers : Servers) (seats : List Seat) (s k : ℕ) (its : IsSeatOf (servers_of servers) s k) (l : Ledger)
    (was_open : AreOpen (loans l) servers seats) where
  pub most : (other : Number) → number_count other (messages_at (seat_of seats k)) ≤ 1
  most other =
      subst (λ (ms : List Message). count_in (is_message_of other) ms ≤ 1) (messages_shown (seat_of seats k) its.server)
      (messages_apart (servers_shown servers seats) was_open.numbers s (server_with (seat_of seats k) its.server)
      (server_there servers seats s k its was_open.seats.all) other)

  pub fit_here : All (IsLoanFit (loans l) its.server.pid) (messages_at (seat_of seats k))
  fit_here = subst (λ i. All (IsLoanFit (loans l) its.server.pid) (messages_at (seat_of seats i))) its.its (was_open.fit s its.server its.live)

  pub known_here : All HasKnownSender (messages_at (seat_of seats k))
  known_here = subst (λ i. All HasKnownSender (messages_at (seat_of seats i))) its.its (was_open.senders s its.server its.live)

-- ---- a queued message ends

module _ (servers : Servers) (seats : List Seat) (s k : ℕ) (its : IsSeatOf (servers_of servers) s k) (l : Ledger)
    (was_open : AreOpen (loans l) servers seats) (number : Number) (h : Held) where
  -- the number is another where the test fails
  not_number : (x : Held) → is_of_number number x ≡ false → x.msg.number ≢ number
  not_number x e at = false≢true (sym e ∙ eq-eqb x.msg.number.0 number.0 (ap (λ (n : Number). n.0) at))

  pub queued_ended : of_number number (seat_of seats k).queued ≡ Some h
      → AreOpen (loans (end_loan number l)) servers (changed_at k (without_queued number) seats)
  queued_ended found =
      open_changed servers seats s k its l (end_loan number l) was_open number (without_queued number) here
      (λ other ne. end_loan_other number other l ne)
      (rest_all HasLoanIfLend seat.queued seat.held place (was_open.seats.loans k))
      (λ j d low.
      fit_still (loans l) (loans (end_loan number l)) its.server.pid (get_or left j d).msg (get_or left j d).loan
      (end_loan_other number (get_or left j d).msg.number l
      (not_number (get_or left j d) (rest_fails number seat.queued seat.held h found (most servers seats s k its l was_open number) j d low)))
      (rest_all (IsLoanFit (loans l) its.server.pid) seat.queued seat.held place (fit_here servers seats s k its l was_open) j d low))
      (rest_all HasKnownSender seat.queued seat.held place (known_here servers seats s k its l was_open))
      (λ other. fewer_left (is_message_of other) seat.queued seat.held place)
    where
      seat : Seat
      seat = seat_of seats k

      place : ℕ
      place = message_place number (seat_of seats k).queued

      left : List Held
      left = messages_at (without_queued number (seat_of seats k))

      here : 1 ≤ number_count number (messages_at (seat_of seats k))
      here =
          let both : number_count number (messages_at (seat_of seats k))
          ≡ number_count number (seat_of seats k).queued + number_count number (seat_of seats k).held =
          count_both number (seat_of seats k).queued (seat_of seats k).held in
          let some : 1 ≤ number_count number (seat_of seats k).queued = found_counts number (seat_of seats k).queued h found in
          omega arith

  -- ---- a held message is left alone

  module _ (procs capacity : ℕ) (lawful : IsLawful procs capacity l) (found : of_number number (seat_of seats k).held ≡ Some h) where
    abbrev after : Loans
    after = loans (orphan_loan procs number l)

    same_other : (other : Number) → other ≢ number → SameOf other (loans l) after
    same_other other ne = orphan_loan_other procs capacity number other l lawful ne

    -- a message that has a sender fits once it is left alone
    left_fit : (x : Held) → is_of_number number x ≡ true → is_some x.msg.sender ≡ true → IsLoanFit (loans l) its.server.pid x
        → IsLoanFit after its.server.pid (alone x)
    left_fit x e sent fit = go x.loan fit
      where
        at : x.msg.number ≡ number
        at = same_number-true x.msg.number number e

        lent_from : (o : Option ThreadId) → x.msg.sender ≡ o → (run : LoanRun) → IsLenderOf x.msg.sender run.lender → (from : Place) × (run.lender ≡ Some from)
        lent_from None q run f = absurd (false≢true (sym (ap is_some q) ∙ sent))
        lent_from (Some who) q run f =
            let from : (p : Place) × (run.lender ≡ Some p) × (p.pid ≡ who.pid) = subst (λ o. IsLenderOf o run.lender) q f in
            (from.0, from.1)

        go : (o : Option LoanRun) → IsLoanFitOf (loans l) its.server.pid x.msg o
            → IsLoanFitOf after its.server.pid (alone x).msg (option_map without_lender o)
        go None f =
            subst (λ (ledger : Ledger). IsFresh (loans ledger) x.msg.number)
            (sym (fresh_orphans procs number l (subst (IsFresh (loans l)) at f))) f
        go (Some run) f =
            let from = lent_from x.msg.sender refl run f.lender in
            record {
              stands = subst (λ (n : Number). Stands (loans (orphan_loan procs n l)) (without_lender run)) (f.number ∙ at)
                  (orphan_loan_stands procs capacity l run from.0 lawful f.stands from.1);
              number = f.number;
              kind = f.kind;
              first = f.first;
              count = f.count;
              lender = refl;
            }

    pub held_left : All (λ x. is_of_number number x ≡ true → is_some x.msg.sender ≡ true) (seat_of seats k).held
        → AreOpen after servers (changed_at k (with_alone number) seats)
    held_left sent =
        open_changed servers seats s k its l (orphan_loan procs number l) was_open number (with_alone number) here same_other
        (All-append HasLoanIfLend seat.queued (first_alone number seat.held) (front HasLoanIfLend (was_open.seats.loans k))
        (first_alone_all number HasLoanIfLend HasLoanIfLend (λ x e p. p) (λ x e p. same_loan x.loan ∙ p) seat.held few (back HasLoanIfLend (was_open.seats.loans k))))
        (All-append (IsLoanFit after its.server.pid) seat.queued (first_alone number seat.held)
        (λ j d low. still (get_or seat.queued j d) (none_of number seat.queued none j d low) (front (IsLoanFit (loans l) its.server.pid) (fit_here servers seats s k its l was_open) j d low))
        (first_alone_all number Both (IsLoanFit after its.server.pid) (λ x e p. still x e p.0) (λ x e p. left_fit x e (p.1 e) p.0) seat.held few
        (λ j d low. (back (IsLoanFit (loans l) its.server.pid) (fit_here servers seats s k its l was_open) j d low, sent j d low))))
        (All-append HasKnownSender seat.queued (first_alone number seat.held) (front HasKnownSender (known_here servers seats s k its l was_open))
        (first_alone_all number HasKnownSender HasKnownSender (λ x e p. p) (λ x e p. tt) seat.held few (back HasKnownSender (known_here servers seats s k its l was_open))))
        (λ other.
        let a : number_count other (messages_at (with_alone number seat)) ≡ number_count other seat.queued + number_count other (first_alone number seat.held) =
        count_both other seat.queued (first_alone number seat.held) in
        let b : number_count other (messages_at seat) ≡ number_count other seat.queued + number_count other seat.held = count_both other seat.queued seat.held in
        let c : number_count other (first_alone number seat.held) ≡ number_count other seat.held =
        first_alone_counts (is_message_of other) (λ x. refl) number seat.held in
        omega arith)
      where
        seat : Seat
        seat = seat_of seats k

        Both : Held → Type 0
        Both x = IsLoanFit (loans l) its.server.pid x × (is_of_number number x ≡ true → is_some x.msg.sender ≡ true)

        some : 1 ≤ number_count number (seat_of seats k).held
        some = found_counts number (seat_of seats k).held h found

        sum : number_count number (messages_at (seat_of seats k)) ≡ number_count number (seat_of seats k).queued + number_count number (seat_of seats k).held
        sum = count_both number (seat_of seats k).queued (seat_of seats k).held

        here : 1 ≤ number_count number (messages_at (seat_of seats k))
        here = omega (arith, some, sum)

        none : number_count number (seat_of seats k).queued ≡ 0
        none = omega (arith, some, sum, most servers seats s k its l was_open number)

        few : number_count number (seat_of seats k).held ≤ 1
        few = omega (arith, some, sum, most servers seats s k its l was_open number)

        front : (P : Held → Type 0) → All P (messages_at (seat_of seats k)) → All P (seat_of seats k).queued
        front P all = left_all P (seat_of seats k).queued (seat_of seats k).held all

        back : (P : Held → Type 0) → All P (messages_at (seat_of seats k)) → All P (seat_of seats k).held
        back P all = right_all P (seat_of seats k).queued (seat_of seats k).held all

        same_loan : (o : Option LoanRun) → is_some (option_map without_lender o) ≡ is_some o
        same_loan None = refl
        same_loan (Some run) = refl

        still : (x : Held) → is_of_number number x ≡ false → IsLoanFit (loans l) its.server.pid x → IsLoanFit after its.server.pid x
        still x e p = fit_still (loans l) after its.server.pid x.msg x.loan (same_other x.msg.number (not_number x e)) p
