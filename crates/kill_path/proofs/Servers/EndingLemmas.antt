-- Messages that end one after another.
use Rattle.std.proofs.Common.{◌≡◌, ℕ, ◌+◌, ◌<◌, ◌≤◌, Bool, true, false, List, [], ◌∷◌, cond, get_or, length, map, Option, Some, None, refl, sym, ap, subst, ◌∙◌, arith}
use Rattle.std.specs.Prelude.{◌≢◌, ◌||◌, find, if◌then◌else◌, not, slice_get}
use Rattle.std.specs.List.{list_any, remove}
use Rattle.std.specs.Option.{option_map, option_map_or}
use Rattle.std.proofs.lemmas.Bool.{eq-eqb, eqb-true, false≢true}
use Rattle.std.proofs.lemmas.List.{get_or-map, length-map}
use Rattle.std.proofs.lemmas.List.Elements.{All-tail}
use Rattle.std.proofs.lemmas.Option.{none-some, same_Some}
use Rattle.ledger_model.proofs.Loans.OfNumberLemmas.{SameOf, fresh_still, stands_still}
use Rattle.ledger_model.proofs.Stepping.EndingLemmas.{end_loan_other}
use Rattle.ledger_model.specs.Ledger.{Ledger, Orphan, PageLoan}
use Rattle.ledger_model.specs.Loans.{IsFresh, LoanRun, Loans, loan_of_orphan, loans, of_number, orphan_of_number, same_number}
use Rattle.ledger_model.specs.Steps.{end_loan}
use Rattle.machine_laws.proofs.Messaging.AnyServerLemmas.{number_counted}
use Rattle.machine_laws.proofs.Returning.NoLoanLemmas.{no_loan_ends}
use Rattle.machine_model.proofs.Matching.CountLemmas.{one_if}
use Rattle.machine_model.proofs.Messaging.LoanSetLemmas.{both_end, none_ends, only_one_ends}
use Rattle.machine_model.specs.Messaging.LoanSets.{end_loans}
use Rattle.machine_model.specs.Messaging.MessageCounts.{count_in}
use Rattle.machine_model.specs.Messaging.Messages.{is_of_number as is_message_of, is_sent_by}
use Rattle.msg_queue.specs.Seats.{Seat, changed_at, is_of_number, message_of, seat_of, of_number as first_of_number}
use Rattle.msg_queue.specs.declared.held.Held.{Held}
use Rattle.send_path.proofs.Servers.SeatLemmas.{changed_twice, seat_changed, seats_counted}
use Rattle.xk_parts.specs.Seats.{messages_at}
use Rattle.xk_base.specs.Tables.Circle.{same_thread}
use Rattle.xk_base.specs.declared.ids.Number.{Number}
use Rattle.xk_base.specs.declared.ids.ThreadId.{ThreadId}
use Rattle.xk_base.specs.declared.messages.Message.{Message}
use Rattle.kill_path.specs.Ending.{AreEndable, IsEndable, IsLoanEndable, emptied, is_number_in, with_sender, with_senders, without_first, without_first_of}
use Rattle.xk_parts.specs.Sound.{HasKnownSender}
use Rattle.kill_path.specs.ThreadSets.{ThreadSet}

-- ---- loans

-- nothing ends with a number by which nothing is on loan
pub fresh_ends : (number : Number) (l : Ledger) → IsFresh (loans l) number → end_loan number l ≡ l
unfolding loans
fresh_ends number l fresh =
    sym (only_one_ends number l)
    ∙ no_loan_ends (λ n. same_number n number) l
    (λ p loan e. of_loan loan (same_number loan.number number) refl (ap (of_number number) (sym e) ∙ fresh.homes p))
    (λ p orphan e. of_orphan orphan (same_number orphan.number number) refl
    (ap (λ (o : Option Orphan). orphan_of_number number (option_map loan_of_orphan o)) (sym e) ∙ fresh.orphans p))
  where
    of_loan : (loan : PageLoan) (b : Bool) → same_number loan.number number ≡ b → (if b then Some loan else None) ≡ None → b ≡ false
    of_loan loan true q r = absurd (none-some loan (sym r))
    of_loan loan false q r = refl

    of_orphan : (orphan : Orphan) (b : Bool) → same_number orphan.number number ≡ b
        → (if b then Some (loan_of_orphan orphan) else None) ≡ None → b ≡ false
    of_orphan orphan true q r = absurd (none-some (loan_of_orphan orphan) (sym r))
    of_orphan orphan false q r = refl

pub same_back : (a b : Number) → same_number a b ≡ same_number b a
same_back a b = go (same_number a b) (same_number b a) refl refl
  where
    go : (x y : Bool) → same_number a b ≡ x → same_number b a ≡ y → x ≡ y
    go true true p q = refl
    go false false p q = refl
    go true false p q = absurd (false≢true (sym q ∙ eq-eqb b.0 a.0 (sym (eqb-true a.0 b.0 p))))
    go false true p q = absurd (false≢true (sym p ∙ eq-eqb a.0 b.0 (sym (eqb-true b.0 a.0 q))))

-- the loan of the first ends, and then those of the others
pub ends_more : (h : Held) (hs : List Held) (l : Ledger)
    → end_loans (is_number_in hs) (end_loan h.msg.number l) ≡ end_loans (is_number_in (h ∷ hs)) l
ends_more h hs l =
    ap (end_loans (is_number_in hs)) (sym (only_one_ends h.msg.number l))
    ∙ both_end (λ n. same_number n h.msg.number) (is_number_in hs) l
    ∙ (λ i. end_loans (λ n. same_back n h.msg.number i || is_number_in hs n) l)

-- what can end by another number still can
pub endable_still : (x y : Loans) (number : Number) (o : Option LoanRun) → SameOf number x y → IsLoanEndable x number o → IsLoanEndable y number o
endable_still x y number None same e = fresh_still x y number same e
endable_still x y number (Some run) same e = (
  stands_still x y run (subst (λ n. SameOf n x y) (sym e.1) same) e.0,
  e.1,
)

-- ---- senders

pub senders_more : (h : Held) (hs : List Held) (noted : ThreadSet)
    → with_senders hs (with_sender h.msg.sender noted) ≡ with_senders (h ∷ hs) noted
senders_more h hs noted = λ i id. at id h.msg.sender refl i
  where
    three : (a b c : Bool) → ((if a then true else b) || c) ≡ (b || (a || c))
    three true true c = refl
    three true false c = refl
    three false true c = refl
    three false false c = refl

    at : (id : ThreadId) (o : Option ThreadId) → h.msg.sender ≡ o
        → (with_sender o noted id || list_any (λ x. is_sent_by id x.msg) hs)
        ≡ (noted id || (option_map_or (same_thread id) o false || list_any (λ x. is_sent_by id x.msg) hs))
    at id None e = refl
    at id (Some sender) e = three (same_thread id sender) (noted id) (list_any (λ x. is_sent_by id x.msg) hs)

-- ---- one after another

pub rest_endable : (h : Held) (hs : List Held) (l : Ledger) → AreEndable (loans l) (h ∷ hs) → AreEndable (loans (end_loan h.msg.number l)) hs
unfolding count_in
rest_endable h hs l all = record {
  each = λ k d low.
      let x : Held = get_or hs k d in
      endable_still (loans l) (loans (end_loan h.msg.number l)) x.msg.number x.loan
      (end_loan_other h.msg.number x.msg.number l (λ same. other k d low same))
      (All-tail (IsEndable (loans l)) h hs all.each k d low);
  apart = λ number. fewer number (all.apart number);
  senders = All-tail HasKnownSender h hs all.senders;
}
  where
    fewer : (number : Number) → count_in (is_message_of number) (map message_of (h ∷ hs)) ≤ 1 → count_in (is_message_of number) (map message_of hs) ≤ 1
    fewer number l =
        let both : one_if (is_message_of number h.msg) + count_in (is_message_of number) (map message_of hs) ≤ 1 = l in omega arith

    other : (k : ℕ) (d : Held) → k < length hs → (get_or hs k d).msg.number ≢ h.msg.number
    other k d low same = go (counted hs k d low)
      where
        number : Number
        number = (get_or hs k d).msg.number

        counted : (xs : List Held) (j : ℕ) (e : Held) → j < length xs → 1 ≤ count_in (is_message_of (get_or xs j e).msg.number) (map message_of xs)
        counted xs j e l =
            subst (λ (x : Message). 1 ≤ count_in (is_message_of x.number) (map message_of xs)) (get_or-map message_of xs j e (message_of e) l)
            (number_counted (map message_of xs) j (message_of e) (let same : length (map message_of xs) ≡ length xs = length-map xs message_of in omega arith))

        go : 1 ≤ count_in (is_message_of (get_or hs k d).msg.number) (map message_of hs) → ⊥
        go some =
            let one : one_if (is_message_of (get_or hs k d).msg.number h.msg) ≡ 1 =
            ap one_if (eq-eqb h.msg.number.0 (get_or hs k d).msg.number.0 (ap (λ (n : Number). n.0) (sym same))) in
            let both : one_if (is_message_of (get_or hs k d).msg.number h.msg) + count_in (is_message_of (get_or hs k d).msg.number) (map message_of hs) ≤ 1 =
            all.apart (get_or hs k d).msg.number in
            omega arith

-- ---- the first message of a seat

pub first_rest : (hs : List Held) (h : Held) → slice_get hs 0 ≡ Some h → hs ≡ h ∷ remove hs 0
first_rest [] h e = absurd (none-some h e)
first_rest (x ∷ xs) h e = ap (λ y. y ∷ xs) (same_Some x h e)

pub none_first : (hs : List Held) → slice_get hs 0 ≡ None → hs ≡ []
none_first [] e = refl
none_first (x ∷ xs) e = absurd (none-some x (sym e))

pub messages_rest : (seat : Seat) → messages_at (without_first seat) ≡ remove (messages_at seat) 0
messages_rest seat = go seat.queued
  where
    go : (queued : List Held) → messages_at (without_first_of queued seat.held) ≡ remove (messages_at (record { queued = queued; held = seat.held })) 0
    go [] = refl
    go (x ∷ xs) = refl

-- the first of a list is the first of its number
pub found_first : (hs : List Held) (h : Held) → slice_get hs 0 ≡ Some h → first_of_number h.msg.number hs ≡ Some h
found_first [] h e = absurd (none-some h e)
found_first (x ∷ xs) h e =
    ap (λ (y : Held). first_of_number y.msg.number (x ∷ xs)) (sym (same_Some x h e))
    ∙ ap (λ b. cond b (Some x) (find (is_of_number x.msg.number) xs)) (eq-eqb x.msg.number.0 x.msg.number.0 refl) ∙ e

-- ---- one after another out of a seat

module _ (old new : List Seat) (k : ℕ) (there : k < length old) (left : new ≡ changed_at k without_first old) where
  rest_there : messages_at (seat_of new k) ≡ remove (messages_at (seat_of old k)) 0
  rest_there =
      ap (λ (seats : List Seat). messages_at (seat_of seats k)) left ∙ ap messages_at (seat_changed old k without_first there)
      ∙ messages_rest (seat_of old k)

  pub same_count : length new ≡ length old
  same_count = ap length left ∙ seats_counted old k without_first

  pub then_emptied : changed_at k emptied new ≡ changed_at k emptied old
  then_emptied = ap (changed_at k emptied) left ∙ changed_twice old k without_first emptied there

  module _ (h : Held) (first : slice_get (messages_at (seat_of old k)) 0 ≡ Some h) where
    split : messages_at (seat_of old k) ≡ h ∷ messages_at (seat_of new k)
    split = first_rest (messages_at (seat_of old k)) h first ∙ ap (λ hs. h ∷ hs) (sym rest_there)

    pub rest_can_end : (l m : Ledger) → m ≡ end_loan h.msg.number l → AreEndable (loans l) (messages_at (seat_of old k))
        → AreEndable (loans m) (messages_at (seat_of new k))
    rest_can_end l m e all =
        subst (λ (x : Ledger). AreEndable (loans x) (messages_at (seat_of new k))) (sym e)
        (rest_endable h (messages_at (seat_of new k)) l (subst (AreEndable (loans l)) split all))

    pub rest_ends : (l m : Ledger) → m ≡ end_loan h.msg.number l
        → end_loans (is_number_in (messages_at (seat_of new k))) m ≡ end_loans (is_number_in (messages_at (seat_of old k))) l
    rest_ends l m e =
        ap (end_loans (is_number_in (messages_at (seat_of new k)))) e ∙ ends_more h (messages_at (seat_of new k)) l
        ∙ ap (λ hs. end_loans (is_number_in hs) l) (sym split)

    pub rest_noted : (before after : ThreadSet) → after ≡ with_sender h.msg.sender before
        → with_senders (messages_at (seat_of new k)) after ≡ with_senders (messages_at (seat_of old k)) before
    rest_noted before after e =
        ap (with_senders (messages_at (seat_of new k))) e ∙ senders_more h (messages_at (seat_of new k)) before
        ∙ ap (λ hs. with_senders hs before) (sym split)

-- none is left
pub nothing_ends : (hs : List Held) (l m : Ledger) → slice_get hs 0 ≡ None → end_loans (is_number_in hs) l ≡ m → l ≡ m
nothing_ends hs l m none e =
    sym (none_ends (is_number_in []) (λ n. refl) l) ∙ ap (λ xs. end_loans (is_number_in xs) l) (sym (none_first hs none)) ∙ e

pub nobody_more : (hs : List Held) (before after : ThreadSet) → slice_get hs 0 ≡ None → with_senders hs before ≡ after → before ≡ after
nobody_more hs before after none e =
    (λ i id. or_false (before id) i) ∙ ap (λ xs. with_senders xs before) (sym (none_first hs none)) ∙ e
  where
    or_false : (b : Bool) → b ≡ (b || false)
    or_false true = refl
    or_false false = refl
