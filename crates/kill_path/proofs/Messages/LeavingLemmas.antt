-- The first held message of a number: its place, and what is there once it is left alone.
use Rattle.std.proofs.Common.{◌≡◌, ℕ, zero, suc, ◌+◌, ◌<◌, ◌≤◌, Bool, true, false, List, [], ◌∷◌, cond, length, set, Option, Some, None, refl, sym, ap, ◌∙◌, arith, inl, inr}
use Rattle.std.specs.Prelude.{IsSome, if◌then◌else◌, is_some, not, slice_get}
use Rattle.std.specs.List.{insert, remove}
use Rattle.std.specs.Option.{option_and_then, option_map, option_or}
use Rattle.std.proofs.lemmas.Bool.{false≢true}
use Rattle.std.proofs.lemmas.Option.{none-some, same_Some}
use Rattle.ledger_model.proofs.LedgerLemmas.{cases_Option, lender_of-loan, loan_at-page, same_ledger, same_number-true}
use Rattle.ledger_model.specs.Ledger.{Ledger, Page, PageLoan, loan_at, loan_of}
use Rattle.ledger_model.specs.Loans.{IsFresh, loans, of_number as loan_of_number, same_number}
use Rattle.ledger_model.specs.Reach.{lender_of}
use Rattle.ledger_model.specs.Steps.{orphan_from, orphan_loan, orphan_with, page_without}
use Rattle.msg_queue.specs.Seats.{Seat, changed_at, is_of_number, of_number, place_found, message_place, seat_of, used_of, with_held_at, without_held}
use Rattle.msg_queue.specs.declared.held.Held.{Held}
use Rattle.send_path.proofs.Servers.SeatLemmas.{changed_twice, seat_changed}
use Rattle.xk_base.specs.declared.ids.Number.{Number}
use Rattle.xk_base.specs.declared.ids.Place.{Place}
use Rattle.kill_path.specs.Leaving.{alone, first_alone, with_alone}

-- ---- nothing becomes an orphan by a number by which nothing is on loan

module _ (procs : ℕ) (number : Number) (l : Ledger) (fresh : IsFresh (loans l) number) where
  other_number : (loan : PageLoan) (p : Place) → loan_at l p ≡ Some loan → same_number loan.number number ≡ false
  unfolding loans
  other_number loan p e = go (same_number loan.number number) refl (ap (loan_of_number number) (sym e) ∙ fresh.homes p)
    where
      go : (b : Bool) → same_number loan.number number ≡ b → (if b then Some loan else None) ≡ None → b ≡ false
      go true q r = absurd (none-some loan (sym r))
      go false q r = refl

  home_stays : (p : Place) (o : Option Page) → l.home p ≡ o → page_without number o ≡ o
  home_stays p None e = refl
  home_stays p (Some page) e = by_loan page.loan refl
    where
      by_loan : (o : Option PageLoan) → page.loan ≡ o → page_without number (Some page) ≡ Some page
      by_loan None q = (λ i. page_without number (Some (record page { loan = q i }))) ∙ (λ i. Some (record page { loan = sym q i }))
      by_loan (Some loan) q =
          (λ i. page_without number (Some (record page { loan = q i })))
          ∙ ap (λ b. if b then None else Some (record page { loan = Some loan })) (other_number loan p (ap loan_of e ∙ q))
          ∙ (λ i. Some (record page { loan = sym q i }))

  nothing_new : (q : Place) → option_and_then (orphan_from number) (option_and_then l.home (lender_of procs l q)) ≡ None
  nothing_new q = elim (cases_Option (lender_of procs l q)) [
    | inl none ↦ ap (λ o. option_and_then (orphan_from number) (option_and_then l.home o)) none
    | inr found ↦
        let lent : (loan : PageLoan) × (loan_at l found.0 ≡ Some loan) × (loan.holder ≡ q) = lender_of-loan procs l q found.0 found.1 in
        let home : (page : Page) × (l.home found.0 ≡ Some page) × (page.loan ≡ Some lent.0) = loan_at-page l found.0 lent.0 lent.1 in
        ap (λ o. option_and_then (orphan_from number) (option_and_then l.home o)) found.1
        ∙ ap (option_and_then (orphan_from number)) home.1
        ∙ ap (option_and_then (λ x. if same_number x.number number then orphan_with x home.0.contents else None)) home.2
        ∙ ap (λ b. if b then orphan_with lent.0 home.0.contents else None) (other_number lent.0 found.0 lent.1)
  ]

  pub fresh_orphans : orphan_loan procs number l ≡ l
  unfolding orphan_loan
  fresh_orphans =
      same_ledger (orphan_loan procs number l) l (λ p. home_stays p (l.home p) refl)
      (λ q. ap (λ o. option_or o (l.orphan q)) (nothing_new q))

-- ---- the place of the first of a number

pub record IsPlaced (number : Number) (hs : List Held) : Type 0 where
  pub message : Held
  pub found : of_number number hs ≡ Some message
  pub at : slice_get hs (message_place number hs) ≡ Some message
  pub within : message_place number hs < length hs
  pub its : is_of_number number message ≡ true

pub placed : (number : Number) (hs : List Held) → IsSome (of_number number hs) → IsPlaced number hs
placed number [] e = absurd (false≢true e)
placed number (h ∷ hs) e = go (is_of_number number h) refl (λ later. placed number hs later) e
  where
    go : (b : Bool) → is_of_number number h ≡ b → (IsSome (of_number number hs) → IsPlaced number hs)
        → is_some (cond b (Some h) (of_number number hs)) ≡ true → IsPlaced number (h ∷ hs)
    go true q rest r =
        let none : message_place number (h ∷ hs) ≡ 0 = ap (λ b. cond (not b) (1 + message_place number hs) 0) q in
        record {
          message = h;
          found = ap (λ b. cond b (Some h) (of_number number hs)) q;
          at = ap (slice_get (h ∷ hs)) none;
          within = omega arith;
          its = q;
        }
    go false q rest r =
        let later : IsPlaced number hs = rest r in
        let one : 1 + message_place number hs ≡ suc (message_place number hs) = omega arith in
        let next : message_place number (h ∷ hs) ≡ suc (message_place number hs) = ap (λ b. cond (not b) (1 + message_place number hs) 0) q ∙ one in
        let low : message_place number hs < length hs = later.within in
        record {
          message = later.message;
          found = ap (λ b. cond b (Some h) (of_number number hs)) q ∙ later.found;
          at = ap (slice_get (h ∷ hs)) next ∙ later.at;
          within = omega arith;
          its = later.its;
        }

pub place_is : (number : Number) (hs : List Held) (h : Held) (place : ℕ) → of_number number hs ≡ Some h → place_found number hs ≡ Some place
    → place ≡ message_place number hs
place_is number hs h place found e =
    sym (same_Some (message_place number hs) place (sym (ap (option_map (λ (x : Held). message_place number hs)) found) ∙ e))

-- the number of what is found
pub found_number : (number : Number) (hs : List Held) (h : Held) → of_number number hs ≡ Some h → h.msg.number ≡ number
found_number number hs h e =
    let p : IsPlaced number hs = placed number hs (ap is_some e) in
    ap (λ (x : Held). x.msg.number) (sym (same_Some p.message h (sym p.found ∙ e))) ∙ same_number-true p.message.msg.number number p.its

-- ---- taken out and put back

pub put_back : (number : Number) (hs : List Held) (h : Held) → of_number number hs ≡ Some h
    → insert (remove hs (message_place number hs)) (message_place number hs) (alone h) ≡ first_alone number hs
put_back number [] h e = absurd (none-some h e)
put_back number (x ∷ xs) h e = go (is_of_number number x) refl (λ later. put_back number xs h later) e
  where
    go : (b : Bool) → is_of_number number x ≡ b
        → (of_number number xs ≡ Some h → insert (remove xs (message_place number xs)) (message_place number xs) (alone h) ≡ first_alone number xs)
        → cond b (Some x) (of_number number xs) ≡ Some h
        → insert (remove (x ∷ xs) (cond (not b) (1 + message_place number xs) 0)) (cond (not b) (1 + message_place number xs) 0) (alone h)
        ≡ (if b then alone x ∷ xs else x ∷ first_alone number xs)
    go true q rest r = ap (λ y. alone y ∷ xs) (sym (same_Some x h r))
    go false q rest r =
        let next : 1 + message_place number xs ≡ suc (message_place number xs) = omega arith in
        ap (λ k. insert (remove (x ∷ xs) k) k (alone h)) next ∙ ap (λ ys. x ∷ ys) (rest r)

pub fewer_held : (hs : List Held) (place : ℕ) → place < length hs → length (remove hs place) < length hs
fewer_held [] place low = absurd (omega arith)
fewer_held (h ∷ hs) zero low = omega arith
fewer_held (h ∷ hs) (suc place) low = let rest : length (remove hs place) < length hs = fewer_held hs place (omega arith) in omega arith

-- ---- at a seat

module _ (seats : List Seat) (k : ℕ) (there : k < length seats) (number : Number) (h : Held) (found : of_number number (seat_of seats k).held ≡ Some h)
    (new : List Seat) (taken : new ≡ changed_at k (without_held number) seats) where
  abbrev seat : Seat
  seat = seat_of seats k

  its_place : IsPlaced number seat.held
  its_place = placed number seat.held (ap is_some found)

  left_there : seat_of new k ≡ without_held number seat
  left_there = ap (λ (q : List Seat). seat_of q k) taken ∙ seat_changed seats k (without_held number) there

  pub room_there : used_of seat ≤ 128 → used_of (seat_of new k) < 128
  room_there few =
      let same : used_of (seat_of new k) ≡ length seat.queued + length (remove seat.held (message_place number seat.held)) = ap used_of left_there in
      let fewer : length (remove seat.held (message_place number seat.held)) < length seat.held = fewer_held seat.held (message_place number seat.held) its_place.within in
      omega arith

  pub place_there : (place : ℕ) → place ≡ message_place number seat.held → place ≤ length (seat_of new k).held
  place_there place is =
      let same : length (seat_of new k).held ≡ length (remove seat.held (message_place number seat.held)) = ap (λ (s : Seat). length s.held) left_there in
      let fewer : length seat.held ≡ suc (length (remove seat.held (message_place number seat.held))) = one_fewer seat.held (message_place number seat.held) its_place.within in
      let low : message_place number seat.held < length seat.held = its_place.within in
      omega arith
    where
      one_fewer : (hs : List Held) (place : ℕ) → place < length hs → length hs ≡ suc (length (remove hs place))
      one_fewer [] p l = absurd (omega arith)
      one_fewer (x ∷ xs) zero l = refl
      one_fewer (x ∷ xs) (suc p) l = let rest : length xs ≡ suc (length (remove xs p)) = one_fewer xs p (omega arith) in omega arith

  pub left_alone_there : (place : ℕ) (left : Held) (last : List Seat) → place ≡ message_place number seat.held → left ≡ alone h
      → last ≡ changed_at k (with_held_at place left) new → last ≡ changed_at k (with_alone number) seats
  left_alone_there place left last is same put =
      put ∙ ap (changed_at k (with_held_at place left)) taken ∙ changed_twice seats k (without_held number) (with_held_at place left) there
      ∙ ap (λ s. set seats k s) (λ i. record seat {
        held = (
            (λ j. insert (remove seat.held (message_place number seat.held)) (is j) (same j)) ∙ put_back number seat.held h found
            ) i;
      })
