-- What the steps of the ledger leave of a number: all of it where each place is as it was or without a loan before and after; and
-- steps of one number leave every other.
use Rattle.std.proofs.Common.{◌≡◌, ℕ, Bool, true, false, Option, Some, None, refl, sym, ap, ◌∙◌}
use Rattle.std.specs.Prelude.{◌==◌, if◌then◌else◌}
use Rattle.std.specs.Option.{option_and_then, option_map, option_or}
use Rattle.std.proofs.lemmas.Bool.{false≢true}
use Rattle.xk_base.specs.declared.ids.Number.{Number}
use Rattle.xk_base.specs.declared.ids.Pid.{Pid}
use Rattle.xk_base.specs.declared.ids.Place.{Place}
use Rattle.xk_base.specs.declared.pages.LoanKind.{LoanKind}
use Rattle.xk_base.specs.declared.pages.Right.{Right}
use Rattle.ledger_model.specs.Conditions.{is_lent}
use Rattle.ledger_model.specs.Lawful.{IsLawful}
use Rattle.ledger_model.specs.Ledger.{Contents, Console, Bytes, Ledger, Orphan, Page, PageLoan, loan_at}
use Rattle.ledger_model.specs.Loans.{same_number}
use Rattle.ledger_model.specs.Places.{in_run, moved, same_place}
use Rattle.ledger_model.specs.Reach.{is_free, lender_of}
use Rattle.ledger_model.specs.Steps.{forget, give, has_number, lend, make, make_console, new_page, orphan_with, pass, passed, passed_loan, reduce, remove, with_loan, with_right, zero_page}
use Rattle.ledger_model.proofs.LedgerLemmas.{is_free-true, lender_of-loan, same_number-true}
use Rattle.ledger_model.proofs.PlaceLemmas.{moved-in_run}
use Rattle.machine_model.specs.Messaging.LoanSets.{end_loans, freed_but, loan_but, orphan_but, orphan_loans, orphan_of_page, is_lent_by, page_but}
use Rattle.loan_laws.specs.Leaving.{Leaves, orphan_of, lent_page_of}
use Rattle.loan_laws.proofs.Leaving.NumberPageLemmas.{unlent_of_none}

-- ---- places that are as they were, or without a loan before and after

-- the place is as it was, or there is no loan before and after
pub data IsAlike (before after : Option Page) : Type 0 where
  Same : after ≡ before → IsAlike before after
  Unlent : is_lent before ≡ false → is_lent after ≡ false → IsAlike before after

alike_of : (number : Number) (before after : Option Page) → IsAlike before after → lent_page_of number after ≡ lent_page_of number before
alike_of number before after (Same e) = ap (lent_page_of number) e
alike_of number before after (Unlent a b) = unlent_of_none number after b ∙ sym (unlent_of_none number before a)

pub leaves_alike : (number : Number) (l m : Ledger) → ((p : Place) → IsAlike (l.home p) (m.home p))
    → ((p : Place) → m.orphan p ≡ l.orphan p) → Leaves number l m
leaves_alike number l m homes orphans = record {
  homes = λ p. alike_of number (l.home p) (m.home p) (homes p);
  orphans = λ p. ap (orphan_of number) (orphans p);
}

-- a free place has no page on loan
pub free_unlent : (procs : ℕ) (l : Ledger) (p : Place) → is_free procs l p ≡ true → is_lent (l.home p) ≡ false
free_unlent procs l p e = ap is_lent (is_free-true procs l p e).home

module _ (number : Number) (procs : ℕ) (l : Ledger) where
  pub make_leaves : (first : Place) (n : ℕ) (right : Right) → ((p : Place) → in_run first n p ≡ true → is_lent (l.home p) ≡ false)
      → Leaves number l (make first n right l)
  unfolding make
  make_leaves first n right free = leaves_alike number l (make first n right l) (λ p. go p (in_run first n p) refl) (λ p. refl)
    where
      go : (p : Place) (b : Bool) → in_run first n p ≡ b
          → IsAlike (l.home p) (if b then Some (new_page right (Bytes zero_page)) else l.home p)
      go p true e = Unlent (free p e) refl
      go p false e = Same refl

  pub console_leaves : (place : Place) (w : Bool) → ((p : Place) → same_place p place ≡ true → is_lent (l.home p) ≡ false)
      → Leaves number l (make_console place w l)
  unfolding make_console
  console_leaves place w free = leaves_alike number l (make_console place w l) (λ p. go p (same_place p place) refl) (λ p. refl)
    where
      go : (p : Place) (b : Bool) → same_place p place ≡ b
          → IsAlike (l.home p) (if b then Some (new_page (record { w = w; x = false }) Console) else l.home p)
      go p true e = Unlent (free p e) refl
      go p false e = Same refl

  pub remove_leaves : (places : Place → Bool) → ((p : Place) → places p ≡ true → is_lent (l.home p) ≡ false)
      → Leaves number l (remove places l)
  unfolding remove
  remove_leaves places free = leaves_alike number l (remove places l) (λ p. go p (places p) refl) (λ p. refl)
    where
      go : (p : Place) (b : Bool) → places p ≡ b → IsAlike (l.home p) (if b then None else l.home p)
      go p true e = Unlent (free p e) refl
      go p false e = Same refl

  pub reduce_leaves : (places : Place → Bool) (right : Right) → ((p : Place) → places p ≡ true → is_lent (l.home p) ≡ false)
      → Leaves number l (reduce places right l)
  unfolding reduce
  reduce_leaves places right free = leaves_alike number l (reduce places right l) (λ p. go p (places p) refl) (λ p. refl)
    where
      lent_right : (o : Option Page) → is_lent (option_map (with_right right) o) ≡ is_lent o
      lent_right None = refl
      lent_right (Some page) = refl

      go : (p : Place) (b : Bool) → places p ≡ b → IsAlike (l.home p) (if b then option_map (with_right right) (l.home p) else l.home p)
      go p true e = Unlent (free p e) (lent_right (l.home p) ∙ free p e)
      go p false e = Same refl

  pub forget_leaves : (pid : Pid) → ((p : Place) → (p.pid.0 == pid.0) ≡ true → is_lent (l.home p) ≡ false) → Leaves number l (forget pid l)
  unfolding forget
  forget_leaves pid free = leaves_alike number l (forget pid l) (λ p. go p (p.pid.0 == pid.0) refl) (λ p. refl)
    where
      go : (p : Place) (b : Bool) → (p.pid.0 == pid.0) ≡ b → IsAlike (l.home p) (if b then None else l.home p)
      go p true e = Unlent (free p e) refl
      go p false e = Same refl

  pub give_leaves : (from : Place) (n : ℕ) (to : Place) → ((p : Place) → in_run from n p ≡ true → is_lent (l.home p) ≡ false)
      → ((p : Place) → in_run to n p ≡ true → is_lent (l.home p) ≡ false) → Leaves number l (give from n to l)
  unfolding give
  give_leaves from n to movable free = leaves_alike number l (give from n to l) (λ p. go p (in_run to n p) (in_run from n p) refl refl) (λ p. refl)
    where
      go : (p : Place) (b c : Bool) → in_run to n p ≡ b → in_run from n p ≡ c
          → IsAlike (l.home p) (if b then l.home (moved to from p) else (if c then None else l.home p))
      go p true c e f = Unlent (free p e) (movable (moved to from p) (moved-in_run to from p n e))
      go p false true e f = Unlent (movable p f) refl
      go p false false e f = Same refl

  -- a lend leaves each other number
  pub lend_leaves : (from : Place) (n : ℕ) (to : Place) (kind : LoanKind) (new : Number) → same_number new number ≡ false
      → ((p : Place) → in_run from n p ≡ true → is_lent (l.home p) ≡ false) → Leaves number l (lend from n to kind new l)
  unfolding lend
  lend_leaves from n to kind new other unlent = record { homes = λ p. go p (in_run from n p) refl; orphans = λ p. refl }
    where
      lent : (p : Place) (o : Option Page) → is_lent o ≡ false
          → lent_page_of number (option_map (with_loan (record { holder = moved from to p; kind = kind; number = new })) o) ≡ lent_page_of number o
      lent p None e = refl
      lent p (Some page) e =
          ap (λ b. if b then Some (with_loan (record { holder = moved from to p; kind = kind; number = new }) page) else None) other
          ∙ sym (unlent_of_none number (Some page) e)

      go : (p : Place) (b : Bool) → in_run from n p ≡ b
          → lent_page_of number (if b then option_map (with_loan (record { holder = moved from to p; kind = kind; number = new })) (l.home p) else l.home p)
          ≡ lent_page_of number (l.home p)
      go p true e = lent p (l.home p) (unlent p e)
      go p false e = refl

-- ---- a pass leaves each other number

pub pass_leaves : (number other : Number) (from to : Place) (l : Ledger) → same_number other number ≡ false
    → Leaves number l (pass other from to l)
unfolding pass
pass_leaves number other from to l apart = record { homes = λ p. of_page (l.home p); orphans = λ p. refl }
  where
    by : (page : Page) (x : PageLoan) → page.loan ≡ Some x → (b : Bool) → same_number x.number other ≡ b
        → lent_page_of number (Some (record page { loan = Some (if b then record x { holder = moved from to x.holder } else x) }))
        ≡ (if same_number x.number number then Some page else None)
    by page x e false f = ap (λ o. if same_number x.number number then Some (record page { loan = o }) else None) (sym e)
    by page x e true f =
        let none : same_number x.number number ≡ false =
        ap (λ (k : Number). same_number k number) (same_number-true x.number other f) ∙ apart in
        ap (λ b. if b then Some (record page { loan = Some (record x { holder = moved from to x.holder }) }) else None) none
        ∙ sym (ap (λ b. if b then Some page else None) none)

    loaned : (page : Page) (o : Option PageLoan) → page.loan ≡ o
        → lent_page_of number (Some (record page { loan = option_map (passed_loan other from to) o }))
        ≡ (if has_number number o then Some page else None)
    loaned page None e = refl
    loaned page (Some x) e = by page x e (same_number x.number other) refl

    of_page : (o : Option Page) → lent_page_of number (option_map (passed other from to) o) ≡ lent_page_of number o
    of_page None = refl
    of_page (Some page) = loaned page page.loan refl

-- ---- sets of numbers leave each number outside

module _ (number : Number) (set : Number → Bool) (outside : set number ≡ false) where
  not_in_set : (k : Number) → same_number k number ≡ true → set k ≡ false
  not_in_set k e = ap set (same_number-true k number e) ∙ outside

  freed_of : (page : Page) (o : Option PageLoan) → page.loan ≡ o
      → lent_page_of number (Some (record page { loan = loan_but set o })) ≡ (if has_number number o then Some page else None)
  freed_of page None e = refl
  freed_of page (Some x) e = go (set x.number) refl (same_number x.number number) refl
    where
      go : (b : Bool) → set x.number ≡ b → (c : Bool) → same_number x.number number ≡ c
          → lent_page_of number (Some (record page { loan = if b then None else Some x })) ≡ (if c then Some page else None)
      go true s true f = absurd (false≢true (sym (not_in_set x.number f) ∙ s))
      go true s false f = refl
      go false s c f =
          ap (λ b. if b then Some (record page { loan = Some x }) else None) f
          ∙ ap (λ o. if c then Some (record page { loan = o }) else None) (sym e)

  freed_page : (o : Option Page) → lent_page_of number (option_map (freed_but set) o) ≡ lent_page_of number o
  freed_page None = refl
  freed_page (Some page) = freed_of page page.loan refl

  freed_orphan : (o : Option Orphan) → orphan_of number (orphan_but set o) ≡ orphan_of number o
  freed_orphan None = refl
  freed_orphan (Some x) = go (set x.number) refl (same_number x.number number) refl
    where
      go : (b : Bool) → set x.number ≡ b → (c : Bool) → same_number x.number number ≡ c
          → orphan_of number (if b then None else Some x) ≡ (if c then Some x else None)
      go true s true f = absurd (false≢true (sym (not_in_set x.number f) ∙ s))
      go true s false f = refl
      go false s c f = ap (λ b. if b then Some x else None) f

  pub ends_leave : (l : Ledger) → Leaves number l (end_loans set l)
  unfolding end_loans
  ends_leave l = record { homes = λ p. freed_page (l.home p); orphans = λ p. freed_orphan (l.orphan p) }

  gone_of : (page : Page) (o : Option PageLoan) → page.loan ≡ o
      → lent_page_of number (if is_lent_by set o then None else Some page) ≡ (if has_number number o then Some page else None)
  gone_of page None e = ap (λ o. if has_number number o then Some page else None) e
  gone_of page (Some x) e = go (set x.number) refl (same_number x.number number) refl
    where
      go : (b : Bool) → set x.number ≡ b → (c : Bool) → same_number x.number number ≡ c
          → lent_page_of number (if b then None else Some page) ≡ (if c then Some page else None)
      go true s true f = absurd (false≢true (sym (not_in_set x.number f) ∙ s))
      go true s false f = refl
      go false s c f = ap (λ o. if has_number number o then Some page else None) e ∙ ap (λ b. if b then Some page else None) f

  gone_page : (o : Option Page) → lent_page_of number (page_but set o) ≡ lent_page_of number o
  gone_page None = refl
  gone_page (Some page) = gone_of page page.loan refl

  -- an orphan that is made stands where none was, and is of the set
  made_of : (page : Page) (o : Option PageLoan) (c : Contents)
      → orphan_of number (option_and_then (λ loan. if set loan.number then orphan_with loan c else None) o) ≡ None
  made_of page None c = refl
  made_of page (Some x) c = go (set x.number) refl c
    where
      go : (b : Bool) → set x.number ≡ b → (c : Contents) → orphan_of number (if b then orphan_with x c else None) ≡ None
      go false s c = refl
      go true s Console = refl
      go true s (Bytes bytes) = by (record { kind = x.kind; bytes = bytes; number = x.number }) (same_number x.number number) refl
        where
          by : (z : Orphan) (d : Bool) → same_number x.number number ≡ d → (if d then Some z else None) ≡ None
          by z true f = absurd (false≢true (sym (not_in_set x.number f) ∙ s))
          by z false f = refl

  made_or : (x y : Option Orphan) → orphan_of number x ≡ None → ((z : Orphan) → x ≡ Some z → y ≡ None)
      → orphan_of number (option_or x y) ≡ orphan_of number y
  made_or None y none only = refl
  made_or (Some z) y none only = none ∙ sym (ap (orphan_of number) (only z refl))

  pub orphans_leave : (procs capacity : ℕ) (l : Ledger) → IsLawful procs capacity l → Leaves number l (orphan_loans procs set l)
  unfolding orphan_loans
  orphans_leave procs capacity l lawful = record {
    homes = λ p. gone_page (l.home p);
    orphans = λ q. at q (lender_of procs l q) refl;
  }
    where
      none_there : (q p : Place) → lender_of procs l q ≡ Some p → l.orphan q ≡ None
      none_there q p e =
          let lent : (loan : PageLoan) × (loan_at l p ≡ Some loan) × (loan.holder ≡ q) = lender_of-loan procs l q p e in
          ap l.orphan (sym lent.2) ∙ lawful.holder_no_orphan p lent.0 lent.1

      made_from : (o : Option Page) → orphan_of number (option_and_then (orphan_of_page set) o) ≡ None
      made_from None = refl
      made_from (Some page) = made_of page page.loan page.contents

      at : (q : Place) (o : Option Place) → lender_of procs l q ≡ o
          → orphan_of number (option_or (option_and_then (orphan_of_page set) (option_and_then l.home o)) (l.orphan q))
          ≡ orphan_of number (l.orphan q)
      at q None e = refl
      at q (Some p) e =
          made_or (option_and_then (orphan_of_page set) (l.home p)) (l.orphan q) (made_from (l.home p)) (λ z f. none_there q p e)
