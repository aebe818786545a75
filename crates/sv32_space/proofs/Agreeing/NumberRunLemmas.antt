-- The end of a loan and of an orphan, and the making of orphans, as steps over the places of the loan.
use Rattle.std.proofs.Common.{◌≡◌, ◌≢◌, ℕ, if◌then◌else◌, true, false, Option, Some, None, refl, sym, ap, subst, ◌∙◌, inl, inr}
use Rattle.std.specs.Option.{option_and_then, option_map, option_or}
use Rattle.std.proofs.lemmas.Bool.{cases_Bool, cond-true, cond-false, both_ways}
use Rattle.std.proofs.lemmas.Option.{none-some, same_Some}
use Rattle.xk_base.specs.declared.ids.Number.{Number}
use Rattle.xk_base.specs.declared.ids.Place.{Place}
use Rattle.ledger_model.specs.Ledger.{Ledger, Page, PageLoan, Orphan, loan_at, loan_of}
use Rattle.ledger_model.specs.Loans.{loans, LoanRun, Stands, of_number, orphan_of_number, loan_of_run, orphan_loan_at, same_number}
use Rattle.ledger_model.specs.Places.{in_run, moved}
use Rattle.ledger_model.specs.Reach.{is_held_at, lender_of}
use Rattle.ledger_model.specs.Steps.{end_loan, freed, loan_without, orphan_without, orphan_loan, orphan_from, orphan_with, page_without, pass, passed, passed_loan}
use Rattle.ledger_model.proofs.LedgerLemmas.{same_ledger, same_number-at, loan_at-page, loan_at-home, is_held_at-true, is_held_at-Some}
use Rattle.ledger_model.proofs.Loans.NumberingLemmas.{first_place-only}
use Rattle.ledger_model.proofs.Loans.OfNumberLemmas.{of_number-at, loan_without-None, orphan_without-None, orphan_without-at, stands-home, stands-orphan, loan_of_run-outside, loan_of_run-None, orphan_of_run-lent, orphan_of_run-outside}
use Rattle.ledger_model.proofs.Stepping.OrphaningLemmas.{orphan_loan_home, orphan_loan_orphan, orphan_loan_kept, page_without-gone, page_without-stays, made, none_made, Source}
use Rattle.ledger_model.proofs.Stepping.PassingLemmas.{moved-moved, pass_home, pass_orphan, pass_outside, passed_loan-at}
use Rattle.ledger_model.proofs.PlaceLemmas.{moved-in_run, moved-back}
use Rattle.sv32_space.specs.EntryLedger.{IsWellPlaced}
use Rattle.sv32_space.specs.PageSteps.{end_at, without_loan, forget_orphans, loan_held_at, orphan_run, orphan_of_page, page_held_at, pass_run}

-- a page whose loan is of the number, and one whose loan isn't
freed-at : (number : Number) (o : Option Page) (x : PageLoan) → loan_of o ≡ Some x → x.number ≡ number
    → option_map (freed number) o ≡ option_map without_loan o
freed-at number None x e n = refl
freed-at number (Some page) x e n = ap (λ k. Some (record page { loan = k }))
    (ap (loan_without number) e ∙ cond-true (same_number x.number number) None (Some x) (same_number-at x.number number n))

freed-stays : (number : Number) (o : Option Page) → of_number number (loan_of o) ≡ None → option_map (freed number) o ≡ o
freed-stays number None e = refl
freed-stays number (Some page) e = ap (λ k. Some (record page { loan = k })) (loan_without-None number page.loan e)

-- the lender of a holder's place is the home of its page
pub lender_at : (procs : ℕ) (l : Ledger) (p : Place) (x : PageLoan) → IsWellPlaced procs l → loan_at l p ≡ Some x
    → lender_of procs l x.holder ≡ Some p
unfolding lender_of
lender_at procs l p x placed a =
    let home : (page : Page) × (l.home p ≡ Some page) × (page.loan ≡ Some x) = loan_at-page l p x a in
    first_place-only procs (λ q. is_held_at x.holder (loan_at l q)) p (placed.home_lies p home.0 home.1)
    (is_held_at-Some x.holder (loan_at l p) x a refl)
    (λ q t. let y : (b : PageLoan) × (loan_at l q ≡ Some b) × (b.holder ≡ x.holder) = is_held_at-true x.holder (loan_at l q) t in placed.holders_differ q p y.0 x y.1 a y.2)

module _ (l : Ledger) (r : LoanRun) (h : Stands (loans l) r) where
  -- what the loan has at each place
  homes_of : (p : Place) → of_number r.number (loan_at l p) ≡ loan_of_run r p
  unfolding loans
  homes_of p = h.homes p

  loan_home : (from p : Place) → r.lender ≡ Some from → in_run from r.count p ≡ true
      → loan_at l p ≡ Some (record { holder = moved from r.holder p; kind = r.kind; number = r.number })
  unfolding loans
  loan_home from p e t = stands-home (loans l) r from p h e t

  no_orphan_of : (q : Place) → r.lender ≢ None → orphan_of_number r.number (orphan_loan_at l q) ≡ None
  unfolding loans
  no_orphan_of q ne = by_lender r.lender refl
    where
      by_lender : (o : Option Place) → r.lender ≡ o → orphan_of_number r.number (orphan_loan_at l q) ≡ None
      by_lender None e = absurd (ne e)
      by_lender (Some from) e = h.orphans q ∙ orphan_of_run-lent r from q e

  lent_some : (from : Place) → r.lender ≡ Some from → r.lender ≢ None
  lent_some from e n = none-some from (sym n ∙ e)

  -- the loan of a lender, page by page
  pub end_lent : (from : Place) → r.lender ≡ Some from → end_at (in_run from r.count) l ≡ end_loan r.number l
  unfolding end_at end_loan
  end_lent from e = same_ledger (end_at (in_run from r.count) l) (end_loan r.number l) homes
      (λ q. sym (orphan_without-None r.number (l.orphan q) (no_orphan_of q (lent_some from e))))
    where
      homes : (p : Place) → (if in_run from r.count p then option_map without_loan (l.home p) else l.home p) ≡ option_map (freed r.number) (l.home p)
      homes p = elim (cases_Bool (in_run from r.count p)) [
        | inl t ↦ cond-true (in_run from r.count p) (option_map without_loan (l.home p)) (l.home p) t
            ∙ sym (freed-at r.number (l.home p) (record { holder = moved from r.holder p; kind = r.kind; number = r.number }) (loan_home from p e t) refl)
        | inr f ↦ cond-false (in_run from r.count p) (option_map without_loan (l.home p)) (l.home p) f
            ∙ sym (freed-stays r.number (l.home p) (homes_of p ∙ loan_of_run-outside r from p e f))
      ]

  -- its passing on, page by page
  passed_at : (to from p : Place) (o : Option Page) (x : PageLoan) → loan_of o ≡ Some x → x.number ≡ r.number → x.holder ≡ moved from r.holder p
      → option_map (page_held_at (moved from to p)) o ≡ option_map (passed r.number r.holder to) o
  passed_at to from p None x e n same = refl
  passed_at to from p (Some page) x e n same = ap (λ k. Some (record page { loan = k }))
      (ap (option_map (loan_held_at (moved from to p))) e
      ∙ (ap (λ q. Some (loan_held_at q x)) (sym (moved-moved from r.holder to p) ∙ ap (moved r.holder to) (sym same))
      ∙ (ap Some (sym (passed_loan-at r.number r.holder to x n)) ∙ sym (ap (option_map (passed_loan r.number r.holder to)) e))))

  pub pass_lent : (from to : Place) → r.lender ≡ Some from → pass_run from r.count to l ≡ pass r.number r.holder to l
  unfolding pass_run
  pass_lent from to e = same_ledger (pass_run from r.count to l) (pass r.number r.holder to l) homes (λ q. sym (pass_orphan r.number r.holder to l q))
    where
      homes : (p : Place) → (if in_run from r.count p then option_map (page_held_at (moved from to p)) (l.home p) else l.home p) ≡ (pass r.number r.holder to l).home p
      homes p = elim (cases_Bool (in_run from r.count p)) [
        | inl t ↦ cond-true (in_run from r.count p) (option_map (page_held_at (moved from to p)) (l.home p)) (l.home p) t
            ∙ (passed_at to from p (l.home p) (record { holder = moved from r.holder p; kind = r.kind; number = r.number }) (loan_home from p e t) refl refl
            ∙ sym (pass_home r.number r.holder to l p))
        | inr f ↦ cond-false (in_run from r.count p) (option_map (page_held_at (moved from to p)) (l.home p)) (l.home p) f
            ∙ sym (pass_outside r.number r.holder to l p (homes_of p ∙ loan_of_run-outside r from p e f))
      ]

  -- the orphans of a loan without a lender
  pub end_orphaned : r.lender ≡ None → forget_orphans (in_run r.holder r.count) l ≡ end_loan r.number l
  unfolding forget_orphans end_loan loans
  end_orphaned e = same_ledger (forget_orphans (in_run r.holder r.count) l) (end_loan r.number l)
      (λ p. sym (freed-stays r.number (l.home p) (homes_of p ∙ loan_of_run-None r p e))) orphans
    where
      orphans : (q : Place) → (if in_run r.holder r.count q then None else l.orphan q) ≡ orphan_without r.number (l.orphan q)
      orphans q = elim (cases_Bool (in_run r.holder r.count q)) [
        | inl t ↦
            let o : (o : Orphan) × (l.orphan q ≡ Some o) × (o.kind ≡ r.kind) × (o.number ≡ r.number) = stands-orphan l r q h e t in
            cond-true (in_run r.holder r.count q) None (l.orphan q) t ∙ sym (ap (orphan_without r.number) o.1 ∙ orphan_without-at r.number o.0 o.3)
        | inr f ↦ cond-false (in_run r.holder r.count q) None (l.orphan q) f
            ∙ sym (orphan_without-None r.number (l.orphan q) (h.orphans q ∙ orphan_of_run-outside r q f))
      ]

  -- ---- orphans

  module _ (procs : ℕ) (placed : IsWellPlaced procs l) (from : Place) (e : r.lender ≡ Some from) where
    from_page : (o : Option Page) (x : PageLoan) → loan_of o ≡ Some x → x.number ≡ r.number
        → option_and_then (orphan_from r.number) o ≡ option_and_then orphan_of_page o
    from_page None x a n = refl
    from_page (Some page) x a n =
        ap (λ k. option_and_then (λ y. if same_number y.number r.number then orphan_with y page.contents else None) k) a
        ∙ (cond-true (same_number x.number r.number) (orphan_with x page.contents) None (same_number-at x.number r.number n)
        ∙ sym (ap (λ k. option_and_then (λ y. orphan_with y page.contents) k) a))

    or_none : (o : Option Orphan) (x : Option Orphan) → x ≡ None → option_or o x ≡ o
    or_none None x a = a
    or_none (Some y) x a = refl

    homes : (p : Place) → (orphan_run from r.count r.holder l).home p ≡ (orphan_loan procs r.number l).home p
    unfolding orphan_run
    homes p = elim (cases_Bool (in_run from r.count p)) [
      | inl t ↦
          let a : loan_at l p ≡ Some (record { holder = moved from r.holder p; kind = r.kind; number = r.number }) = loan_home from p e t in
          let page : (page : Page) × (l.home p ≡ Some page) × (page.loan ≡ Some (record { holder = moved from r.holder p; kind = r.kind; number = r.number })) = loan_at-page l p (record { holder = moved from r.holder p; kind = r.kind; number = r.number }) a in
          cond-true (in_run from r.count p) None (l.home p) t
          ∙ sym (orphan_loan_home procs r.number l p ∙ (ap (page_without r.number) page.1 ∙ page_without-gone r.number page.0 (record { holder = moved from r.holder p; kind = r.kind; number = r.number }) page.2 refl))
      | inr f ↦ cond-false (in_run from r.count p) None (l.home p) f
          ∙ sym (orphan_loan_home procs r.number l p ∙ page_without-stays r.number (l.home p) (homes_of p ∙ loan_of_run-outside r from p e f))
    ]

    -- an orphan is made only at a place of the run
    made_in_run : (q : Place) (o : Orphan) → Source l r.number q o → in_run r.holder r.count q ≡ false → ⊥
    made_in_run q o s f = elim (cases_Bool (in_run from r.count s.home)) [
      | inl t ↦
          let a : loan_at l s.home ≡ Some (record { holder = moved from r.holder s.home; kind = r.kind; number = r.number }) = loan_home from s.home e t in
          let b : s.loan ≡ record { holder = moved from r.holder s.home; kind = r.kind; number = r.number } =
          same_Some s.loan (record { holder = moved from r.holder s.home; kind = r.kind; number = r.number }) (sym (loan_at-home l s.home s.page s.at ∙ s.lent) ∙ a) in
          let c : moved from r.holder s.home ≡ q = sym (ap (λ (x : PageLoan). x.holder) b) ∙ s.held in
          both_ways (in_run r.holder r.count q) f (subst (λ x. in_run r.holder r.count x ≡ true) c (moved-in_run from r.holder s.home r.count t))
      | inr n ↦ none-some s.loan (sym (homes_of s.home ∙ loan_of_run-outside r from s.home e n)
          ∙ (ap (of_number r.number) (loan_at-home l s.home s.page s.at ∙ s.lent) ∙ of_number-at r.number s.loan s.by))
    ]

    orphans : (q : Place) → (orphan_run from r.count r.holder l).orphan q ≡ (orphan_loan procs r.number l).orphan q
    unfolding orphan_run
    orphans q = elim (cases_Bool (in_run r.holder r.count q)) [
      | inl t ↦
          let home : Place = moved r.holder from q in
          let in_from : in_run from r.count (moved r.holder from q) ≡ true = moved-in_run r.holder from q r.count t in
          let a : loan_at l (moved r.holder from q) ≡ Some (record { holder = moved from r.holder (moved r.holder from q); kind = r.kind; number = r.number }) = loan_home from (moved r.holder from q) e in_from in
          let back : moved from r.holder (moved r.holder from q) ≡ q = moved-back r.holder from q r.count t in
          let b : loan_at l (moved r.holder from q) ≡ Some (record { holder = q; kind = r.kind; number = r.number }) = a ∙ ap (λ x. Some (record { holder = x; kind = r.kind; number = r.number })) back in
          let lender : lender_of procs l q ≡ Some (moved r.holder from q) = lender_at procs l (moved r.holder from q) (record { holder = q; kind = r.kind; number = r.number }) placed b in
          let none : l.orphan q ≡ None = placed.holder_no_orphan (moved r.holder from q) (record { holder = q; kind = r.kind; number = r.number }) b in
          cond-true (in_run r.holder r.count q) (option_and_then orphan_of_page (l.home (moved r.holder from q))) (l.orphan q) t
          ∙ sym (orphan_loan_orphan procs r.number l q
          ∙ (or_none (made procs r.number l q) (l.orphan q) none
          ∙ (ap (λ x. option_and_then (orphan_from r.number) (option_and_then l.home x)) lender
          ∙ from_page (l.home (moved r.holder from q)) (record { holder = q; kind = r.kind; number = r.number }) b refl)))
      | inr f ↦ cond-false (in_run r.holder r.count q) (option_and_then orphan_of_page (l.home (moved r.holder from q))) (l.orphan q) f
          ∙ sym (orphan_loan_kept procs r.number l q (none_made procs r.number l q (λ o s. made_in_run q o s f)))
    ]

    -- the pages of a lender, page by page
    pub orphan_lent : orphan_run from r.count r.holder l ≡ orphan_loan procs r.number l
    orphan_lent = same_ledger (orphan_run from r.count r.holder l) (orphan_loan procs r.number l) homes orphans
