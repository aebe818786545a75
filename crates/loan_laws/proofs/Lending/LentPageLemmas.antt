-- A loan of a number that was fresh before a lend is of pages of the lend, each at its home without a loan just before.
use Rattle.std.proofs.Common.{◌≡◌, ℕ, ◌<◌, ◌≤◌, Bool, true, false, Option, Some, None, refl, sym, ap, ◌∙◌}
use Rattle.std.specs.Prelude.{if◌then◌else◌, is_some}
use Rattle.std.specs.Option.{option_map}
use Rattle.std.proofs.lemmas.Bool.{false≢true}
use Rattle.std.proofs.lemmas.Option.{none-some, same_Some}
use Rattle.xk_base.specs.declared.ids.Number.{Number}
use Rattle.xk_base.specs.declared.ids.Place.{Place}
use Rattle.xk_base.specs.declared.pages.LoanKind.{LoanKind}
use Rattle.ledger_model.specs.Conditions.{is_lent}
use Rattle.ledger_model.specs.Ledger.{Ledger, Page, PageLoan, loan_at, loan_of}
use Rattle.ledger_model.specs.Loans.{IsFresh, LoanRun, Stands, loans, of_number, orphan_of_number}
use Rattle.ledger_model.specs.Places.{in_run, moved, place_after}
use Rattle.ledger_model.specs.Steps.{lend, with_loan}
use Rattle.ledger_model.proofs.Loans.OfNumberLemmas.{of_number-at, orphan_of_run-inside, stands-home}
use Rattle.ledger_model.proofs.OwnerLemmas.{stands_home_at}
use Rattle.machine_model.specs.Runs.LoanSpan.{unlent}
use Rattle.loan_laws.proofs.Leaving.SameRunLemmas.{first_in_run}

module _ (from : Place) (n : ℕ) (to : Place) (kind : LoanKind) (new : Number) (l : Ledger) (fresh : IsFresh (loans l) new)
    (clear : (p : Place) → in_run from n p ≡ true → is_lent (l.home p) ≡ false) (a : LoanRun) (named : a.number ≡ new) (some : 1 ≤ a.count)
    (stands : Stands (loans (lend from n to kind new l)) a) where
  abbrev lent : Ledger
  lent = lend from n to kind new l

  -- a page on loan by the number is one of the lend
  of_lend : (p : Place) (x : PageLoan) → loan_at lent p ≡ Some x → x.number ≡ new → in_run from n p ≡ true
  unfolding lend loans
  of_lend p x e q = go (in_run from n p) refl e
    where
      go : (b : Bool) → in_run from n p ≡ b
          → loan_of (if b then option_map (with_loan (record { holder = moved from to p; kind = kind; number = new })) (l.home p) else l.home p) ≡ Some x
          → b ≡ true
      go true f e = refl
      go false f e = absurd (none-some x (sym (fresh.homes p) ∙ (ap (of_number new) e ∙ of_number-at new x q)))

  -- it has a lender
  pub no_orphans : a.lender ≡ None → ⊥
  unfolding lend loans
  no_orphans none =
      none-some (record { kind = a.kind; number = a.number })
      (sym (fresh.orphans a.holder)
      ∙ (ap (λ k. orphan_of_number k ((loans l).orphan a.holder)) (sym named)
      ∙ (stands.orphans a.holder ∙ orphan_of_run-inside a a.holder none (first_in_run a.holder a.count some))))

  module _ (home : Place) (lender : a.lender ≡ Some home) where
    pub home_in : in_run from n home ≡ true
    unfolding loans
    home_in =
        let loan : PageLoan = record { holder = moved home a.holder home; kind = a.kind; number = a.number } in
        of_lend home loan (stands-home (loans lent) a home home stands lender (first_in_run home a.count some)) named

    pub from_home : (k : ℕ) → k < a.count → in_run from n (place_after home k) ≡ true
    from_home k low =
        of_lend (place_after home k) (record { holder = place_after a.holder k; kind = a.kind; number = a.number })
        (stands_home_at lent a home k stands lender low) named

    page_before : (p : Place) (page : Page) → in_run from n p ≡ true → lent.home p ≡ Some page → l.home p ≡ Some (unlent page)
    unfolding lend
    page_before p page inside e =
        go (l.home p) refl (clear p inside)
        (sym (ap (λ b. if b then option_map (with_loan loan) (l.home p) else l.home p) inside) ∙ e)
      where
        loan : PageLoan
        loan = record { holder = moved from to p; kind = kind; number = new }

        none_of : (o : Option PageLoan) → is_some o ≡ false → o ≡ None
        none_of None q = refl
        none_of (Some x) q = absurd (false≢true (sym q))

        go : (o : Option Page) → l.home p ≡ o → is_lent o ≡ false → option_map (with_loan loan) o ≡ Some page → o ≡ Some (unlent page)
        go None q c r = absurd (none-some page r)
        go (Some old) q c r =
            ap (λ x. Some (record old { loan = x })) (none_of old.loan c)
            ∙ ap (λ (x : Page). Some (record x { loan = None })) (same_Some (with_loan loan old) page r)

    pub before_lend : (k : ℕ) (page : Page) → k < a.count → lent.home (place_after home k) ≡ Some page
        → l.home (place_after home k) ≡ Some (unlent page)
    before_lend k page low e = page_before (place_after home k) page (from_home k low) e
