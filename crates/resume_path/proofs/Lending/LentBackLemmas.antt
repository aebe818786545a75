-- Pages of a state that were on loan are lent again; numbers that no loan has change nothing.
use Rattle.std.proofs.Common.{◌≡◌, ℕ, Bool, true, false, ◌&&◌, Option, Some, None, refl, sym, ap, subst, ◌∙◌, inl, inr}
use Rattle.std.specs.Prelude.{◌≢◌}
use Rattle.std.specs.Option.{option_map}
use Rattle.std.proofs.lemmas.Bool.{both_ways, cases_Bool, cond-false, cond-true}
use Rattle.std.proofs.lemmas.Option.{none-some, same_Some}
use Rattle.ledger_model.proofs.LedgerLemmas.{is_free-from, lender_of-None, loan_at-page, same_ledger}
use Rattle.ledger_model.proofs.PlaceLemmas.{moved-back, moved-in_run}
use Rattle.ledger_model.proofs.Loans.OfNumberLemmas.{of_number-None, of_number-apart, orphan_of_number-None, orphan_of_run-lent, stands-home}
use Rattle.ledger_model.specs.Conditions.{CanLend, may_lend}
use Rattle.ledger_model.specs.Lawful.{IsLawful}
use Rattle.ledger_model.specs.Ledger.{Bytes, Console, Contents, Ledger, Orphan, Page, PageLoan, has_bytes, loan_at, loan_of}
use Rattle.ledger_model.specs.Loans.{LoanRun, Stands, loan_of_orphan, loans, of_number, orphan_loan_at, orphan_of_number}
use Rattle.ledger_model.specs.Places.{in_run, is_place_in, moved}
use Rattle.ledger_model.specs.Reach.{is_free}
use Rattle.xk_base.specs.declared.ids.Number.{Number}
use Rattle.xk_base.specs.declared.ids.Place.{Place}
use Rattle.xk_base.specs.declared.pages.LoanKind.{LoanKind}
use Rattle.xk_base.specs.declared.pages.LoanKind.TheVariants.{Exclusive, Shared}
use Rattle.xk_base.specs.declared.windows.Window.TheVariants.{Message}
use Rattle.resume_path.proofs.Lending.LendLemmas.{and_number, orphan_other, page_other}
use Rattle.resume_path.specs.Standing.{Standing, loan_among, orphan_among, orphans_of, page_among, standing}

-- all pages and orphans, and the loans of these numbers
abbrev pub loans_of : (ℕ → Bool) → Standing
loans_of numbers = record { orphans = λ number. true; homes = λ p. true; loans = numbers }

-- ---- numbers of no loan, and of no orphan

module _ (whole : Ledger) (so_far : ℕ → Bool) (number : Number) where
  pub no_loan_more : ((p : Place) → of_number number (loan_at whole p) ≡ None)
      → standing (loans_of (and_number so_far number)) whole ≡ standing (loans_of so_far) whole
  unfolding standing
  no_loan_more none = same_ledger (standing (loans_of (and_number so_far number)) whole) (standing (loans_of so_far) whole)
      (λ p. page_other so_far number (whole.home p) (λ loan is. of_number-None number (loan_at whole p) loan (none p) is)) (λ p. refl)

  pub no_orphan_more : ((p : Place) → orphan_of_number number (orphan_loan_at whole p) ≡ None)
      → standing (orphans_of (and_number so_far number)) whole ≡ standing (orphans_of so_far) whole
  unfolding standing
  no_orphan_more none = same_ledger (standing (orphans_of (and_number so_far number)) whole) (standing (orphans_of so_far) whole) (λ p. refl)
      (λ p. orphan_other so_far number (whole.orphan p) (λ loan is. orphan_of_number-None number (orphan_loan_at whole p) loan (none p) is))

-- ---- the numbers of all loans, and of all orphans

module _ (whole : Ledger) (numbers : ℕ → Bool) where
  page_whole : (o : Option Page) → ((loan : PageLoan) → loan_of o ≡ Some loan → numbers loan.number.0 ≡ true) → option_map (page_among numbers) o ≡ o
  page_whole None all = refl
  page_whole (Some page) all = go page.loan refl
    where
      go : (o : Option PageLoan) → page.loan ≡ o → option_map (page_among numbers) (Some page) ≡ Some page
      go None e = ap (λ l. Some (record page { loan = l })) (ap (loan_among numbers) e ∙ sym e)
      go (Some loan) e =
          ap (λ l. Some (record page { loan = l })) (ap (loan_among numbers) e ∙ (cond-true (numbers loan.number.0) (Some loan) None (all loan e) ∙ sym e))

  pub all_loans : ((p : Place) (loan : PageLoan) → loan_at whole p ≡ Some loan → numbers loan.number.0 ≡ true) → standing (loans_of numbers) whole ≡ whole
  unfolding standing
  all_loans all = same_ledger (standing (loans_of numbers) whole) whole (λ p. page_whole (whole.home p) (all p)) (λ p. orphan_whole (whole.orphan p))
    where
      orphan_whole : (o : Option Orphan) → orphan_among (λ number. true) o ≡ o
      orphan_whole None = refl
      orphan_whole (Some orphan) = refl

  orphan_kept : (o : Option Orphan) → ((orphan : Orphan) → o ≡ Some orphan → numbers orphan.number.0 ≡ true)
      → orphan_among numbers o ≡ orphan_among (λ number. true) o
  orphan_kept None all = refl
  orphan_kept (Some orphan) all = cond-true (numbers orphan.number.0) (Some orphan) None (all orphan refl)

  pub all_orphans : ((p : Place) (orphan : Orphan) → whole.orphan p ≡ Some orphan → numbers orphan.number.0 ≡ true)
      → standing (orphans_of numbers) whole ≡ standing (orphans_of (λ number. true)) whole
  unfolding standing
  all_orphans all =
      same_ledger (standing (orphans_of numbers) whole) (standing (orphans_of (λ number. true)) whole) (λ p. refl) (λ p. orphan_kept (whole.orphan p) (all p))

-- ---- a loan with a lender

loan_was : (numbers : ℕ → Bool) (o : Option PageLoan) (loan : PageLoan) → loan_among numbers o ≡ Some loan → (o ≡ Some loan) × (numbers loan.number.0 ≡ true)
loan_was numbers None loan e = absurd (none-some loan e)
loan_was numbers (Some x) loan e = elim (cases_Bool (numbers x.number.0)) [
  | inl among ↦
      let same : x ≡ loan = same_Some x loan (sym (cond-true (numbers x.number.0) (Some x) None among) ∙ e) in
      (ap (λ (l : PageLoan). Some l) same, subst (λ (l : PageLoan). numbers l.number.0 ≡ true) same among)
  | inr apart ↦ absurd (none-some loan (sym (cond-false (numbers x.number.0) (Some x) None apart) ∙ e))
]

page_was : (numbers : ℕ → Bool) (o : Option Page) (loan : PageLoan) → loan_of (option_map (page_among numbers) o) ≡ Some loan
    → (loan_of o ≡ Some loan) × (numbers loan.number.0 ≡ true)
page_was numbers None loan e = absurd (none-some loan e)
page_was numbers (Some page) loan e = loan_was numbers page.loan loan e

module _ (procs capacity : ℕ) (whole : Ledger) (lawful : IsLawful procs capacity whole) (so_far : ℕ → Bool) (from : Place) (n : ℕ) (to : Place)
    (kind : LoanKind) (number : Number) (stands : Stands (loans whole) (record { lender = Some from; holder = to; count = n; kind = kind; number = number }))
    (not_yet : so_far number.0 ≡ false) where
  abbrev run : LoanRun
  run = record { lender = Some from; holder = to; count = n; kind = kind; number = number }

  abbrev loan_to : Place → PageLoan
  loan_to p = record { holder = moved from to p; kind = kind; number = number }

  abbrev now : Ledger
  now = standing (loans_of so_far) whole

  lent_at : (p : Place) → in_run from n p ≡ true → loan_at whole p ≡ Some (loan_to p)
  unfolding loans
  lent_at p inside = stands-home (loans whole) run from p stands refl inside

  none_among : (loan : PageLoan) → loan.number ≡ number → loan_among so_far (Some loan) ≡ None
  none_among loan same = cond-false (so_far loan.number.0) (Some loan) None (ap (λ (k : Number). so_far k.0) same ∙ not_yet)

  -- its pages may be lent again
  lends : (k : LoanKind) (page : Page) → has_bytes page.contents ≡ true → (k ≡ Exclusive → page.right.w ≡ true)
      → may_lend k (Some (record page { loan = None })) ≡ true
  lends Shared page bytes w = ap (λ b. b && true) bytes
  lends Exclusive page bytes w = λ i. bytes i && true && w refl i

  page_lends : (p : Place) → in_run from n p ≡ true → may_lend kind (now.home p) ≡ true
  unfolding standing
  page_lends p inside =
      let page = loan_at-page whole p (loan_to p) (lent_at p inside) in
      ap (λ o. may_lend kind (option_map (page_among so_far) o)) page.1
      ∙ (ap (λ l. may_lend kind (Some (record (page.0) { loan = l }))) (ap (loan_among so_far) page.2 ∙ none_among (loan_to p) refl)
      ∙ lends kind page.0 (has_its_bytes page.0 page.1 page.2 page.0.contents refl)
      (λ exclusive. lawful.exclusive_writable p page.0 (loan_to p) page.1 page.2 exclusive))
    where
      has_its_bytes : (page : Page) → whole.home p ≡ Some page → page.loan ≡ Some (loan_to p) → (c : Contents) → page.contents ≡ c
          → has_bytes page.contents ≡ true
      has_its_bytes page at lent Console e = absurd (none-some (loan_to p) (sym (lawful.console_no_loan p page at e) ∙ lent))
      has_its_bytes page at lent (Bytes bytes) e = ap has_bytes e

  -- and its holder's places are free
  module _ (p : Place) (inside : in_run to n p ≡ true) where
    home : Place
    home = moved to from p

    home_inside : in_run from n (moved to from p) ≡ true
    home_inside = moved-in_run to from p n inside

    held_here : moved from to (moved to from p) ≡ p
    held_here = moved-back to from p n inside

    loan_here : loan_at whole (moved to from p) ≡ Some (loan_to (moved to from p))
    loan_here = lent_at (moved to from p) home_inside

    no_home_here : whole.home p ≡ None
    no_home_here = subst (λ (q : Place). whole.home q ≡ None) held_here (lawful.holder_no_home (moved to from p) (loan_to (moved to from p)) loan_here)

    no_orphan_here : whole.orphan p ≡ None
    no_orphan_here = subst (λ (q : Place). whole.orphan q ≡ None) held_here (lawful.holder_no_orphan (moved to from p) (loan_to (moved to from p)) loan_here)

    no_holder_here : (q : Place) (loan : PageLoan) → loan_at now q ≡ Some loan → loan.holder ≢ p
    unfolding standing
    no_holder_here q loan e held =
        let was = page_was so_far (whole.home q) loan e in
        let same : q ≡ moved to from p = lawful.holders_differ q (moved to from p) loan (loan_to (moved to from p)) was.0 loan_here (held ∙ sym held_here) in
        let is : loan ≡ loan_to (moved to from p) =
        same_Some loan (loan_to (moved to from p)) (sym was.0 ∙ (ap (λ (r : Place). loan_at whole r) same ∙ loan_here)) in
        both_ways (so_far number.0) not_yet (subst (λ (l : PageLoan). so_far l.number.0 ≡ true) is was.1)

    lies_here : is_place_in procs Message p ≡ true
    lies_here = subst (λ (q : Place). is_place_in procs Message q ≡ true) held_here (lawful.holder_lies (moved to from p) (loan_to (moved to from p)) loan_here)

    free_here : is_free procs now p ≡ true
    unfolding standing
    free_here = is_free-from procs now p (record {
      home = ap (option_map (page_among so_far)) no_home_here;
      orphan = ap (orphan_among (λ k. true)) no_orphan_here;
      lender = lender_of-None procs now p no_holder_here;
    })

  fresh_page : (o : Option Page) → of_number number (loan_of (option_map (page_among so_far) o)) ≡ None
  fresh_page None = refl
  fresh_page (Some page) = fresh_loan page.loan
    where
      fresh_loan : (o : Option PageLoan) → of_number number (loan_among so_far o) ≡ None
      fresh_loan None = refl
      fresh_loan (Some loan) = elim (cases_Bool (so_far loan.number.0)) [
        | inl before ↦
            ap (of_number number) (cond-true (so_far loan.number.0) (Some loan) None before)
            ∙ of_number-apart number loan (λ same. both_ways (so_far number.0) not_yet (subst (λ (k : Number). so_far k.0 ≡ true) same before))
        | inr after ↦ ap (of_number number) (cond-false (so_far loan.number.0) (Some loan) None after)
      ]

  orphan_whole : (o : Option Orphan) → orphan_among (λ k. true) o ≡ o
  orphan_whole None = refl
  orphan_whole (Some orphan) = refl

  pub can_lend_again : CanLend procs now from n to kind number
  unfolding standing loans
  can_lend_again = record {
    pages = page_lends;
    free = free_here;
    lies = lies_here;
    fresh = record {
      homes = λ p. fresh_page (whole.home p);
      orphans = λ p.
          ap (λ o. orphan_of_number number (option_map loan_of_orphan o)) (orphan_whole (whole.orphan p))
          ∙ (stands.orphans p ∙ orphan_of_run-lent run from p refl);
    };
  }
