-- Laws of `pass`, which moves the holder's places of a loan.
use Rattle.std.proofs.Common.{◌≡◌, ◌≢◌, ℕ, ◌+◌, ◌≤◌, true, Option, Some, None, refl, sym, ap, subst, ◌∙◌, arith, ◌⊎◌, inl, inr}
use Rattle.std.specs.Prelude.{is_some}
use Rattle.std.specs.Option.{option_map}
use Rattle.std.proofs.lemmas.Bool.{cases_Bool, cond-true, cond-false, false≢true}
use Rattle.std.proofs.lemmas.Option.{none-some, same_Some}
use Rattle.xk_base.specs.declared.ids.Number.{Number}
use Rattle.xk_base.specs.declared.ids.Place.{Place}
use Rattle.xk_base.specs.declared.windows.Window.TheVariants.{Message}
use Rattle.ledger_model.specs.Conditions.{CanPass}
use Rattle.ledger_model.specs.Lawful.{IsLawful, IsOneRun}
use Rattle.ledger_model.specs.Ledger.{Ledger, Page, PageLoan, loan_at, loan_of, is_counted, pages}
use Rattle.ledger_model.specs.Loans.{loans, loan_of_orphan, LoanRun, with_holder, same_number, of_number, orphan_of_number, loan_of_run, Stands, IsFresh}
use Rattle.ledger_model.specs.Places.{in_run, moved, is_place_in, count_places}
use Rattle.ledger_model.specs.Steps.{pass, passed, passed_loan}
use Rattle.ledger_model.proofs.LedgerLemmas.{same_number-true, same_number-at, same_number-false, same_number-apart, loan_at-page, loan_at-home, lender_of-none, IsFreeAt, is_free-true}
use Rattle.ledger_model.proofs.Loans.NumberingLemmas.{count_places-same}
use Rattle.ledger_model.proofs.Loans.OfNumberLemmas.{of_number-at, of_number-apart, loan_of_run-inside, loan_of_run-outside, orphan_of_run-lent, SameOf, run_still}
use Rattle.ledger_model.proofs.PlaceLemmas.{moved-in_run, moved-apart, place_from}

-- ---- a loan that is passed

abbrev pub moved_loan : Place → Place → PageLoan → PageLoan
moved_loan from to x = record x { holder = moved from to x.holder }

pub passed_loan-at : (number : Number) (from to : Place) (x : PageLoan) → x.number ≡ number
    → passed_loan number from to x ≡ moved_loan from to x
passed_loan-at number from to x e = cond-true (same_number x.number number) (moved_loan from to x) x (same_number-at x.number number e)

pub passed_loan-apart : (number : Number) (from to : Place) (x : PageLoan) → x.number ≢ number
    → passed_loan number from to x ≡ x
passed_loan-apart number from to x ne = cond-false (same_number x.number number) (moved_loan from to x) x (same_number-apart x.number number ne)

-- its kind and its number stay
pub passed_loan-kind : (number : Number) (from to : Place) (x : PageLoan) → (passed_loan number from to x).kind ≡ x.kind
passed_loan-kind number from to x = elim (cases_Bool (same_number x.number number)) [
  | inl t ↦ ap (λ (y : PageLoan). y.kind) (passed_loan-at number from to x (same_number-true x.number number t))
  | inr f ↦ ap (λ (y : PageLoan). y.kind) (passed_loan-apart number from to x (same_number-false x.number number f))
]

pub passed_loan-number : (number : Number) (from to : Place) (x : PageLoan) → (passed_loan number from to x).number ≡ x.number
passed_loan-number number from to x = elim (cases_Bool (same_number x.number number)) [
  | inl t ↦ ap (λ (y : PageLoan). y.number) (passed_loan-at number from to x (same_number-true x.number number t))
  | inr f ↦ ap (λ (y : PageLoan). y.number) (passed_loan-apart number from to x (same_number-false x.number number f))
]

-- loans of another number stay
of_other : (number other : Number) (from to : Place) (o : Option PageLoan) → other ≢ number
    → of_number other (option_map (passed_loan number from to) o) ≡ of_number other o
of_other number other from to None ne = refl
of_other number other from to (Some x) ne = elim (cases_Bool (same_number x.number number)) [
  | inl t ↦
      let same : x.number ≡ number = same_number-true x.number number t in
      ap (λ y. of_number other (Some y)) (passed_loan-at number from to x same)
      ∙ (of_number-apart other (moved_loan from to x) (λ e. ne (sym e ∙ same))
      ∙ sym (of_number-apart other x (λ e. ne (sym e ∙ same))))
  | inr f ↦ ap (λ y. of_number other (Some y)) (passed_loan-apart number from to x (same_number-false x.number number f))
]

-- and those of the number move
of_same : (number : Number) (from to : Place) (o : Option PageLoan)
    → of_number number (option_map (passed_loan number from to) o) ≡ option_map (moved_loan from to) (of_number number o)
of_same number from to None = refl
of_same number from to (Some x) = elim (cases_Bool (same_number x.number number)) [
  | inl t ↦
      let same : x.number ≡ number = same_number-true x.number number t in
      ap (λ y. of_number number (Some y)) (passed_loan-at number from to x same)
      ∙ (of_number-at number (moved_loan from to x) same
      ∙ sym (ap (option_map (moved_loan from to)) (of_number-at number x same)))
  | inr f ↦
      let apart : x.number ≢ number = same_number-false x.number number f in
      ap (λ y. of_number number (Some y)) (passed_loan-apart number from to x apart)
      ∙ (of_number-apart number x apart
      ∙ sym (ap (option_map (moved_loan from to)) (of_number-apart number x apart)))
]

-- ---- the ledger after it

pub pass_home : (number : Number) (from to : Place) (l : Ledger) (p : Place)
    → (pass number from to l).home p ≡ option_map (passed number from to) (l.home p)
unfolding pass
pass_home number from to l p = refl

pub pass_orphan : (number : Number) (from to : Place) (l : Ledger) (p : Place)
    → (pass number from to l).orphan p ≡ l.orphan p
unfolding pass
pass_orphan number from to l p = refl

passed-loan : (number : Number) (from to : Place) (o : Option Page)
    → loan_of (option_map (passed number from to) o) ≡ option_map (passed_loan number from to) (loan_of o)
passed-loan number from to None = refl
passed-loan number from to (Some page) = refl

pub pass_loan : (number : Number) (from to : Place) (l : Ledger) (p : Place)
    → loan_at (pass number from to l) p ≡ option_map (passed_loan number from to) (loan_at l p)
pass_loan number from to l p = ap loan_of (pass_home number from to l p) ∙ passed-loan number from to (l.home p)

passed-stays : (number : Number) (from to : Place) (o : Option Page) → of_number number (loan_of o) ≡ None
    → option_map (passed number from to) o ≡ o
passed-stays number from to None e = refl
passed-stays number from to (Some page) e = ap (λ x. Some (record page { loan = x })) (by_loan page.loan e)
  where
    by_loan : (o : Option PageLoan) → of_number number o ≡ None → option_map (passed_loan number from to) o ≡ o
    by_loan None e = refl
    by_loan (Some x) e = elim (cases_Bool (same_number x.number number)) [
      | inl t ↦ absurd (none-some x (sym e ∙ of_number-at number x (same_number-true x.number number t)))
      | inr f ↦ ap Some (passed_loan-apart number from to x (same_number-false x.number number f))
    ]

-- pages that aren't on loan by the number stay
pub pass_outside : (number : Number) (from to : Place) (l : Ledger) (p : Place) → of_number number (loan_at l p) ≡ None
    → (pass number from to l).home p ≡ l.home p
pass_outside number from to l p e = pass_home number from to l p ∙ passed-stays number from to (l.home p) e

-- the loans of every other number stay, and a fresh number stays fresh
pub pass_other : (number other : Number) (from to : Place) (l : Ledger) → other ≢ number
    → SameOf other (loans l) (loans (pass number from to l))
unfolding loans
pass_other number other from to l ne = record {
  homes = λ p. ap (of_number other) (pass_loan number from to l p) ∙ of_other number other from to (loan_at l p) ne;
  orphans = λ p. ap (λ o. orphan_of_number other (option_map loan_of_orphan o)) (pass_orphan number from to l p);
}

pub pass_fresh : (number : Number) (from to : Place) (l : Ledger) → IsFresh (loans l) number
    → IsFresh (loans (pass number from to l)) number
unfolding loans
pass_fresh number from to l fresh = record {
  homes = λ p. ap (of_number number) (pass_loan number from to l p)
      ∙ (of_same number from to (loan_at l p) ∙ ap (option_map (moved_loan from to)) (fresh.homes p));
  orphans = λ p. ap (λ o. orphan_of_number number (option_map loan_of_orphan o)) (pass_orphan number from to l p) ∙ fresh.orphans p;
}

passed-counted : (number : Number) (from to : Place) (o : Option Page) → is_counted (option_map (passed number from to) o) ≡ is_counted o
passed-counted number from to None = refl
passed-counted number from to (Some page) = refl

-- it keeps the number of pages
pub pass_pages : (procs : ℕ) (number : Number) (from to : Place) (l : Ledger)
    → pages procs (pass number from to l) ≡ pages procs l
unfolding pages pass
pass_pages procs number from to l =
    ap (λ k. k + count_places procs (λ p. is_some (l.orphan p)))
    (count_places-same procs (λ p. is_counted ((pass number from to l).home p)) (λ p. is_counted (l.home p)) (λ p. passed-counted number from to (l.home p)))

-- ---- under its condition

-- place i of one run, of another, and of a third
pub moved-moved : (from holder to p : Place) → moved holder to (moved from holder p) ≡ moved from to p
moved-moved from holder to p = place_from (moved holder to (moved from holder p)) (moved from to p) refl (omega arith)

some_lender : (o : Option Place) → is_some o ≡ true → (from : Place) × (o ≡ Some from)
some_lender None e = absurd (false≢true e)
some_lender (Some from) e = (from, refl)

module _ (procs : ℕ) (l : Ledger) (r : LoanRun) (to : Place) (can : CanPass procs l r to) where
  pass_lender : (from : Place) × (r.lender ≡ Some from)
  pass_lender = some_lender r.lender can.lent

  -- the loan stands with its new places
  pub pass_stands : Stands (loans (pass r.number r.holder to l)) (with_holder to r)
  unfolding loans
  pass_stands =
      let from : Place = pass_lender.0 in
      record {
        homes = λ p. ap (of_number r.number) (pass_loan r.number r.holder to l p)
            ∙ (of_same r.number r.holder to (loan_at l p)
            ∙ (ap (option_map (moved_loan r.holder to)) (can.stands.homes p)
            ∙ by_place p));
        orphans = λ p. ap (λ o. orphan_of_number r.number (option_map loan_of_orphan o)) (pass_orphan r.number r.holder to l p)
            ∙ (can.stands.orphans p ∙ (orphan_of_run-lent r pass_lender.0 p pass_lender.1 ∙ sym (orphan_of_run-lent (with_holder to r) pass_lender.0 p pass_lender.1)));
      }
    where
      by_place : (p : Place) → option_map (moved_loan r.holder to) (loan_of_run r p) ≡ loan_of_run (with_holder to r) p
      by_place p = elim (cases_Bool (in_run pass_lender.0 r.count p)) [
        | inl t ↦
            ap (option_map (moved_loan r.holder to)) (loan_of_run-inside r pass_lender.0 p pass_lender.1 t)
            ∙ (ap (λ (q : Place). Some (record { holder = q; kind = r.kind; number = r.number })) (moved-moved pass_lender.0 r.holder to p)
            ∙ sym (loan_of_run-inside (with_holder to r) pass_lender.0 p pass_lender.1 t))
        | inr f ↦
            ap (option_map (moved_loan r.holder to)) (loan_of_run-outside r pass_lender.0 p pass_lender.1 f)
            ∙ sym (loan_of_run-outside (with_holder to r) pass_lender.0 p pass_lender.1 f)
      ]

  pass_runs : (other : Number) → IsOneRun l other → IsOneRun (pass r.number r.holder to l) other
  pass_runs other h = elim (cases_Bool (same_number other r.number)) [
    | inl t ↦ inr (with_holder to r, sym (same_number-true other r.number t), pass_stands)
    | inr f ↦ run_still l (pass r.number r.holder to l) other (pass_other r.number other r.holder to l (same_number-false other r.number f)) h
  ]

  -- each page comes from a page, and its loan from the loan of that page
  page_from : (p : Place) (b : Page) → (pass r.number r.holder to l).home p ≡ Some b
      → (a : Page) × (l.home p ≡ Some a) × (passed r.number r.holder to a ≡ b)
  page_from p b e = by_page (l.home p) refl (sym (pass_home r.number r.holder to l p) ∙ e)
    where
      by_page : (o : Option Page) → l.home p ≡ o → option_map (passed r.number r.holder to) o ≡ Some b
          → (a : Page) × (l.home p ≡ Some a) × (passed r.number r.holder to a ≡ b)
      by_page None q f = absurd (none-some b f)
      by_page (Some a) q f = (a, q, same_Some (passed r.number r.holder to a) b f)

  old_loan : (p : Place) (x : PageLoan) → loan_at (pass r.number r.holder to l) p ≡ Some x
      → (y : PageLoan) × (loan_at l p ≡ Some y) × (passed_loan r.number r.holder to y ≡ x)
  old_loan p x e = by_loan (loan_at l p) refl (sym (pass_loan r.number r.holder to l p) ∙ e)
    where
      by_loan : (o : Option PageLoan) → loan_at l p ≡ o → option_map (passed_loan r.number r.holder to) o ≡ Some x
          → (y : PageLoan) × (loan_at l p ≡ Some y) × (passed_loan r.number r.holder to y ≡ x)
      by_loan None q f = absurd (none-some x f)
      by_loan (Some y) q f = (y, q, same_Some (passed_loan r.number r.holder to y) x f)

  -- each loan has a place of the new run, or is an old one
  new_or_old : (p : Place) (x : PageLoan) → loan_at (pass r.number r.holder to l) p ≡ Some x
      → ((in_run pass_lender.0 r.count p ≡ true) × (x.holder ≡ moved pass_lender.0 to p)) ⊎ (loan_at l p ≡ Some x)
  unfolding loans
  new_or_old p x e =
      let old : (y : PageLoan) × (loan_at l p ≡ Some y) × (passed_loan r.number r.holder to y ≡ x) = old_loan p x e in
      elim (cases_Bool (same_number old.0.number r.number)) [
        | inl t ↦
            let same : old.0.number ≡ r.number = same_number-true old.0.number r.number t in
            let here : loan_of_run r p ≡ Some old.0 =
            sym (can.stands.homes p) ∙ (ap (of_number r.number) old.1 ∙ of_number-at r.number old.0 same) in
            inl (elim (cases_Bool (in_run pass_lender.0 r.count p)) [
              | inl u ↦
                  let is : record { holder = moved pass_lender.0 r.holder p; kind = r.kind; number = r.number } ≡ old.0 =
                  same_Some (record { holder = moved pass_lender.0 r.holder p; kind = r.kind; number = r.number }) old.0
                  (sym (loan_of_run-inside r pass_lender.0 p pass_lender.1 u) ∙ here) in (
                    u,
                    sym (ap (λ (z : PageLoan). z.holder) (sym (passed_loan-at r.number r.holder to old.0 same) ∙ old.2))
                        ∙ (sym (ap (λ (z : PageLoan). moved r.holder to z.holder) is) ∙ moved-moved pass_lender.0 r.holder to p),
                  )
              | inr g ↦ absurd (none-some old.0 (sym (loan_of_run-outside r pass_lender.0 p pass_lender.1 g) ∙ here))
            ])
        | inr f ↦ inr (old.1 ∙ ap Some (sym (passed_loan-apart r.number r.holder to old.0 (same_number-false old.0.number r.number f)) ∙ old.2))
      ]

  -- the new holder places were free
  holder_free : (p : Place) → in_run pass_lender.0 r.count p ≡ true → IsFreeAt procs l (moved pass_lender.0 to p)
  holder_free p t =
      is_free-true procs l (moved pass_lender.0 to p) (can.free (moved pass_lender.0 to p) (moved-in_run pass_lender.0 to p r.count t))

  no_new_home : (p : Place) → l.home p ≡ None → (pass r.number r.holder to l).home p ≡ None
  no_new_home p e = pass_home r.number r.holder to l p ∙ ap (option_map (passed r.number r.holder to)) e

  -- no old loan has its holder at a place of the new run
  no_old_holder : (capacity : ℕ) → IsLawful procs capacity l → (p q : Place) (y : PageLoan) → in_run pass_lender.0 r.count p ≡ true
      → loan_at l q ≡ Some y → y.holder ≡ moved pass_lender.0 to p → ⊥
  no_old_holder capacity h p q y t e s =
      let page : (a : Page) × (l.home q ≡ Some a) × (a.loan ≡ Some y) = loan_at-page l q y e in
      lender_of-none procs l (moved pass_lender.0 to p) q y (holder_free p t).lender (h.home_lies q page.0 page.1) e s

  pub pass_lawful : (capacity : ℕ) → IsLawful procs capacity l
      → IsLawful procs capacity (pass r.number r.holder to l)
  pass_lawful capacity h = record {
    home_lies = λ p b e. let a : (a : Page) × (l.home p ≡ Some a) × (passed r.number r.holder to a ≡ b) = page_from p b e in h.home_lies p a.0 a.1;
    holder_lies = λ p x e. elim (new_or_old p x e) [
      | inl new ↦ subst (λ q. is_place_in procs Message q ≡ true) (sym new.1) (can.lies (moved pass_lender.0 to p) (moved-in_run pass_lender.0 to p r.count new.0))
      | inr old ↦ h.holder_lies p x old
    ];
    orphan_lies = λ p o e. h.orphan_lies p o (sym (pass_orphan r.number r.holder to l p) ∙ e);
    holders_differ = λ p q x y e f s. elim (new_or_old p x e) [
      | inl new ↦ elim (new_or_old q y f) [
        | inl other ↦ moved-apart pass_lender.0 to p q r.count new.0 other.0 (sym new.1 ∙ (s ∙ other.1))
        | inr old ↦ absurd (no_old_holder capacity h p q y new.0 old (sym s ∙ new.1))
      ]
      | inr old ↦ elim (new_or_old q y f) [
        | inl new ↦ absurd (no_old_holder capacity h q p x new.0 old (s ∙ new.1))
        | inr other ↦ h.holders_differ p q x y old other s
      ]
    ];
    holder_no_home = λ p x e. elim (new_or_old p x e) [
      | inl new ↦ subst (λ q. (pass r.number r.holder to l).home q ≡ None) (sym new.1) (no_new_home (moved pass_lender.0 to p) (holder_free p new.0).home)
      | inr old ↦ no_new_home x.holder (h.holder_no_home p x old)
    ];
    holder_no_orphan = λ p x e. pass_orphan r.number r.holder to l x.holder ∙ elim (new_or_old p x e) [
      | inl new ↦ subst (λ q. l.orphan q ≡ None) (sym new.1) (holder_free p new.0).orphan
      | inr old ↦ h.holder_no_orphan p x old
    ];
    orphan_no_home = λ p o e. no_new_home p (h.orphan_no_home p o (sym (pass_orphan r.number r.holder to l p) ∙ e));
    one_console = λ p q a b e f s t.
        let c : (c : Page) × (l.home p ≡ Some c) × (passed r.number r.holder to c ≡ a) = page_from p a e in
        let d : (d : Page) × (l.home q ≡ Some d) × (passed r.number r.holder to d ≡ b) = page_from q b f in
        h.one_console p q c.0 d.0 c.1 d.1 (ap (λ (z : Page). z.contents) c.2 ∙ s) (ap (λ (z : Page). z.contents) d.2 ∙ t);
    console_lies = λ p b e s.
        let a : (a : Page) × (l.home p ≡ Some a) × (passed r.number r.holder to a ≡ b) = page_from p b e in
        h.console_lies p a.0 a.1 (ap (λ (z : Page). z.contents) a.2 ∙ s);
    console_no_loan = λ p b e s.
        let a : (a : Page) × (l.home p ≡ Some a) × (passed r.number r.holder to a ≡ b) = page_from p b e in
        sym (ap (λ (z : Page). z.loan) a.2) ∙ ap (option_map (passed_loan r.number r.holder to)) (h.console_no_loan p a.0 a.1 (ap (λ (z : Page). z.contents) a.2 ∙ s));
    console_no_fetch = λ p b e s.
        let a : (a : Page) × (l.home p ≡ Some a) × (passed r.number r.holder to a ≡ b) = page_from p b e in
        sym (ap (λ (z : Page). z.right.x) a.2) ∙ h.console_no_fetch p a.0 a.1 (ap (λ (z : Page). z.contents) a.2 ∙ s);
    within = let same : pages procs (pass r.number r.holder to l) ≡ pages procs l = pass_pages procs r.number r.holder to l in let room : pages procs l ≤ capacity = h.within in omega arith;
    one_run = λ other. pass_runs other (h.one_run other);
    exclusive_writable = λ p b x e f k.
        let a : (a : Page) × (l.home p ≡ Some a) × (passed r.number r.holder to a ≡ b) = page_from p b e in
        let old : (y : PageLoan) × (loan_at l p ≡ Some y) × (passed_loan r.number r.holder to y ≡ x) =
        old_loan p x (loan_at-home (pass r.number r.holder to l) p b e ∙ f) in
        sym (ap (λ (z : Page). z.right.w) a.2)
        ∙ h.exclusive_writable p a.0 old.0 a.1 (sym (loan_at-home l p a.0 a.1) ∙ old.1)
        (sym (passed_loan-kind r.number r.holder to old.0) ∙ (ap (λ (z : PageLoan). z.kind) old.2 ∙ k));
  }
