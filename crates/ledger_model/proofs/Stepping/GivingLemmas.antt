-- Laws of `give`, which moves pages to other homes.
use Rattle.std.proofs.Common.{◌≡◌, ℕ, ◌+◌, ◌≤◌, Bool, true, false, Some, None, refl, sym, ap, subst, ◌∙◌, arith, ◌⊎◌, inl, inr}
use Rattle.std.specs.Prelude.{is_some, if◌then◌else◌}
use Rattle.std.specs.Option.{option_map}
use Rattle.std.proofs.lemmas.Bool.{cases_Bool, cond-true, cond-false, both_ways, false_from_ne_true}
use Rattle.std.proofs.lemmas.Option.{none-some, same_Some}
use Rattle.xk_base.specs.declared.ids.Place.{Place}
use Rattle.xk_base.specs.declared.windows.Window.TheVariants.{Message}
use Rattle.ledger_model.specs.Conditions.{CanGive}
use Rattle.ledger_model.specs.Lawful.{IsLawful}
use Rattle.ledger_model.specs.Ledger.{Ledger, Page, PageLoan, loan_at, loan_of, is_counted, pages}
use Rattle.ledger_model.specs.Loans.{loans, loan_of_orphan}
use Rattle.ledger_model.specs.Places.{in_run, moved, place_after, count_places}
use Rattle.ledger_model.specs.Steps.{give}
use Rattle.ledger_model.proofs.LedgerLemmas.{loan_at-page, lender_of-none, IsFreeAt, is_free-true}
use Rattle.ledger_model.proofs.Stepping.LendingLemmas.{IsMovable, may_move-page, movable_not_console}
use Rattle.ledger_model.proofs.Loans.NumberingLemmas.{count_places-run, is_place_in-user}
use Rattle.ledger_model.proofs.PlaceLemmas.{moved-in_run, in_run-after}
use Rattle.ledger_model.proofs.Stepping.RemovingLemmas.{same_loans, same_runs}

pub give_inside : (from : Place) (n : ℕ) (to : Place) (l : Ledger) (p : Place) → in_run to n p ≡ true
    → (give from n to l).home p ≡ l.home (moved to from p)
unfolding give
give_inside from n to l p t = cond-true (in_run to n p) (l.home (moved to from p)) (if in_run from n p then None else l.home p) t

pub give_left : (from : Place) (n : ℕ) (to : Place) (l : Ledger) (p : Place) → in_run to n p ≡ false
    → in_run from n p ≡ true → (give from n to l).home p ≡ None
unfolding give
give_left from n to l p f t =
    cond-false (in_run to n p) (l.home (moved to from p)) (if in_run from n p then None else l.home p) f ∙ cond-true (in_run from n p) None (l.home p) t

pub give_outside : (from : Place) (n : ℕ) (to : Place) (l : Ledger) (p : Place) → in_run to n p ≡ false
    → in_run from n p ≡ false → (give from n to l).home p ≡ l.home p
unfolding give
give_outside from n to l p f g =
    cond-false (in_run to n p) (l.home (moved to from p)) (if in_run from n p then None else l.home p) f ∙ cond-false (in_run from n p) None (l.home p) g

pub give_orphan : (from : Place) (n : ℕ) (to : Place) (l : Ledger) (p : Place)
    → (give from n to l).orphan p ≡ l.orphan p
unfolding give
give_orphan from n to l p = refl

module _ (procs : ℕ) (from : Place) (n : ℕ) (to : Place) (l : Ledger) (can : CanGive procs l from n to) where
  -- the page that a new home gets
  pub give_was : (p : Place) → in_run to n p ≡ true → (a : Page) × (l.home (moved to from p) ≡ Some a) × IsMovable a
  give_was p t = may_move-page (l.home (moved to from p)) (can.pages (moved to from p) (moved-in_run to from p n t))

  free_at : (p : Place) → in_run to n p ≡ true → IsFreeAt procs l p
  free_at p t = is_free-true procs l p (can.free p t)

  -- the two runs are apart
  apart : (p : Place) → in_run from n p ≡ true → in_run to n p ≡ false
  apart p t = false_from_ne_true (in_run to n p) (λ u.
      let a : (a : Page) × (l.home p ≡ Some a) × IsMovable a = may_move-page (l.home p) (can.pages p t) in
      none-some a.0 (sym (free_at p u).home ∙ a.1))

  -- a page has a new home or stands where it stood
  new_or_old : (p : Place) (b : Page) → (give from n to l).home p ≡ Some b
      → ((in_run to n p ≡ true) × (l.home (moved to from p) ≡ Some b) × IsMovable b) ⊎ ((in_run to n p ≡ false) × (l.home p ≡ Some b))
  new_or_old p b e = elim (cases_Bool (in_run to n p)) [
    | inl t ↦
        let was : (a : Page) × (l.home (moved to from p) ≡ Some a) × IsMovable a = give_was p t in
        let now : l.home (moved to from p) ≡ Some b = sym (give_inside from n to l p t) ∙ e in
        inl (t, now, subst IsMovable (same_Some was.0 b (sym was.1 ∙ now)) was.2)
    | inr f ↦ elim (cases_Bool (in_run from n p)) [
      | inl u ↦ absurd (none-some b (sym (give_left from n to l p f u) ∙ e))
      | inr g ↦ inr (f, sym (give_outside from n to l p f g) ∙ e)
    ]
  ]

  -- no page on loan moves
  give_loan : (p : Place) → loan_at (give from n to l) p ≡ loan_at l p
  give_loan p = elim (cases_Bool (in_run to n p)) [
    | inl t ↦
        let was : (a : Page) × (l.home (moved to from p) ≡ Some a) × IsMovable a = give_was p t in
        ap loan_of (give_inside from n to l p t ∙ was.1) ∙ (was.2.no_loan ∙ sym (ap loan_of (free_at p t).home))
    | inr f ↦ elim (cases_Bool (in_run from n p)) [
      | inl u ↦
          let a : (a : Page) × (l.home p ≡ Some a) × IsMovable a = may_move-page (l.home p) (can.pages p u) in
          ap loan_of (give_left from n to l p f u) ∙ sym (ap loan_of a.1 ∙ a.2.no_loan)
      | inr g ↦ ap loan_of (give_outside from n to l p f g)
    ]
  ]

  pub give_loans : loans (give from n to l) ≡ loans l
  give_loans = same_loans l (give from n to l) give_loan (λ p. ap (option_map loan_of_orphan) (give_orphan from n to l p))

  -- a place that is no home and none of the new homes stays free
  no_new_home : (p : Place) → in_run to n p ≡ false → l.home p ≡ None → (give from n to l).home p ≡ None
  no_new_home p f e = elim (cases_Bool (in_run from n p)) [
    | inl u ↦ give_left from n to l p f u
    | inr g ↦ give_outside from n to l p f g ∙ e
  ]

  -- as many pages as before
  pub give_pages : (capacity : ℕ) → IsLawful procs capacity l → pages procs (give from n to l) ≡ pages procs l
  unfolding pages give
  give_pages capacity h =
      let left : Place → Bool = λ p. is_counted (if in_run from n p then None else l.home p) in
      let new : count_places procs (λ p. is_counted ((give from n to l).home p)) ≡ count_places procs left + n =
      count_places-run procs to n (λ p. is_counted ((give from n to l).home p)) left
      (λ i b. is_place_in-user procs Message (place_after to i) (can.lies (place_after to i) (in_run-after to n i b)))
      (λ p t.
      let was : (a : Page) × (l.home (moved to from p) ≡ Some a) × IsMovable a = give_was p t in
      let not_from : in_run from n p ≡ false =
      false_from_ne_true (in_run from n p) (λ u. both_ways (in_run to n p) (apart p u) t) in (
        ap is_counted (give_inside from n to l p t ∙ was.1) ∙ was.2.bytes,
        ap is_counted (cond-false (in_run from n p) None (l.home p) not_from ∙ (free_at p t).home),
      ))
      (λ p f. ap is_counted (cond-false (in_run to n p) (l.home (moved to from p)) (if in_run from n p then None else l.home p) f)) in
      let old : count_places procs (λ p. is_counted (l.home p)) ≡ count_places procs left + n =
      count_places-run procs from n (λ p. is_counted (l.home p)) left
      (λ i b. let a : (a : Page) × (l.home (place_after from i) ≡ Some a) × IsMovable a = may_move-page (l.home (place_after from i)) (can.pages (place_after from i) (in_run-after from n i b)) in h.home_lies (place_after from i) a.0 a.1)
      (λ p t. let a : (a : Page) × (l.home p ≡ Some a) × IsMovable a = may_move-page (l.home p) (can.pages p t) in
      (ap is_counted a.1 ∙ a.2.bytes, ap is_counted (cond-true (in_run from n p) None (l.home p) t)))
      (λ p f. sym (ap is_counted (cond-false (in_run from n p) None (l.home p) f))) in
      ap (λ k. k + count_places procs (λ p. is_some (l.orphan p))) (new ∙ sym old)

  pub give_lawful : (capacity : ℕ) → IsLawful procs capacity l → IsLawful procs capacity (give from n to l)
  give_lawful capacity h =
      let old : (p : Place) (x : PageLoan) → loan_at (give from n to l) p ≡ Some x → loan_at l p ≡ Some x =
      λ p x e. sym (give_loan p) ∙ e in
      record {
        home_lies = λ p b e. elim (new_or_old p b e) [
          | inl new ↦ is_place_in-user procs Message p (can.lies p new.0)
          | inr o ↦ h.home_lies p b o.1
        ];
        holder_lies = λ p x e. h.holder_lies p x (old p x e);
        orphan_lies = λ p o e. h.orphan_lies p o (sym (give_orphan from n to l p) ∙ e);
        holders_differ = λ p q x y e f s. h.holders_differ p q x y (old p x e) (old q y f) s;
        holder_no_home = λ p x e. elim (cases_Bool (in_run to n x.holder)) [
          | inl t ↦
              let page : (a : Page) × (l.home p ≡ Some a) × (a.loan ≡ Some x) = loan_at-page l p x (old p x e) in
              absurd (lender_of-none procs l x.holder p x (free_at x.holder t).lender (h.home_lies p page.0 page.1) (old p x e) refl)
          | inr f ↦ no_new_home x.holder f (h.holder_no_home p x (old p x e))
        ];
        holder_no_orphan = λ p x e. give_orphan from n to l x.holder ∙ h.holder_no_orphan p x (old p x e);
        orphan_no_home = λ p o e. elim (cases_Bool (in_run to n p)) [
          | inl t ↦ absurd (none-some o (sym (free_at p t).orphan ∙ (sym (give_orphan from n to l p) ∙ e)))
          | inr f ↦ no_new_home p f (h.orphan_no_home p o (sym (give_orphan from n to l p) ∙ e))
        ];
        one_console = λ p q a b e f s t. elim (new_or_old p a e) [
          | inl new ↦ absurd (movable_not_console a new.2 s)
          | inr o ↦ elim (new_or_old q b f) [
            | inl new ↦ absurd (movable_not_console b new.2 t)
            | inr c ↦ h.one_console p q a b o.1 c.1 s t
          ]
        ];
        console_lies = λ p b e s. elim (new_or_old p b e) [
          | inl new ↦ absurd (movable_not_console b new.2 s)
          | inr o ↦ h.console_lies p b o.1 s
        ];
        console_no_loan = λ p b e s. elim (new_or_old p b e) [
          | inl new ↦ new.2.no_loan
          | inr o ↦ h.console_no_loan p b o.1 s
        ];
        console_no_fetch = λ p b e s. elim (new_or_old p b e) [
          | inl new ↦ absurd (movable_not_console b new.2 s)
          | inr o ↦ h.console_no_fetch p b o.1 s
        ];
        within = let same : pages procs (give from n to l) ≡ pages procs l = give_pages capacity h in let room : pages procs l ≤ capacity = h.within in omega arith;
        one_run = λ number. same_runs l (give from n to l) give_loans number (h.one_run number);
        exclusive_writable = λ p b x e f k. elim (new_or_old p b e) [
          | inl new ↦ absurd (none-some x (sym new.2.no_loan ∙ f))
          | inr o ↦ h.exclusive_writable p b x o.1 f k
        ];
      }
