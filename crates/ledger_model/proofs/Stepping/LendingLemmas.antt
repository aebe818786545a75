-- Laws of `lend`.
use Rattle.std.proofs.Common.{◌≡◌, ◌≢◌, ℕ, ◌+◌, ◌≤◌, true, false, ◌&&◌, Option, Some, None, refl, sym, ap, subst, ◌∙◌, arith, ◌⊎◌, inl, inr}
use Rattle.std.specs.Prelude.{is_some, is_none}
use Rattle.std.specs.Option.{option_map}
use Rattle.std.proofs.lemmas.Bool.{cases_Bool, cond-true, cond-false, and_parts, false≢true}
use Rattle.std.proofs.lemmas.Option.{none-some, same_Some}
use Rattle.xk_base.specs.declared.ids.Number.{Number}
use Rattle.xk_base.specs.declared.ids.Place.{Place}
use Rattle.xk_base.specs.declared.pages.LoanKind.{LoanKind}
use Rattle.xk_base.specs.declared.pages.LoanKind.TheVariants.{Shared, Exclusive}
use Rattle.xk_base.specs.declared.pages.Right.{Right}
use Rattle.xk_base.specs.declared.windows.Window.TheVariants.{Message}
use Rattle.ledger_model.specs.Conditions.{CanLend, may_lend, may_move}
use Rattle.ledger_model.specs.Lawful.{IsLawful, IsOneRun}
use Rattle.ledger_model.specs.Ledger.{Ledger, Console, Page, PageLoan, loan_at, loan_of, has_bytes, is_counted, pages}
use Rattle.ledger_model.specs.Loans.{loans, loan_of_orphan, LoanRun, same_number, of_number, orphan_of_number, Stands}
use Rattle.ledger_model.specs.Places.{in_run, moved, is_place_in, count_places}
use Rattle.ledger_model.specs.Steps.{lend, with_loan}
use Rattle.ledger_model.proofs.LedgerLemmas.{if_same, same_number-true, same_number-false, loan_at-page, loan_at-home, lender_of-none, IsFreeAt, is_free-true}
use Rattle.ledger_model.proofs.Loans.NumberingLemmas.{count_places-same}
use Rattle.ledger_model.proofs.Loans.OfNumberLemmas.{of_number-at, of_number-apart, loan_of_run-inside, loan_of_run-outside, orphan_of_run-lent, SameOf, run_still}
use Rattle.ledger_model.proofs.PlaceLemmas.{moved-in_run, moved-apart}

-- ---- pages that may be moved or lent

pub record IsMovable (a : Page) : Type 0 where
  pub bytes : has_bytes a.contents ≡ true
  pub no_loan : a.loan ≡ None

none_from : {T : Type 0} (o : Option T) → is_none o ≡ true → o ≡ None
none_from None e = refl
none_from (Some x) e = absurd (false≢true e)

pub may_move-page : (o : Option Page) → may_move o ≡ true → (a : Page) × (o ≡ Some a) × IsMovable a
may_move-page None e = absurd (false≢true e)
may_move-page (Some a) e =
    let parts : (has_bytes a.contents ≡ true) × (is_none a.loan ≡ true) =
    and_parts (has_bytes a.contents) (is_none a.loan) e in
    (a, refl, record { bytes = parts.0; no_loan = none_from a.loan parts.1 })

pub may_lend-page : (kind : LoanKind) (o : Option Page) → may_lend kind o ≡ true
    → (a : Page) × (o ≡ Some a) × IsMovable a × (kind ≡ Exclusive → a.right.w ≡ true)
may_lend-page kind None e = absurd (false≢true e)
may_lend-page Shared (Some a) e =
    let parts : (has_bytes a.contents ≡ true) × (is_none a.loan ≡ true) =
    and_parts (has_bytes a.contents) (is_none a.loan) e in
    (a, refl, record { bytes = parts.0; no_loan = none_from a.loan parts.1 }, λ k. cc)
may_lend-page Exclusive (Some a) e =
    let parts : (has_bytes a.contents && is_none a.loan ≡ true) × (a.right.w ≡ true) =
    and_parts (has_bytes a.contents && is_none a.loan) a.right.w e in
    let more : (has_bytes a.contents ≡ true) × (is_none a.loan ≡ true) =
    and_parts (has_bytes a.contents) (is_none a.loan) parts.0 in
    (a, refl, record { bytes = more.0; no_loan = none_from a.loan more.1 }, λ k. parts.1)

pub movable_not_console : (a : Page) → IsMovable a → a.contents ≡ Console → ⊥
movable_not_console a h e = false≢true (sym (ap has_bytes e) ∙ h.bytes)

-- ---- the ledger after a loan

-- the loan that a page of the lender's run gets
abbrev pub loan_to : Place → Place → LoanKind → Number → Place → PageLoan
loan_to from to kind number p = record { holder = moved from to p; kind = kind; number = number }

pub lend_inside : (from : Place) (n : ℕ) (to : Place) (kind : LoanKind) (number : Number) (l : Ledger) (p : Place)
    → in_run from n p ≡ true
    → (lend from n to kind number l).home p ≡ option_map (with_loan (loan_to from to kind number p)) (l.home p)
unfolding lend
lend_inside from n to kind number l p t = cond-true (in_run from n p) (option_map (with_loan (loan_to from to kind number p)) (l.home p)) (l.home p) t

pub lend_outside : (from : Place) (n : ℕ) (to : Place) (kind : LoanKind) (number : Number) (l : Ledger) (p : Place)
    → in_run from n p ≡ false
    → (lend from n to kind number l).home p ≡ l.home p
unfolding lend
lend_outside from n to kind number l p f = cond-false (in_run from n p) (option_map (with_loan (loan_to from to kind number p)) (l.home p)) (l.home p) f

pub lend_orphan : (from : Place) (n : ℕ) (to : Place) (kind : LoanKind) (number : Number) (l : Ledger) (p : Place)
    → (lend from n to kind number l).orphan p ≡ l.orphan p
unfolding lend
lend_orphan from n to kind number l p = refl

lent_page : (loan : PageLoan) (o : Option Page) (b : Page) → option_map (with_loan loan) o ≡ Some b
    → (a : Page) × (o ≡ Some a) × (with_loan loan a ≡ b)
lent_page loan None b e = absurd (none-some b e)
lent_page loan (Some a) b e = (a, refl, same_Some (with_loan loan a) b e)

lent-counted : (loan : PageLoan) (o : Option Page) → is_counted (option_map (with_loan loan) o) ≡ is_counted o
lent-counted loan None = refl
lent-counted loan (Some page) = refl

-- a loan keeps the number of pages
pub lend_pages : (procs : ℕ) (from : Place) (n : ℕ) (to : Place) (kind : LoanKind) (number : Number) (l : Ledger)
    → pages procs (lend from n to kind number l) ≡ pages procs l
unfolding pages lend
lend_pages procs from n to kind number l =
    ap (λ k. k + count_places procs (λ p. is_some (l.orphan p)))
    (count_places-same procs (λ p. is_counted ((lend from n to kind number l).home p)) (λ p. is_counted (l.home p))
    (λ p. if_same (in_run from n p) is_counted (option_map (with_loan (loan_to from to kind number p)) (l.home p)) (l.home p) (lent-counted (loan_to from to kind number p) (l.home p))))

module _ (procs : ℕ) (from : Place) (n : ℕ) (to : Place) (kind : LoanKind) (number : Number) (l : Ledger) (can : CanLend procs l from n to kind number) where
  -- a page at a place of the run before
  pub lend_was : (p : Place) → in_run from n p ≡ true
      → (a : Page) × (l.home p ≡ Some a) × IsMovable a × (kind ≡ Exclusive → a.right.w ≡ true)
  lend_was p t = may_lend-page kind (l.home p) (can.pages p t)

  -- .. and after
  pub lend_page : (p : Place) (a : Page) → in_run from n p ≡ true → l.home p ≡ Some a
      → (lend from n to kind number l).home p ≡ Some (with_loan (loan_to from to kind number p) a)
  lend_page p a t e = lend_inside from n to kind number l p t ∙ ap (option_map (with_loan (loan_to from to kind number p))) e

  pub lend_loan_inside : (p : Place) → in_run from n p ≡ true
      → loan_at (lend from n to kind number l) p ≡ Some (loan_to from to kind number p)
  lend_loan_inside p t =
      let a : (a : Page) × (l.home p ≡ Some a) × IsMovable a × (kind ≡ Exclusive → a.right.w ≡ true) = lend_was p t in
      ap loan_of (lend_page p a.0 t a.1)

  pub lend_loan_outside : (p : Place) → in_run from n p ≡ false
      → loan_at (lend from n to kind number l) p ≡ loan_at l p
  lend_loan_outside p f = ap loan_of (lend_outside from n to kind number l p f)

  -- each page comes from a page, and has the new loan or its old one
  page_from : (p : Place) (b : Page) → (lend from n to kind number l).home p ≡ Some b
      → (a : Page) × (l.home p ≡ Some a) × (b.contents ≡ a.contents) × (b.right ≡ a.right)
      × (((in_run from n p ≡ true) × (b.loan ≡ Some (loan_to from to kind number p))) ⊎ ((in_run from n p ≡ false) × (b.loan ≡ a.loan)))
  page_from p b e = elim (cases_Bool (in_run from n p)) [
    | inl t ↦
        let a : (a : Page) × (l.home p ≡ Some a) × (with_loan (loan_to from to kind number p) a ≡ b) =
        lent_page (loan_to from to kind number p) (l.home p) b (sym (lend_inside from n to kind number l p t) ∙ e) in
        (a.0, a.1, sym (ap (λ (x : Page). x.contents) a.2), sym (ap (λ (x : Page). x.right) a.2), inl (t, sym (ap (λ (x : Page). x.loan) a.2)))
    | inr f ↦ (b, sym (lend_outside from n to kind number l p f) ∙ e, refl, refl, inr (f, refl))
  ]

  -- each loan is a new one or an old one
  new_or_old : (p : Place) (x : PageLoan) → loan_at (lend from n to kind number l) p ≡ Some x
      → ((in_run from n p ≡ true) × (loan_to from to kind number p ≡ x)) ⊎ ((in_run from n p ≡ false) × (loan_at l p ≡ Some x))
  new_or_old p x e = elim (cases_Bool (in_run from n p)) [
    | inl t ↦ inl (t, same_Some (loan_to from to kind number p) x (sym (lend_loan_inside p t) ∙ e))
    | inr f ↦ inr (f, sym (lend_loan_outside p f) ∙ e)
  ]

  -- the new holder places were free
  holder_free : (p : Place) → in_run from n p ≡ true → IsFreeAt procs l (moved from to p)
  holder_free p t = is_free-true procs l (moved from to p) (can.free (moved from to p) (moved-in_run from to p n t))

  no_new_home : (p : Place) → l.home p ≡ None → (lend from n to kind number l).home p ≡ None
  no_new_home p e = elim (cases_Bool (in_run from n p)) [
    | inl t ↦ lend_inside from n to kind number l p t ∙ ap (option_map (with_loan (loan_to from to kind number p))) e
    | inr f ↦ lend_outside from n to kind number l p f ∙ e
  ]

  -- the loan that a lend makes, as a whole
  abbrev pub new_run : LoanRun
  new_run = record { lender = Some from; holder = to; count = n; kind = kind; number = number }

  -- it stands
  pub lend_stands : Stands (loans (lend from n to kind number l)) new_run
  unfolding loans
  lend_stands = record {
    homes = λ p. elim (cases_Bool (in_run from n p)) [
      | inl t ↦ ap (of_number number) (lend_loan_inside p t) ∙ (of_number-at number (loan_to from to kind number p) refl ∙ sym (loan_of_run-inside new_run from p refl t))
      | inr f ↦ ap (of_number number) (lend_loan_outside p f) ∙ (can.fresh.homes p ∙ sym (loan_of_run-outside new_run from p refl f))
    ];
    orphans = λ p. ap (λ o. orphan_of_number number (option_map loan_of_orphan o)) (lend_orphan from n to kind number l p) ∙ (can.fresh.orphans p ∙ sym (orphan_of_run-lent new_run from p refl));
  }

  -- and the loans of every other number stay
  pub lend_other : (other : Number) → other ≢ number → SameOf other (loans l) (loans (lend from n to kind number l))
  unfolding loans
  lend_other other ne = record {
    homes = λ p. elim (cases_Bool (in_run from n p)) [
      | inl t ↦
          let a : (a : Page) × (l.home p ≡ Some a) × IsMovable a × (kind ≡ Exclusive → a.right.w ≡ true) =
          lend_was p t in
          ap (of_number other) (lend_loan_inside p t) ∙ (of_number-apart other (loan_to from to kind number p) (λ e. ne (sym e)) ∙ sym (ap (of_number other) (loan_at-home l p a.0 a.1 ∙ a.2.no_loan)))
      | inr f ↦ ap (of_number other) (lend_loan_outside p f)
    ];
    orphans = λ p. ap (λ o. orphan_of_number other (option_map loan_of_orphan o)) (lend_orphan from n to kind number l p);
  }

  lend_runs : (other : Number) → IsOneRun l other → IsOneRun (lend from n to kind number l) other
  lend_runs other h = elim (cases_Bool (same_number other number)) [
    | inl t ↦ inr (new_run, sym (same_number-true other number t), lend_stands)
    | inr f ↦ run_still l (lend from n to kind number l) other (lend_other other (same_number-false other number f)) h
  ]

  -- no old loan has its holder at a place of the new run
  no_old_holder : (capacity : ℕ) → IsLawful procs capacity l → (p q : Place) (y : PageLoan) → in_run from n p ≡ true
      → loan_at l q ≡ Some y → y.holder ≡ moved from to p → ⊥
  no_old_holder capacity h p q y t e s =
      let page : (a : Page) × (l.home q ≡ Some a) × (a.loan ≡ Some y) = loan_at-page l q y e in
      lender_of-none procs l (moved from to p) q y (holder_free p t).lender (h.home_lies q page.0 page.1) e s

  pub lend_lawful : (capacity : ℕ) → IsLawful procs capacity l
      → IsLawful procs capacity (lend from n to kind number l)
  lend_lawful capacity h = record {
    home_lies = λ p b e. let a : _ = page_from p b e in h.home_lies p a.0 a.1;
    holder_lies = λ p x e. elim (new_or_old p x e) [
      | inl new ↦ subst (λ (y : PageLoan). is_place_in procs Message y.holder ≡ true) new.1 (can.lies (moved from to p) (moved-in_run from to p n new.0))
      | inr old ↦ h.holder_lies p x old.1
    ];
    orphan_lies = λ p o e. h.orphan_lies p o (sym (lend_orphan from n to kind number l p) ∙ e);
    holders_differ = λ p q x y e f s. elim (new_or_old p x e) [
      | inl new ↦ elim (new_or_old q y f) [
        | inl other ↦ moved-apart from to p q n new.0 other.0 (ap (λ (z : PageLoan). z.holder) new.1 ∙ (s ∙ sym (ap (λ (z : PageLoan). z.holder) other.1)))
        | inr old ↦ absurd (no_old_holder capacity h p q y new.0 old.1 (sym s ∙ sym (ap (λ (z : PageLoan). z.holder) new.1)))
      ]
      | inr old ↦ elim (new_or_old q y f) [
        | inl new ↦ absurd (no_old_holder capacity h q p x new.0 old.1 (s ∙ sym (ap (λ (z : PageLoan). z.holder) new.1)))
        | inr other ↦ h.holders_differ p q x y old.1 other.1 s
      ]
    ];
    holder_no_home = λ p x e. elim (new_or_old p x e) [
      | inl new ↦ subst (λ (y : PageLoan). (lend from n to kind number l).home y.holder ≡ None) new.1 (no_new_home (moved from to p) (holder_free p new.0).home)
      | inr old ↦ no_new_home x.holder (h.holder_no_home p x old.1)
    ];
    holder_no_orphan = λ p x e. lend_orphan from n to kind number l x.holder ∙ elim (new_or_old p x e) [
      | inl new ↦ subst (λ (y : PageLoan). l.orphan y.holder ≡ None) new.1 (holder_free p new.0).orphan
      | inr old ↦ h.holder_no_orphan p x old.1
    ];
    orphan_no_home = λ p o e. no_new_home p (h.orphan_no_home p o (sym (lend_orphan from n to kind number l p) ∙ e));
    one_console = λ p q a b e f s t. let c : _ = page_from p a e in let d : _ = page_from q b f in h.one_console p q c.0 d.0 c.1 d.1 (sym c.2 ∙ s) (sym d.2 ∙ t);
    console_lies = λ p b e s. let a : _ = page_from p b e in h.console_lies p a.0 a.1 (sym a.2 ∙ s);
    console_no_loan = λ p b e s.
        let a : _ = page_from p b e in
        elim a.4 [
          | inl new ↦
              let was : (c : Page) × (l.home p ≡ Some c) × IsMovable c × (kind ≡ Exclusive → c.right.w ≡ true) =
              lend_was p new.0 in
              absurd (movable_not_console was.0 was.2 (sym (ap (λ (z : Page). z.contents) (same_Some a.0 was.0 (sym a.1 ∙ was.1))) ∙ (sym a.2 ∙ s)))
          | inr old ↦ old.1 ∙ h.console_no_loan p a.0 a.1 (sym a.2 ∙ s)
        ];
    console_no_fetch = λ p b e s. let a : _ = page_from p b e in ap (λ (r : Right). r.x) a.3 ∙ h.console_no_fetch p a.0 a.1 (sym a.2 ∙ s);
    within = let same : pages procs (lend from n to kind number l) ≡ pages procs l = lend_pages procs from n to kind number l in let room : pages procs l ≤ capacity = h.within in omega arith;
    one_run = λ other. lend_runs other (h.one_run other);
    exclusive_writable = λ p b x e f k.
        let a : _ = page_from p b e in
        elim a.4 [
          | inl new ↦
              let was : (c : Page) × (l.home p ≡ Some c) × IsMovable c × (kind ≡ Exclusive → c.right.w ≡ true) =
              lend_was p new.0 in
              let same : a.0 ≡ was.0 = same_Some a.0 was.0 (sym a.1 ∙ was.1) in
              let loan : loan_to from to kind number p ≡ x =
              same_Some (loan_to from to kind number p) x (sym new.1 ∙ f) in
              ap (λ (r : Right). r.w) a.3 ∙ (ap (λ (z : Page). z.right.w) same ∙ was.3 (ap (λ (z : PageLoan). z.kind) loan ∙ k))
          | inr old ↦ ap (λ (r : Right). r.w) a.3 ∙ h.exclusive_writable p a.0 x a.1 (sym old.1 ∙ f) k
        ];
  }
