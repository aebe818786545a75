-- What is asked of the places of a run, place by place; pages that a process may send may be lent and moved.
use Rattle.std.proofs.Common.{◌≡◌, ℕ, zero, suc, ◌-◌, ◌<◌, Bool, true, false, ◌&&◌, ◌||◌, Option, Some, None, refl, sym, ap, subst, ◌∙◌, inl, inr, arith}
use Rattle.std.specs.Prelude.{not, is_some, is_none}
use Rattle.std.specs.List.{list_any}
use Rattle.std.proofs.lemmas.Bool.{and_from, both_ways, or_left, or_parts, or_right, false_from_ne_true, true≢false}
use Rattle.xk_base.specs.declared.ids.Place.{Place}
use Rattle.xk_base.specs.declared.pages.LoanKind.{LoanKind}
use Rattle.xk_base.specs.declared.pages.LoanKind.TheVariants.{Shared, Exclusive}
use Rattle.xk_base.specs.declared.pages.Right.{Right}
use Rattle.ledger_model.specs.Conditions.{may_lend, may_move, is_console, is_within}
use Rattle.ledger_model.specs.Ledger.{Ledger, Page, PageLoan, Orphan, has_bytes, loan_at}
use Rattle.ledger_model.specs.Places.{run, in_run, place_after}
use Rattle.ledger_model.specs.Reach.{holder_role, orphan_or_holder, lent_role, lender_of, role_at, is_free, is_free_role}
use Rattle.ledger_model.specs.RunTests.{any_free, any_on_loan, any_console, any_lacks, any_not_sent, is_on_loan, asks_more, is_exclusive}
use Rattle.ledger_model.proofs.LedgerLemmas.{cases_Option, role_at-home}
use Rattle.ledger_model.proofs.PlaceLemmas.{place_from, in_run-index}

-- ---- a test along a run

first_zero : (p : Place) → place_after p 0 ≡ p
first_zero p = place_from (place_after p 0) p refl (omega arith)

next_place : (p : Place) (i : ℕ) → place_after (place_after p 1) i ≡ place_after p (suc i)
next_place p i = place_from (place_after (place_after p 1) i) (place_after p (suc i)) refl (omega arith)

or_false : (a b : Bool) → a ≡ false → b ≡ false → (a || b) ≡ false
or_false true b e f = absurd (both_ways true e refl)
or_false false b e f = f

pub some_passes : (test : Place → Bool) (first : Place) (n i : ℕ) → i < n → test (place_after first i) ≡ true → list_any test (run first n) ≡ true
unfolding run
some_passes test first zero i l t = absurd (omega arith)
some_passes test first (suc n) zero l t =
    or_left (test first) (list_any test (run (place_after first 1) n)) (subst (λ p. test p ≡ true) (first_zero first) t)
some_passes test first (suc n) (suc i) l t =
    or_right (test first) (list_any test (run (place_after first 1) n))
    (some_passes test (place_after first 1) n i (omega arith) (subst (λ p. test p ≡ true) (sym (next_place first i)) t))

pub each_fails : (test : Place → Bool) (first : Place) (n : ℕ) → list_any test (run first n) ≡ false → (i : ℕ) → i < n → test (place_after first i) ≡ false
each_fails test first n e i l =
    false_from_ne_true (test (place_after first i)) (λ t. both_ways (list_any test (run first n)) e (some_passes test first n i l t))

pub none_passes : (test : Place → Bool) (first : Place) (n : ℕ) → ((i : ℕ) → i < n → test (place_after first i) ≡ false) → list_any test (run first n) ≡ false
unfolding run
none_passes test first zero h = refl
none_passes test first (suc n) h =
    or_false (test first) (list_any test (run (place_after first 1) n)) (subst (λ p. test p ≡ false) (first_zero first) (h 0 (omega arith)))
    (none_passes test (place_after first 1) n (λ i l. subst (λ p. test p ≡ false) (sym (next_place first i)) (h (suc i) (omega arith))))

-- .. by the places of the run
pub none_fails : (test : Place → Bool) (first : Place) (n : ℕ) (p : Place) → list_any test (run first n) ≡ false → in_run first n p ≡ true
    → test p ≡ false
none_fails test first n p e t =
    let i : (p.vpn.0 - first.vpn.0 < n) × (p ≡ place_after first (p.vpn.0 - first.vpn.0)) = in_run-index first n p t in
    subst (λ q. test q ≡ false) (sym i.1) (each_fails test first n e (p.vpn.0 - first.vpn.0) i.0)

-- ---- pages that may be sent

none_from : {T : Type 0} (o : Option T) → is_some o ≡ false → o ≡ None
none_from None e = refl
none_from (Some x) e = absurd (true≢false e)

-- what neither is free nor is on loan is a page at its home
module _ (procs : ℕ) (l : Ledger) (p : Place) where
  no_role : (o : Option Orphan) (x : Option Place) → is_free_role (orphan_or_holder o (holder_role l x)) ≡ false
      → is_on_loan (orphan_or_holder o (holder_role l x)) ≡ false → ⊥
  no_role (Some orphan) x f g = true≢false g
  no_role None None f g = true≢false f
  no_role None (Some home) f g = by_loan (loan_at l home) f g
    where
      by_loan : (o : Option PageLoan) → is_free_role (lent_role home o) ≡ false → is_on_loan (lent_role home o) ≡ false → ⊥
      by_loan None f g = true≢false f
      by_loan (Some loan) f g = true≢false g

  no_home : l.home p ≡ None → role_at procs l p ≡ orphan_or_holder (l.orphan p) (holder_role l (lender_of procs l p))
  unfolding role_at
  no_home e = rw e refl

  pub own_page : is_free procs l p ≡ false → is_on_loan (role_at procs l p) ≡ false
      → (page : Page) × (l.home p ≡ Some page) × (page.loan ≡ None)
  unfolding is_free
  own_page f g = elim (cases_Option (l.home p)) [
    | inl none ↦ absurd (no_role (l.orphan p) (lender_of procs l p) (ap is_free_role (sym (no_home none)) ∙ f) (ap is_on_loan (sym (no_home none)) ∙ g))
    | inr page ↦ (page.0, page.1, none_from page.0.loan (ap is_on_loan (sym (role_at-home procs l p page.0 page.1)) ∙ g))
  ]

not_not : (b : Bool) → not b ≡ false → b ≡ true
not_not true e = refl
not_not false e = absurd (true≢false e)

-- a right with w is asked for, and is there
has_w : (right : Right) → not (is_within (record { w = true; x = false }) right) ≡ false → right.w ≡ true
has_w right e = by_w right.w right.x e
  where
    by_w : (w x : Bool) → not (is_within (record { w = true; x = false }) (record { w = w; x = x })) ≡ false → w ≡ true
    by_w true x h = refl
    by_w false x h = absurd (true≢false h)

none_of : (o : Option PageLoan) → o ≡ None → is_none o ≡ true
none_of o e = ap is_none e

module _ (procs : ℕ) (l : Ledger) (from : Place) (n : ℕ) (mutably : Bool) (there : any_free procs l from n ≡ false)
    (sent : any_not_sent procs l from n mutably ≡ false) (p : Place) (t : in_run from n p ≡ true) where
  sent_parts : (any_on_loan procs l from n ≡ false) × (any_console l from n ≡ false)
      × ((mutably && any_lacks (record { w = true; x = false }) l from n) ≡ false)
  sent_parts =
      let a = or_parts (any_on_loan procs l from n || any_console l from n) (mutably && any_lacks (record { w = true; x = false }) l from n) sent in
      let b = or_parts (any_on_loan procs l from n) (any_console l from n) a.0 in
      (b.0, b.1, a.1)

  sent_page : (page : Page) × (l.home p ≡ Some page) × (page.loan ≡ None)
  unfolding any_free any_on_loan
  sent_page = own_page procs l p (none_fails (is_free procs l) from n p there t)
      (none_fails (λ q. is_on_loan (role_at procs l q)) from n p
      sent_parts.0 t)

  sent_bytes : has_bytes sent_page.0.contents ≡ true
  unfolding any_console
  sent_bytes = not_not (has_bytes sent_page.0.contents) (ap is_console (sym sent_page.1)
      ∙ none_fails (λ q. is_console (l.home q)) from n p
      sent_parts.1 t)

  sent_w : mutably ≡ true → sent_page.0.right.w ≡ true
  unfolding any_lacks
  sent_w m = has_w sent_page.0.right (ap (asks_more (record { w = true; x = false })) (sym sent_page.1)
      ∙ none_fails (λ q. asks_more (record { w = true; x = false }) (l.home q)) from n p
      (ap (λ b. b && any_lacks (record { w = true; x = false }) l from n) (sym m)
      ∙ sent_parts.2) t)

  -- it may be moved
  pub sent_may_move : may_move (l.home p) ≡ true
  sent_may_move = ap may_move sent_page.1 ∙ and_from (has_bytes sent_page.0.contents) (is_none sent_page.0.loan) sent_bytes (none_of sent_page.0.loan sent_page.2)

-- .. and lent
pub sent_may_lend : (procs : ℕ) (l : Ledger) (from : Place) (n : ℕ) (kind : LoanKind) → any_free procs l from n ≡ false
    → any_not_sent procs l from n (is_exclusive kind) ≡ false → (p : Place) → in_run from n p ≡ true → may_lend kind (l.home p) ≡ true
sent_may_lend procs l from n Shared there sent p t = sent_may_move procs l from n false there sent p t
sent_may_lend procs l from n Exclusive there sent p t =
    let page = sent_page procs l from n true there sent p t in
    ap (may_lend Exclusive) page.1 ∙ and_from (has_bytes page.0.contents && is_none page.0.loan) page.0.right.w
    (and_from (has_bytes page.0.contents) (is_none page.0.loan) (sent_bytes procs l from n true there sent p t) (none_of page.0.loan page.2))
    (sent_w procs l from n true there sent p t refl)
