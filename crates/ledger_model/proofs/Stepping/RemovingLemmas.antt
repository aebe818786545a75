-- Laws of `remove`, `forget`, `reduce` and `write`, the steps that leave every loan.
use Rattle.std.proofs.Common.{◌≡◌, ℕ, ◌+◌, Bool, true, false, not, ◌&&◌, ◌||◌, Option, Some, None, refl, sym, ap, subst, ◌∙◌, arith, ◌⊎◌, inl, inr}
use Rattle.std.specs.Prelude.{◌==◌, is_some, if◌then◌else◌}
use Rattle.std.specs.Option.{option_map}
use Rattle.std.proofs.lemmas.Bool.{cases_Bool, and_parts, both_ways, cond-true, cond-false, eqb-true}
use Rattle.std.proofs.lemmas.Option.{none-some, same_Some}
use Rattle.xk_base.specs.declared.ids.Number.{Number}
use Rattle.xk_base.specs.declared.ids.Pid.{Pid}
use Rattle.xk_base.specs.declared.ids.Place.{Place}
use Rattle.xk_base.specs.declared.pages.Right.{Right}
use Rattle.ledger_model.specs.Conditions.{is_lent, is_within, CanRemove, CanReduce, CanForget}
use Rattle.ledger_model.specs.Lawful.{IsLawful, IsOneRun}
use Rattle.ledger_model.specs.Ledger.{Ledger, Page, loan_at, loan_of, is_counted, pages}
use Rattle.ledger_model.specs.Loans.{Loans, loans, orphan_loan_at, loan_of_orphan, LoanRun, Stands, IsFresh}
use Rattle.ledger_model.specs.Places.{count_places}
use Rattle.ledger_model.specs.Steps.{remove, forget, reduce, with_right}
use Rattle.ledger_model.proofs.LedgerLemmas.{cases_Option, if_same, loan_at-home, loan_at-None}
use Rattle.ledger_model.proofs.NarrowerLemmas.{ComesFrom, Narrower, same_page, lawful_narrower}
use Rattle.ledger_model.proofs.Loans.NumberingLemmas.{count_places-same, count_places-split}

-- ---- ledgers with the same loans

pub same_loans : (l m : Ledger) → ((p : Place) → loan_at m p ≡ loan_at l p)
    → ((p : Place) → orphan_loan_at m p ≡ orphan_loan_at l p) → loans m ≡ loans l
unfolding loans
same_loans l m homes orphans = λ i. record { home = λ p. homes p i; orphan = λ p. orphans p i }

pub same_runs : (l m : Ledger) → loans m ≡ loans l → (number : Number) → IsOneRun l number → IsOneRun m number
same_runs l m e number h =
    let P : Loans → Type 0 = λ x. IsFresh x number ⊎ ((r : LoanRun) × (r.number ≡ number) × Stands x r) in
    subst P (sym e) h

-- a page that isn't on loan has none
pub not_lent : (o : Option Page) → is_lent o ≡ false → loan_of o ≡ None
not_lent None e = refl
not_lent (Some page) e = elim (cases_Option page.loan) [
  | inl none ↦ none
  | inr some ↦ absurd (both_ways (is_some page.loan) e (ap is_some some.1))
]

-- ---- remove

pub remove_home : (places : Place → Bool) (l : Ledger) (p : Place)
    → (remove places l).home p ≡ (if places p then None else l.home p)
unfolding remove
remove_home places l p = refl

pub remove_orphan : (places : Place → Bool) (l : Ledger) (p : Place) → (remove places l).orphan p ≡ l.orphan p
unfolding remove
remove_orphan places l p = refl

remove_loan : (places : Place → Bool) (l : Ledger) → CanRemove l places → (p : Place)
    → loan_at (remove places l) p ≡ loan_at l p
unfolding remove
remove_loan places l can p = elim (cases_Bool (places p)) [
  | inl here ↦
      loan_at-None (remove places l) p (cond-true (places p) None (l.home p) here) ∙ sym (not_lent (l.home p) (can.not_lent p here))
  | inr there ↦ ap (loan_of) (cond-false (places p) None (l.home p) there)
]

pub remove_loans : (places : Place → Bool) (l : Ledger) → CanRemove l places → loans (remove places l) ≡ loans l
remove_loans places l can = same_loans l (remove places l) (remove_loan places l can) (λ p. ap (option_map loan_of_orphan) (remove_orphan places l p))

remove_narrower : (places : Place → Bool) (l : Ledger) → Narrower l (remove places l)
unfolding remove
remove_narrower places l = record {
  homes = λ p b e. elim (cases_Bool (places p)) [
    | inl here ↦ absurd (none-some b (sym (cond-true (places p) None (l.home p) here) ∙ e))
    | inr there ↦ (b, sym (cond-false (places p) None (l.home p) there) ∙ e, same_page b)
  ];
  orphans = λ p b e. (b, e);
}

and_false : (b : Bool) → false ≡ (b && false)
and_false true = refl
and_false false = refl

and_true : (b : Bool) → b ≡ (b && true)
and_true true = refl
and_true false = refl

counted_without : (b : Bool) (o : Option Page) → is_counted (if b then None else o) ≡ (is_counted o && not b)
counted_without true o = and_false (is_counted o)
counted_without false o = and_true (is_counted o)

-- the pages that go are those at the places, but for the console
pub remove_pages : (procs : ℕ) (places : Place → Bool) (l : Ledger)
    → pages procs (remove places l) + count_places procs (λ p. is_counted (l.home p) && places p) ≡ pages procs l
unfolding remove pages
remove_pages procs places l =
    let parts : count_places procs (λ p. is_counted (l.home p)) ≡ count_places procs (λ p. is_counted (l.home p) && places p) + count_places procs (λ p. is_counted (l.home p) && not (places p)) =
    count_places-split procs (λ p. is_counted (l.home p)) places in
    let left : count_places procs (λ p. is_counted ((remove places l).home p)) ≡ count_places procs (λ p. is_counted (l.home p) && not (places p)) =
    count_places-same procs (λ p. is_counted ((remove places l).home p)) (λ p. is_counted (l.home p) && not (places p)) (λ p. counted_without (places p) (l.home p)) in
    omega arith

pub remove_lawful : (procs capacity : ℕ) (places : Place → Bool) (l : Ledger) → IsLawful procs capacity l
    → CanRemove l places → IsLawful procs capacity (remove places l)
remove_lawful procs capacity places l h can =
    lawful_narrower procs capacity l (remove places l) h (remove_narrower places l)
    (let e : pages procs (remove places l) + count_places procs (λ p. is_counted (l.home p) && places p) ≡ pages procs l = remove_pages procs places l in omega arith)
    (λ number. same_runs l (remove places l) (remove_loans places l can) number (h.one_run number))

-- ---- forget: the pages at all places of the process go

pub forget_remove : (pid : Pid) (l : Ledger) → forget pid l ≡ remove (λ p. p.pid.0 == pid.0) l
unfolding forget remove
forget_remove pid l = refl

forgettable : (pid : Pid) (l : Ledger) → CanForget l pid → CanRemove l (λ p. p.pid.0 == pid.0)
forgettable pid l can = record { not_lent = λ p e. can.not_lent p (eqb-true p.pid.0 pid.0 e) }

pub forget_loans : (pid : Pid) (l : Ledger) → CanForget l pid → loans (forget pid l) ≡ loans l
forget_loans pid l can = ap loans (forget_remove pid l) ∙ remove_loans (λ p. p.pid.0 == pid.0) l (forgettable pid l can)

pub forget_pages : (procs : ℕ) (pid : Pid) (l : Ledger)
    → pages procs (forget pid l) + count_places procs (λ p. is_counted (l.home p) && (p.pid.0 == pid.0)) ≡ pages procs l
forget_pages procs pid l = rw (forget_remove pid l) (remove_pages procs (λ p. p.pid.0 == pid.0) l)

pub forget_lawful : (procs capacity : ℕ) (pid : Pid) (l : Ledger) → IsLawful procs capacity l → CanForget l pid
    → IsLawful procs capacity (forget pid l)
forget_lawful procs capacity pid l h can =
    subst (IsLawful procs capacity) (sym (forget_remove pid l)) (remove_lawful procs capacity (λ p. p.pid.0 == pid.0) l h (forgettable pid l can))

reduced-loan : (right : Right) (o : Option Page) → loan_of (option_map (with_right right) o) ≡ loan_of o
reduced-loan right None = refl
reduced-loan right (Some page) = refl

reduced-counted : (right : Right) (o : Option Page) → is_counted (option_map (with_right right) o) ≡ is_counted o
reduced-counted right None = refl
reduced-counted right (Some page) = refl

pub reduce_loans : (places : Place → Bool) (right : Right) (l : Ledger) → loans (reduce places right l) ≡ loans l
unfolding reduce
reduce_loans places right l = same_loans l (reduce places right l)
    (λ p. if_same (places p) loan_of (option_map (with_right right) (l.home p)) (l.home p) (reduced-loan right (l.home p)))
    (λ p. refl)

pub reduce_pages : (procs : ℕ) (places : Place → Bool) (right : Right) (l : Ledger)
    → pages procs (reduce places right l) ≡ pages procs l
unfolding reduce pages
reduce_pages procs places right l =
    ap (λ n. n + count_places procs (λ p. is_some (l.orphan p)))
    (count_places-same procs (λ p. is_counted ((reduce places right l).home p)) (λ p. is_counted (l.home p))
    (λ p. if_same (places p) is_counted (option_map (with_right right) (l.home p)) (l.home p) (reduced-counted right (l.home p))))

-- the x of a right within a right without x
no_more_x : (asked had : Right) → is_within asked had ≡ true → had.x ≡ false → asked.x ≡ false
no_more_x asked had e f = elim (cases_Bool asked.x) [
  | inl t ↦ absurd (both_ways (not asked.x || had.x) (rw (t, f) refl) (and_parts (not asked.w || had.w) (not asked.x || had.x) e).1)
  | inr x ↦ x
]

reduced_from : (right : Right) (a : Page) → a.loan ≡ None → is_within right a.right ≡ true
    → ComesFrom a (with_right right a)
reduced_from right a none within = record {
  console = λ e. e;
  fetch = λ c x. no_more_x right a.right within x;
  loan = λ x e. e;
  right = λ x e. absurd (none-some x (sym none ∙ e));
}

reduced_home : (right : Right) (o : Option Page) (b : Page) → option_map (with_right right) o ≡ Some b
    → (a : Page) × (o ≡ Some a) × (with_right right a ≡ b)
reduced_home right None b e = absurd (none-some b e)
reduced_home right (Some a) b e = (a, refl, same_Some (with_right right a) b e)

reduce_narrower : (places : Place → Bool) (right : Right) (l : Ledger) → CanReduce l places right
    → Narrower l (reduce places right l)
unfolding reduce
reduce_narrower places right l can = record {
  homes = λ p b e. elim (cases_Bool (places p)) [
    | inl here ↦
        let a : (a : Page) × (l.home p ≡ Some a) × (with_right right a ≡ b) =
        reduced_home right (l.home p) b (sym (cond-true (places p) (option_map (with_right right) (l.home p)) (l.home p) here) ∙ e) in
        let none : a.0.loan ≡ None = sym (loan_at-home l p a.0 a.1) ∙ not_lent (l.home p) (can.not_lent p here) in
        (a.0, a.1, subst (ComesFrom a.0) a.2 (reduced_from right a.0 none (can.within p a.0 here a.1)))
    | inr there ↦ (b, sym (cond-false (places p) (option_map (with_right right) (l.home p)) (l.home p) there) ∙ e, same_page b)
  ];
  orphans = λ p b e. (b, e);
}

pub reduce_lawful : (procs capacity : ℕ) (places : Place → Bool) (right : Right) (l : Ledger)
    → IsLawful procs capacity l → CanReduce l places right → IsLawful procs capacity (reduce places right l)
reduce_lawful procs capacity places right l h can =
    lawful_narrower procs capacity l (reduce places right l) h (reduce_narrower places right l can)
    (let e : pages procs (reduce places right l) ≡ pages procs l = reduce_pages procs places right l in omega arith)
    (λ number. same_runs l (reduce places right l) (reduce_loans places right l) number (h.one_run number))
