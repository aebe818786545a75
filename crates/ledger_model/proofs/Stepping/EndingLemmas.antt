-- Laws of `end_loan`.
use Rattle.std.proofs.Common.{◌≡◌, ◌≢◌, ℕ, ◌+◌, ◌≤◌, true, Option, Some, None, refl, sym, ap, subst, ◌∙◌, arith, inl, inr}
use Rattle.std.specs.Prelude.{◌==◌, is_some}
use Rattle.std.specs.Option.{option_map}
use Rattle.std.proofs.lemmas.Bool.{cases_Bool}
use Rattle.std.proofs.lemmas.Option.{none-some, same_Some}
use Rattle.xk_base.specs.declared.ids.Number.{Number}
use Rattle.xk_base.specs.declared.ids.Place.{Place}
use Rattle.xk_base.specs.declared.windows.Window.TheVariants.{Message}
use Rattle.ledger_model.specs.Lawful.{IsLawful, IsOneRun}
use Rattle.ledger_model.specs.Ledger.{Ledger, Page, Orphan, loan_at, loan_of, is_counted, pages}
use Rattle.ledger_model.specs.Loans.{loans, LoanRun, of_number, Stands, IsFresh}
use Rattle.ledger_model.specs.Places.{in_run, place_after, count_places}
use Rattle.ledger_model.specs.Steps.{end_loan, freed, loan_without, orphan_without}
use Rattle.ledger_model.proofs.LedgerLemmas.{same_number-true, same_number-false}
use Rattle.ledger_model.proofs.NarrowerLemmas.{ComesFrom, Narrower, lawful_narrower}
use Rattle.ledger_model.proofs.Loans.NumberingLemmas.{count_places-same, count_places-le, count_places-run, is_place_in-user}
use Rattle.ledger_model.proofs.Loans.OfNumberLemmas.{of_number-without, of_number-without_other, loan_without-old, orphan_of_number-without, orphan_of_number-without_other, orphan_without-None, orphan_without-Some, orphan_without-old, SameOf, run_still, orphan_of_run-lent, orphan_of_run-inside, orphan_of_run-outside, stands-orphan}
use Rattle.ledger_model.proofs.PlaceLemmas.{in_run-after}

-- ---- what stays and what goes

freed-loan : (number : Number) (o : Option Page)
    → loan_of (option_map (freed number) o) ≡ loan_without number (loan_of o)
freed-loan number None = refl
freed-loan number (Some page) = refl

pub end_loan_loan : (number : Number) (l : Ledger) (p : Place)
    → loan_at (end_loan number l) p ≡ loan_without number (loan_at l p)
unfolding end_loan
end_loan_loan number l p = freed-loan number (l.home p)

-- after the end of a number nothing has it ..
pub end_loan_fresh : (number : Number) (l : Ledger) → IsFresh (loans (end_loan number l)) number
unfolding end_loan loans
end_loan_fresh number l = record {
  homes = λ p. ap (of_number number) (freed-loan number (l.home p)) ∙ of_number-without number (loan_at l p);
  orphans = λ p. orphan_of_number-without number (l.orphan p);
}

-- .. and the loans of every other number stay
pub end_loan_other : (number other : Number) (l : Ledger) → other ≢ number
    → SameOf other (loans l) (loans (end_loan number l))
unfolding end_loan loans
end_loan_other number other l ne = record {
  homes = λ p. ap (of_number other) (freed-loan number (l.home p)) ∙ of_number-without_other number other (loan_at l p) ne;
  orphans = λ p. orphan_of_number-without_other number other (l.orphan p) ne;
}

pub end_loan_runs : (number other : Number) (l : Ledger) → IsOneRun l other → IsOneRun (end_loan number l) other
end_loan_runs number other l h = elim (cases_Bool (other.0 == number.0)) [
  | inl t ↦ inl (subst (IsFresh (loans (end_loan number l))) (sym (same_number-true other number t)) (end_loan_fresh number l))
  | inr f ↦ run_still l (end_loan number l) other (end_loan_other number other l (same_number-false other number f)) h
]

-- ---- it is narrower

freed_from : (number : Number) (a : Page) → ComesFrom a (freed number a)
freed_from number a = record {
  console = λ e. e;
  fetch = λ c x. x;
  loan = λ x e. loan_without-old number a.loan x e;
  right = λ x e. refl;
}

freed_home : (number : Number) (o : Option Page) (b : Page) → option_map (freed number) o ≡ Some b
    → (a : Page) × (o ≡ Some a) × (freed number a ≡ b)
freed_home number None b e = absurd (none-some b e)
freed_home number (Some a) b e = (a, refl, same_Some (freed number a) b e)

end_loan_narrower : (number : Number) (l : Ledger) → Narrower l (end_loan number l)
unfolding end_loan
end_loan_narrower number l = record {
  homes = λ p b e.
      let a : (a : Page) × (l.home p ≡ Some a) × (freed number a ≡ b) = freed_home number (l.home p) b e in
      (a.0, a.1, subst (ComesFrom a.0) a.2 (freed_from number a.0));
  orphans = λ p b e. (b, orphan_without-old number (l.orphan p) b e);
}

-- ---- pages

freed-counted : (number : Number) (o : Option Page) → is_counted (option_map (freed number) o) ≡ is_counted o
freed-counted number None = refl
freed-counted number (Some page) = refl

end_loan_homes : (procs : ℕ) (number : Number) (l : Ledger)
    → count_places procs (λ p. is_counted ((end_loan number l).home p)) ≡ count_places procs (λ p. is_counted (l.home p))
unfolding end_loan
end_loan_homes procs number l = count_places-same procs (λ p. is_counted ((end_loan number l).home p)) (λ p. is_counted (l.home p)) (λ p. freed-counted number (l.home p))

end_loan_fewer : (procs : ℕ) (number : Number) (l : Ledger) → pages procs (end_loan number l) ≤ pages procs l
unfolding pages end_loan
end_loan_fewer procs number l =
    let homes : count_places procs (λ p. is_counted ((end_loan number l).home p)) ≡ count_places procs (λ p. is_counted (l.home p)) =
    end_loan_homes procs number l in
    let orphans : count_places procs (λ p. is_some ((end_loan number l).orphan p)) ≤ count_places procs (λ p. is_some (l.orphan p)) =
    count_places-le procs (λ p. is_some ((end_loan number l).orphan p)) (λ p. is_some (l.orphan p)) (λ p e. still_some (l.orphan p) e) in
    omega arith
  where
    still_some : (o : Option Orphan) → is_some (orphan_without number o) ≡ true → is_some o ≡ true
    still_some None e = e
    still_some (Some x) e = refl

-- the end of a loan with a lender keeps the number of pages
pub end_loan_pages_lent : (procs : ℕ) (l : Ledger) (r : LoanRun) → Stands (loans l) r → (from : Place)
    → r.lender ≡ Some from → pages procs (end_loan r.number l) ≡ pages procs l
unfolding pages end_loan loans
end_loan_pages_lent procs l r stands from lent =
    let homes : count_places procs (λ p. is_counted ((end_loan r.number l).home p)) ≡ count_places procs (λ p. is_counted (l.home p)) =
    end_loan_homes procs r.number l in
    let orphans : count_places procs (λ p. is_some ((end_loan r.number l).orphan p)) ≡ count_places procs (λ p. is_some (l.orphan p)) =
    count_places-same procs (λ p. is_some ((end_loan r.number l).orphan p)) (λ p. is_some (l.orphan p))
    (λ p. ap is_some (orphan_without-None r.number (l.orphan p) (stands.orphans p ∙ orphan_of_run-lent r from p lent))) in
    omega arith

-- the end of a loan without a lender takes its pages away
pub end_loan_pages_orphan : (procs capacity : ℕ) (l : Ledger) (r : LoanRun) → IsLawful procs capacity l
    → Stands (loans l) r → r.lender ≡ None → pages procs (end_loan r.number l) + r.count ≡ pages procs l
unfolding pages end_loan loans
end_loan_pages_orphan procs capacity l r lawful stands alone =
    let homes : count_places procs (λ p. is_counted ((end_loan r.number l).home p)) ≡ count_places procs (λ p. is_counted (l.home p)) =
    end_loan_homes procs r.number l in
    let orphans : count_places procs (λ p. is_some (l.orphan p)) ≡ count_places procs (λ p. is_some ((end_loan r.number l).orphan p)) + r.count =
    count_places-run procs r.holder r.count (λ p. is_some (l.orphan p)) (λ p. is_some ((end_loan r.number l).orphan p))
    (λ i b.
    let inside : in_run r.holder r.count (place_after r.holder i) ≡ true = in_run-after r.holder r.count i b in
    let o : (o : Orphan) × (l.orphan (place_after r.holder i) ≡ Some o) × (o.kind ≡ r.kind) × (o.number ≡ r.number) =
    stands-orphan l r (place_after r.holder i) stands alone inside in
    is_place_in-user procs Message (place_after r.holder i) (lawful.orphan_lies (place_after r.holder i) o.0 o.1))
    (λ p t. let both : (is_some (l.orphan p) ≡ true) × (orphan_without r.number (l.orphan p) ≡ None) =
    orphan_without-Some r.number (l.orphan p) (record { kind = r.kind; number = r.number }) (stands.orphans p ∙ orphan_of_run-inside r p alone t) in
    (both.0, ap is_some both.1))
    (λ p f. sym (ap is_some (orphan_without-None r.number (l.orphan p) (stands.orphans p ∙ orphan_of_run-outside r p f)))) in
    omega arith

pub end_loan_lawful : (procs capacity : ℕ) (number : Number) (l : Ledger) → IsLawful procs capacity l
    → IsLawful procs capacity (end_loan number l)
end_loan_lawful procs capacity number l h =
    lawful_narrower procs capacity l (end_loan number l) h (end_loan_narrower number l) (end_loan_fewer procs number l)
    (λ other. end_loan_runs number other l (h.one_run other))
