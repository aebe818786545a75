-- Loans and orphans of one number, and what it takes that a loan still stands and a number stays fresh.
use Rattle.std.proofs.Common.{◌≡◌, ◌≢◌, Bool, true, false, ◌&&◌, Option, Some, None, refl, sym, ap, subst, ◌∙◌, inl, inr}
use Rattle.std.specs.Prelude.{is_some, is_none}
use Rattle.std.specs.Option.{option_and_then, option_map}
use Rattle.std.proofs.lemmas.Bool.{cases_Bool, cond-true, cond-false}
use Rattle.std.proofs.lemmas.Option.{none-some, same_Some}
use Rattle.xk_base.specs.declared.ids.Number.{Number}
use Rattle.xk_base.specs.declared.ids.Place.{Place}
use Rattle.ledger_model.specs.Lawful.{IsOneRun}
use Rattle.ledger_model.specs.Ledger.{Ledger, PageLoan, Orphan}
use Rattle.ledger_model.specs.Loans.{Loans, OrphanLoan, loans, loan_of_orphan, orphan_loan_at, LoanRun, same_number, of_number, orphan_of_number, lent_from, loan_of_run, orphan_of_run, Stands, IsFresh}
use Rattle.ledger_model.specs.Places.{in_run, moved}
use Rattle.ledger_model.specs.Steps.{loan_without, orphan_without}
use Rattle.ledger_model.proofs.LedgerLemmas.{same_number-true, same_number-at, same_number-apart, same_number-false}

-- ---- a loan is of a number or not

-- what a loan of a number is
pub of_number-Some : (number : Number) (o : Option PageLoan) (x : PageLoan) → of_number number o ≡ Some x
    → (o ≡ Some x) × (x.number ≡ number)
of_number-Some number None x e = absurd (none-some x e)
of_number-Some number (Some y) x e = elim (cases_Bool (same_number y.number number)) [
  | inl t ↦ let same : Some y ≡ Some x = sym (cond-true (same_number y.number number) (Some y) None t) ∙ e in
      (same, subst (λ (z : PageLoan). z.number ≡ number) (same_Some y x same) (same_number-true y.number number t))
  | inr f ↦ absurd (none-some x (sym (cond-false (same_number y.number number) (Some y) None f) ∙ e))
]

pub of_number-at : (number : Number) (x : PageLoan) → x.number ≡ number → of_number number (Some x) ≡ Some x
of_number-at number x e = cond-true (same_number x.number number) (Some x) None (same_number-at x.number number e)

pub of_number-apart : (number : Number) (x : PageLoan) → x.number ≢ number → of_number number (Some x) ≡ None
of_number-apart number x ne = cond-false (same_number x.number number) (Some x) None (same_number-apart x.number number ne)

-- a loan that is there and isn't of the number has another
pub of_number-None : (number : Number) (o : Option PageLoan) (x : PageLoan) → of_number number o ≡ None → o ≡ Some x
    → x.number ≢ number
of_number-None number o x e h same = none-some x (sym e ∙ (ap (of_number number) h ∙ of_number-at number x same))

pub orphan_of_number-Some : (number : Number) (o : Option OrphanLoan) (x : OrphanLoan)
    → orphan_of_number number o ≡ Some x → (o ≡ Some x) × (x.number ≡ number)
orphan_of_number-Some number None x e = absurd (none-some x e)
orphan_of_number-Some number (Some y) x e = elim (cases_Bool (same_number y.number number)) [
  | inl t ↦ let same : Some y ≡ Some x = sym (cond-true (same_number y.number number) (Some y) None t) ∙ e in
      (same, subst (λ (z : OrphanLoan). z.number ≡ number) (same_Some y x same) (same_number-true y.number number t))
  | inr f ↦ absurd (none-some x (sym (cond-false (same_number y.number number) (Some y) None f) ∙ e))
]

pub orphan_of_number-at : (number : Number) (x : OrphanLoan) → x.number ≡ number
    → orphan_of_number number (Some x) ≡ Some x
orphan_of_number-at number x e = cond-true (same_number x.number number) (Some x) None (same_number-at x.number number e)

pub orphan_of_number-apart : (number : Number) (x : OrphanLoan) → x.number ≢ number
    → orphan_of_number number (Some x) ≡ None
orphan_of_number-apart number x ne = cond-false (same_number x.number number) (Some x) None (same_number-apart x.number number ne)

pub orphan_of_number-None : (number : Number) (o : Option OrphanLoan) (x : OrphanLoan)
    → orphan_of_number number o ≡ None → o ≡ Some x → x.number ≢ number
orphan_of_number-None number o x e h same = none-some x (sym e ∙ (ap (orphan_of_number number) h ∙ orphan_of_number-at number x same))

-- ---- without the loans of a number

-- none of that number is left ..
pub of_number-without : (number : Number) (o : Option PageLoan) → of_number number (loan_without number o) ≡ None
of_number-without number None = refl
of_number-without number (Some x) = elim (cases_Bool (same_number x.number number)) [
  | inl t ↦ ap (of_number number) (cond-true (same_number x.number number) None (Some x) t)
  | inr f ↦ ap (of_number number) (cond-false (same_number x.number number) None (Some x) f) ∙ of_number-apart number x (same_number-false x.number number f)
]

-- .. and those of other numbers stay
pub of_number-without_other : (number other : Number) (o : Option PageLoan) → other ≢ number
    → of_number other (loan_without number o) ≡ of_number other o
of_number-without_other number other None ne = refl
of_number-without_other number other (Some x) ne = elim (cases_Bool (same_number x.number number)) [
  | inl t ↦ ap (of_number other) (cond-true (same_number x.number number) None (Some x) t)
      ∙ sym (of_number-apart other x (λ e. ne (sym e ∙ same_number-true x.number number t)))
  | inr f ↦ ap (of_number other) (cond-false (same_number x.number number) None (Some x) f)
]

pub loan_without-None : (number : Number) (o : Option PageLoan) → of_number number o ≡ None
    → loan_without number o ≡ o
loan_without-None number None e = refl
loan_without-None number (Some x) e = cond-false (same_number x.number number) None (Some x) (same_number-apart x.number number (of_number-None number (Some x) x e refl))

pub loan_without-Some : (number : Number) (o : Option PageLoan) (x : PageLoan) → of_number number o ≡ Some x
    → loan_without number o ≡ None
loan_without-Some number o x e =
    let h : (o ≡ Some x) × (x.number ≡ number) = of_number-Some number o x e in
    ap (loan_without number) h.0 ∙ cond-true (same_number x.number number) None (Some x) (same_number-at x.number number h.1)

pub loan_without-old : (number : Number) (o : Option PageLoan) (x : PageLoan) → loan_without number o ≡ Some x
    → o ≡ Some x
loan_without-old number None x e = absurd (none-some x e)
loan_without-old number (Some y) x e = elim (cases_Bool (same_number y.number number)) [
  | inl t ↦ absurd (none-some x (sym (cond-true (same_number y.number number) None (Some y) t) ∙ e))
  | inr f ↦ sym (cond-false (same_number y.number number) None (Some y) f) ∙ e
]

-- the same of orphans
pub orphan_without-at : (number : Number) (x : Orphan) → x.number ≡ number → orphan_without number (Some x) ≡ None
orphan_without-at number x e = cond-true (same_number x.number number) None (Some x) (same_number-at x.number number e)

pub orphan_without-apart : (number : Number) (x : Orphan) → x.number ≢ number
    → orphan_without number (Some x) ≡ Some x
orphan_without-apart number x ne = cond-false (same_number x.number number) None (Some x) (same_number-apart x.number number ne)

pub orphan_of_number-without : (number : Number) (o : Option Orphan)
    → orphan_of_number number (option_map loan_of_orphan (orphan_without number o)) ≡ None
orphan_of_number-without number None = refl
orphan_of_number-without number (Some x) = elim (cases_Bool (same_number x.number number)) [
  | inl t ↦ ap (λ (o : Option Orphan). orphan_of_number number (option_map loan_of_orphan o)) (cond-true (same_number x.number number) None (Some x) t)
  | inr f ↦ ap (λ (o : Option Orphan). orphan_of_number number (option_map loan_of_orphan o)) (cond-false (same_number x.number number) None (Some x) f)
      ∙ orphan_of_number-apart number (loan_of_orphan x) (same_number-false x.number number f)
]

pub orphan_of_number-without_other : (number other : Number) (o : Option Orphan) → other ≢ number
    → orphan_of_number other (option_map loan_of_orphan (orphan_without number o)) ≡ orphan_of_number other (option_map loan_of_orphan o)
orphan_of_number-without_other number other None ne = refl
orphan_of_number-without_other number other (Some x) ne = elim (cases_Bool (same_number x.number number)) [
  | inl t ↦ ap (λ (o : Option Orphan). orphan_of_number other (option_map loan_of_orphan o)) (cond-true (same_number x.number number) None (Some x) t)
      ∙ sym (orphan_of_number-apart other (loan_of_orphan x) (λ e. ne (sym e ∙ same_number-true x.number number t)))
  | inr f ↦ ap (λ (o : Option Orphan). orphan_of_number other (option_map loan_of_orphan o)) (cond-false (same_number x.number number) None (Some x) f)
]

pub orphan_without-None : (number : Number) (o : Option Orphan)
    → orphan_of_number number (option_map loan_of_orphan o) ≡ None → orphan_without number o ≡ o
orphan_without-None number None e = refl
orphan_without-None number (Some x) e = orphan_without-apart number x (orphan_of_number-None number (Some (loan_of_orphan x)) (loan_of_orphan x) e refl)

pub orphan_without-Some : (number : Number) (o : Option Orphan) (k : OrphanLoan)
    → orphan_of_number number (option_map loan_of_orphan o) ≡ Some k
    → (is_some o ≡ true) × (orphan_without number o ≡ None)
orphan_without-Some number None k e = absurd (none-some k e)
orphan_without-Some number (Some x) k e =
    let h : (Some (loan_of_orphan x) ≡ Some k) × (k.number ≡ number) =
    orphan_of_number-Some number (Some (loan_of_orphan x)) k e in
    (refl, orphan_without-at number x (ap (λ (z : OrphanLoan). z.number) (same_Some (loan_of_orphan x) k h.0) ∙ h.1))

pub orphan_without-old : (number : Number) (o : Option Orphan) (x : Orphan) → orphan_without number o ≡ Some x
    → o ≡ Some x
orphan_without-old number None x e = absurd (none-some x e)
orphan_without-old number (Some y) x e = elim (cases_Bool (same_number y.number number)) [
  | inl t ↦ absurd (none-some x (sym (cond-true (same_number y.number number) None (Some y) t) ∙ e))
  | inr f ↦ sym (cond-false (same_number y.number number) None (Some y) f) ∙ e
]

-- ---- loans that agree on a number

pub record SameOf (number : Number) (x y : Loans) : Type 0 where
  pub homes : (p : Place) → of_number number (y.home p) ≡ of_number number (x.home p)
  pub orphans : (p : Place) → orphan_of_number number (y.orphan p) ≡ orphan_of_number number (x.orphan p)

pub stands_still : (x y : Loans) (r : LoanRun) → SameOf r.number x y → Stands x r → Stands y r
stands_still x y r same h = record {
  homes = λ p. same.homes p ∙ h.homes p;
  orphans = λ p. same.orphans p ∙ h.orphans p;
}

pub fresh_still : (x y : Loans) (number : Number) → SameOf number x y → IsFresh x number → IsFresh y number
fresh_still x y number same h = record {
  homes = λ p. same.homes p ∙ h.homes p;
  orphans = λ p. same.orphans p ∙ h.orphans p;
}

pub run_still : (l m : Ledger) (number : Number) → SameOf number (loans l) (loans m) → IsOneRun l number
    → IsOneRun m number
run_still l m number same (inl fresh) = inl (fresh_still (loans l) (loans m) number same fresh)
run_still l m number same (inr (r, e, stands)) =
    inr (r, e, stands_still (loans l) (loans m) r (subst (λ n. SameOf n (loans l) (loans m)) (sym e) same) stands)

-- ---- the loans and orphans that a run makes

and_false : (b : Bool) → (b && false) ≡ false
and_false true = refl
and_false false = refl

pub loan_of_run-inside : (r : LoanRun) (from p : Place) → r.lender ≡ Some from → in_run from r.count p ≡ true
    → loan_of_run r p ≡ Some (record { holder = moved from r.holder p; kind = r.kind; number = r.number })
loan_of_run-inside r from p e t = ap (option_and_then (λ f. lent_from r f p)) e
    ∙ cond-true (in_run from r.count p) (Some (record { holder = moved from r.holder p; kind = r.kind; number = r.number })) None t

pub loan_of_run-outside : (r : LoanRun) (from p : Place) → r.lender ≡ Some from → in_run from r.count p ≡ false
    → loan_of_run r p ≡ None
loan_of_run-outside r from p e f = ap (option_and_then (λ g. lent_from r g p)) e
    ∙ cond-false (in_run from r.count p) (Some (record { holder = moved from r.holder p; kind = r.kind; number = r.number })) None f

pub loan_of_run-None : (r : LoanRun) (p : Place) → r.lender ≡ None → loan_of_run r p ≡ None
loan_of_run-None r p e = ap (option_and_then (λ f. lent_from r f p)) e

pub orphan_of_run-lent : (r : LoanRun) (from p : Place) → r.lender ≡ Some from → orphan_of_run r p ≡ None
orphan_of_run-lent r from p e = rw e refl

pub orphan_of_run-inside : (r : LoanRun) (p : Place) → r.lender ≡ None → in_run r.holder r.count p ≡ true → orphan_of_run r p ≡ Some (record { kind = r.kind; number = r.number })
orphan_of_run-inside r p e t = rw (e, t) refl

pub orphan_of_run-outside : (r : LoanRun) (p : Place) → in_run r.holder r.count p ≡ false → orphan_of_run r p ≡ None
orphan_of_run-outside r p f = rw (f, and_false (is_none r.lender)) refl

-- ---- what stands at the places of a loan

-- the page of a loan with a lender
pub stands-home : (x : Loans) (r : LoanRun) (from p : Place) → Stands x r → r.lender ≡ Some from
    → in_run from r.count p ≡ true
    → x.home p ≡ Some (record { holder = moved from r.holder p; kind = r.kind; number = r.number })
stands-home x r from p h e t =
    (of_number-Some r.number (x.home p) (record { holder = moved from r.holder p; kind = r.kind; number = r.number })
    (h.homes p ∙ loan_of_run-inside r from p e t)).0

-- the orphan of a loan without a lender
pub stands-orphan : (l : Ledger) (r : LoanRun) (p : Place) → Stands (loans l) r → r.lender ≡ None
    → in_run r.holder r.count p ≡ true
    → (o : Orphan) × (l.orphan p ≡ Some o) × (o.kind ≡ r.kind) × (o.number ≡ r.number)
unfolding loans
stands-orphan l r p h e t =
    orphan_at (l.orphan p)
    (orphan_of_number-Some r.number (orphan_loan_at l p) (record { kind = r.kind; number = r.number }) (h.orphans p ∙ orphan_of_run-inside r p e t)).0
  where
    orphan_at : (o : Option Orphan) → option_map loan_of_orphan o ≡ Some (record { kind = r.kind; number = r.number })
        → (x : Orphan) × (o ≡ Some x) × (x.kind ≡ r.kind) × (x.number ≡ r.number)
    orphan_at None q = absurd (none-some (record { kind = r.kind; number = r.number }) q)
    orphan_at (Some x) q =
        let same : loan_of_orphan x ≡ record { kind = r.kind; number = r.number } =
        same_Some (loan_of_orphan x) (record { kind = r.kind; number = r.number }) q in
        (x, refl, ap (λ (k : OrphanLoan). k.kind) same, ap (λ (k : OrphanLoan). k.number) same)
