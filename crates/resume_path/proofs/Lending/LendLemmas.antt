-- One loan more of a state stands: that of pages from their lender's places, or that of orphans.
use Rattle.std.proofs.Common.{◌≡◌, ℕ, Bool, true, false, Option, Some, None, refl, sym, ap, ◌∙◌, inl, inr}
use Rattle.std.specs.Prelude.{◌≢◌, ◌==◌, ◌||◌, if◌then◌else◌}
use Rattle.std.specs.Option.{option_map}
use Rattle.std.proofs.lemmas.Bool.{cases_Bool, cond-false, cond-true, eq-eqb}
use Rattle.ledger_model.proofs.LedgerLemmas.{same_ledger, same_number-apart}
use Rattle.ledger_model.proofs.Loans.OfNumberLemmas.{loan_of_run-outside, of_number-None, orphan_of_number-None, orphan_of_run-outside, stands-home, stands-orphan}
use Rattle.ledger_model.specs.Ledger.{Ledger, Orphan, Page, PageLoan, loan_at, loan_of}
use Rattle.ledger_model.specs.Loans.{LoanRun, OrphanLoan, Stands, loan_of_orphan, loans, orphan_loan_at}
use Rattle.ledger_model.specs.Places.{in_run, moved}
use Rattle.ledger_model.specs.Steps.{lend, with_loan}
use Rattle.xk_base.specs.declared.ids.Number.{Number}
use Rattle.xk_base.specs.declared.ids.Place.{Place}
use Rattle.xk_base.specs.declared.pages.LoanKind.{LoanKind}
use Rattle.resume_path.specs.Standing.{Standing, loan_among, orphan_among, page_among, standing, with_orphans}

-- the number too
abbrev pub and_number : (ℕ → Bool) → Number → ℕ → Bool
and_number so_far number k = so_far k || (k == number.0)

or_true : (b : Bool) → (b || true) ≡ true
or_true true = refl
or_true false = refl

or_false : (b : Bool) → (b || false) ≡ b
or_false true = refl
or_false false = refl

-- ---- loans with a lender

-- a loan of the number stands from now on, and any other as before
among_own : (so_far : ℕ → Bool) (number : Number) (loan : PageLoan) → loan.number ≡ number → loan_among (and_number so_far number) (Some loan) ≡ Some loan
among_own so_far number loan e =
    cond-true (and_number so_far number loan.number.0) (Some loan) None
    (ap (λ b. so_far loan.number.0 || b) (eq-eqb loan.number.0 number.0 (ap (λ (n : Number). n.0) e)) ∙ or_true (so_far loan.number.0))

among_other : (so_far : ℕ → Bool) (number : Number) (o : Option PageLoan) → ((loan : PageLoan) → o ≡ Some loan → loan.number ≢ number)
    → loan_among (and_number so_far number) o ≡ loan_among so_far o
among_other so_far number None apart = refl
among_other so_far number (Some loan) apart =
    ap (λ b. if b then Some loan else None)
    (ap (λ b. so_far loan.number.0 || b) (same_number-apart loan.number number (apart loan refl)) ∙ or_false (so_far loan.number.0))

page_own : (so_far : ℕ → Bool) (number : Number) (loan : PageLoan) (o : Option Page) → loan.number ≡ number → loan_of o ≡ Some loan
    → option_map (page_among (and_number so_far number)) o ≡ option_map (with_loan loan) (option_map (page_among so_far) o)
page_own so_far number loan None e is = refl
page_own so_far number loan (Some page) e is =
    ap (λ l. Some (record page { loan = l })) (ap (loan_among (and_number so_far number)) is ∙ among_own so_far number loan e)

pub page_other : (so_far : ℕ → Bool) (number : Number) (o : Option Page) → ((loan : PageLoan) → loan_of o ≡ Some loan → loan.number ≢ number)
    → option_map (page_among (and_number so_far number)) o ≡ option_map (page_among so_far) o
page_other so_far number None apart = refl
page_other so_far number (Some page) apart = ap (λ l. Some (record page { loan = l })) (among_other so_far number page.loan apart)

module _ (whole : Ledger) (part : Standing) (from : Place) (n : ℕ) (to : Place) (kind : LoanKind) (number : Number)
    (stands : Stands (loans whole) (record { lender = Some from; holder = to; count = n; kind = kind; number = number }))
    (all_homes : (p : Place) → part.homes p ≡ true) where
  abbrev run : LoanRun
  run = record { lender = Some from; holder = to; count = n; kind = kind; number = number }

  abbrev loan_to : Place → PageLoan
  loan_to p = record { holder = moved from to p; kind = kind; number = number }

  lent_here : (p : Place) → in_run from n p ≡ true → loan_at whole p ≡ Some (loan_to p)
  unfolding loans
  lent_here p inside = stands-home (loans whole) run from p stands refl inside

  not_lent_here : (p : Place) → in_run from n p ≡ false → (loan : PageLoan) → loan_at whole p ≡ Some loan → loan.number ≢ number
  unfolding loans
  not_lent_here p outside loan is = of_number-None number (loan_at whole p) loan (stands.homes p ∙ loan_of_run-outside run from p refl outside) is

  -- WITH ONE LOAN more
  pub next_lent : standing (record part { loans = and_number part.loans number }) whole ≡ lend from n to kind number (standing part whole)
  unfolding standing lend
  next_lent = same_ledger (standing (record part { loans = and_number part.loans number }) whole) (lend from n to kind number (standing part whole)) homes (λ p. refl)
    where
      homes : (p : Place) → (if part.homes p then option_map (page_among (and_number part.loans number)) (whole.home p) else None)
          ≡ (if in_run from n p then option_map (with_loan (loan_to p)) (if part.homes p then option_map (page_among part.loans) (whole.home p) else None)
          else (if part.homes p then option_map (page_among part.loans) (whole.home p) else None))
      homes p =
          ap (λ b. if b then option_map (page_among (and_number part.loans number)) (whole.home p) else None) (all_homes p)
          ∙ (elim (cases_Bool (in_run from n p)) [
            | inl inside ↦
                page_own part.loans number (loan_to p) (whole.home p) refl (lent_here p inside)
                ∙ sym (cond-true (in_run from n p) (option_map (with_loan (loan_to p)) (option_map (page_among part.loans) (whole.home p))) (option_map (page_among part.loans) (whole.home p)) inside)
            | inr outside ↦
                page_other part.loans number (whole.home p) (not_lent_here p outside)
                ∙ sym (cond-false (in_run from n p) (option_map (with_loan (loan_to p)) (option_map (page_among part.loans) (whole.home p))) (option_map (page_among part.loans) (whole.home p)) outside)
          ]
          ∙ ap (λ b. if in_run from n p then option_map (with_loan (loan_to p)) (if b then option_map (page_among part.loans) (whole.home p) else None)
          else (if b then option_map (page_among part.loans) (whole.home p) else None)) (sym (all_homes p)))

-- ---- orphans

orphan_own : (so_far : ℕ → Bool) (number : Number) (orphan : Orphan) → orphan.number ≡ number → orphan_among (and_number so_far number) (Some orphan) ≡ Some orphan
orphan_own so_far number orphan e =
    cond-true (and_number so_far number orphan.number.0) (Some orphan) None
    (ap (λ b. so_far orphan.number.0 || b) (eq-eqb orphan.number.0 number.0 (ap (λ (n : Number). n.0) e)) ∙ or_true (so_far orphan.number.0))

pub orphan_other : (so_far : ℕ → Bool) (number : Number) (o : Option Orphan) → ((loan : OrphanLoan) → option_map loan_of_orphan o ≡ Some loan → loan.number ≢ number)
    → orphan_among (and_number so_far number) o ≡ orphan_among so_far o
orphan_other so_far number None apart = refl
orphan_other so_far number (Some orphan) apart =
    ap (λ b. if b then Some orphan else None)
    (ap (λ b. so_far orphan.number.0 || b) (same_number-apart orphan.number number (apart (loan_of_orphan orphan) refl)) ∙ or_false (so_far orphan.number.0))

module _ (whole : Ledger) (so_far : ℕ → Bool) (n : ℕ) (to : Place) (kind : LoanKind) (number : Number)
    (stands : Stands (loans whole) (record { lender = None; holder = to; count = n; kind = kind; number = number })) where
  abbrev orphans_of : (ℕ → Bool) → Standing
  orphans_of numbers = record { orphans = numbers; homes = λ p. false; loans = λ k. false }

  abbrev orphan_run : LoanRun
  orphan_run = record { lender = None; holder = to; count = n; kind = kind; number = number }

  orphan_here : (p : Place) → in_run to n p ≡ true → orphan_among (and_number so_far number) (whole.orphan p) ≡ whole.orphan p
  orphan_here p inside =
      let o = stands-orphan whole orphan_run p stands refl inside in
      ap (orphan_among (and_number so_far number)) o.1 ∙ (orphan_own so_far number o.0 o.3 ∙ sym o.1)

  not_orphaned_here : (p : Place) → in_run to n p ≡ false → (loan : OrphanLoan) → option_map loan_of_orphan (whole.orphan p) ≡ Some loan → loan.number ≢ number
  unfolding loans
  not_orphaned_here p outside loan is = orphan_of_number-None number (orphan_loan_at whole p) loan (stands.orphans p ∙ orphan_of_run-outside orphan_run p outside) is

  -- WITH THE ORPHANS of one loan more
  pub next_orphaned : standing (orphans_of (and_number so_far number)) whole ≡ with_orphans whole to n (standing (orphans_of so_far) whole)
  unfolding standing with_orphans
  next_orphaned = same_ledger (standing (orphans_of (and_number so_far number)) whole) (with_orphans whole to n (standing (orphans_of so_far) whole)) (λ p. refl) orphans
    where
      orphans : (p : Place) → orphan_among (and_number so_far number) (whole.orphan p) ≡ (if in_run to n p then whole.orphan p else orphan_among so_far (whole.orphan p))
      orphans p = elim (cases_Bool (in_run to n p)) [
        | inl inside ↦ orphan_here p inside ∙ sym (cond-true (in_run to n p) (whole.orphan p) (orphan_among so_far (whole.orphan p)) inside)
        | inr outside ↦ orphan_other so_far number (whole.orphan p) (not_orphaned_here p outside) ∙ sym (cond-false (in_run to n p) (whole.orphan p) (orphan_among so_far (whole.orphan p)) outside)
      ]
