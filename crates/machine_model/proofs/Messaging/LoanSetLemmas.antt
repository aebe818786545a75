-- Loans of many messages: one at a time, and none.
use Rattle.std.proofs.Common.{◌≡◌, ℕ, Bool, true, false, Option, Some, None, refl, sym, ap, ◌∙◌}
use Rattle.std.specs.Prelude.{◌||◌, if◌then◌else◌}
use Rattle.std.specs.Option.{option_map}
use Rattle.xk_base.specs.declared.ids.Number.{Number}
use Rattle.ledger_model.specs.Ledger.{Ledger, Page, PageLoan, Orphan}
use Rattle.ledger_model.specs.Loans.{same_number}
use Rattle.ledger_model.specs.Steps.{end_loan, orphan_loan, has_number, page_without}
use Rattle.ledger_model.proofs.LedgerLemmas.{same_ledger}
use Rattle.machine_model.specs.Messaging.LoanSets.{end_loans, orphan_loans, loan_but, freed_but, orphan_but, is_lent_by, page_but}

-- these numbers and those
abbrev pub either : (Number → Bool) → (Number → Bool) → Number → Bool
either some others n = some n || others n

loan_if : (others : Number → Bool) (loan : PageLoan) (b : Bool)
    → loan_but others (if b then None else Some loan) ≡ (if b || others loan.number then None else Some loan)
loan_if others loan true = refl
loan_if others loan false = refl

loan_both : (some others : Number → Bool) (o : Option PageLoan) → loan_but others (loan_but some o) ≡ loan_but (either some others) o
loan_both some others None = refl
loan_both some others (Some loan) = loan_if others loan (some loan.number)

orphan_if : (others : Number → Bool) (orphan : Orphan) (b : Bool)
    → orphan_but others (if b then None else Some orphan) ≡ (if b || others orphan.number then None else Some orphan)
orphan_if others orphan true = refl
orphan_if others orphan false = refl

orphan_both : (some others : Number → Bool) (o : Option Orphan)
    → orphan_but others (orphan_but some o) ≡ orphan_but (either some others) o
orphan_both some others None = refl
orphan_both some others (Some orphan) = orphan_if others orphan (some orphan.number)

page_both : (some others : Number → Bool) (o : Option Page)
    → option_map (freed_but others) (option_map (freed_but some) o) ≡ option_map (freed_but (either some others)) o
page_both some others None = refl
page_both some others (Some page) = λ i. Some (record page { loan = loan_both some others page.loan i })

-- the loans of two sets end one set after the other
pub both_end : (some others : Number → Bool) (l : Ledger) → end_loans others (end_loans some l) ≡ end_loans (either some others) l
unfolding end_loans
both_end some others l =
    same_ledger (end_loans others (end_loans some l)) (end_loans (either some others) l)
    (λ p. page_both some others (l.home p)) (λ p. orphan_both some others (l.orphan p))

-- where the set is one number, it is the step for that number
pub only_one_ends : (number : Number) (l : Ledger) → end_loans (λ n. same_number n number) l ≡ end_loan number l
unfolding end_loan end_loans
only_one_ends number l = refl

-- the loans of a set end one at a time
pub one_more_ends : (ends : Number → Bool) (number : Number) (l : Ledger)
    → end_loan number (end_loans ends l) ≡ end_loans (λ n. ends n || same_number n number) l
one_more_ends ends number l =
    sym (only_one_ends number (end_loans ends l)) ∙ both_end ends (λ n. same_number n number) l

lent_alike : (number : Number) (o : Option PageLoan) → is_lent_by (λ n. same_number n number) o ≡ has_number number o
lent_alike number None = refl
lent_alike number (Some loan) = refl

page_goes_alike : (number : Number) (o : Option Page) → page_but (λ n. same_number n number) o ≡ page_without number o
page_goes_alike number None = refl
page_goes_alike number (Some page) = ap (λ b. if b then None else Some page) (lent_alike number page.loan)

pub only_one_is_orphaned : (procs : ℕ) (number : Number) (l : Ledger)
    → orphan_loans procs (λ n. same_number n number) l ≡ orphan_loan procs number l
unfolding orphan_loan orphan_loans
only_one_is_orphaned procs number l =
    same_ledger (orphan_loans procs (λ n. same_number n number) l) (orphan_loan procs number l)
    (λ p. page_goes_alike number (l.home p)) (λ q. refl)

-- ---- where no number passes nothing changes

loan_stays : (ends : Number → Bool) → ((n : Number) → ends n ≡ false) → (o : Option PageLoan) → loan_but ends o ≡ o
loan_stays ends h None = refl
loan_stays ends h (Some loan) = rw (h loan.number) refl

orphan_stays : (ends : Number → Bool) → ((n : Number) → ends n ≡ false) → (o : Option Orphan) → orphan_but ends o ≡ o
orphan_stays ends h None = refl
orphan_stays ends h (Some orphan) = rw (h orphan.number) refl

page_stays : (ends : Number → Bool) → ((n : Number) → ends n ≡ false) → (o : Option Page) → option_map (freed_but ends) o ≡ o
page_stays ends h None = refl
page_stays ends h (Some page) = λ i. Some (record page { loan = loan_stays ends h page.loan i })

pub none_ends : (ends : Number → Bool) → ((n : Number) → ends n ≡ false) → (l : Ledger) → end_loans ends l ≡ l
unfolding end_loans
none_ends ends h l =
    same_ledger (end_loans ends l) l (λ p. page_stays ends h (l.home p)) (λ p. orphan_stays ends h (l.orphan p))
