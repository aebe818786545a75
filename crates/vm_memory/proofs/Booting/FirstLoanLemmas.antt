-- No loan stands in a ledger that is the first one but for its bytes.
use Rattle.std.proofs.Common.{◌≡◌, ℕ, List, Option, Some, None, refl, sym, ap, ◌∙◌}
use Rattle.std.specs.Option.{option_map}
use Rattle.std.proofs.lemmas.Option.{none-some}
use Rattle.xk_base.specs.declared.ids.Number.{Number}
use Rattle.boot_plan.specs.declared.plans.BootPlan.{BootPlan}
use Rattle.boot_plan.specs.declared.plans.PagePlan.{PagePlan}
use Rattle.ledger_model.specs.Ledger.{Ledger, Page, Orphan, loan_of}
use Rattle.ledger_model.specs.Loans.{bare, bare_page, bare_orphan, loans, IsFresh, loan_of_orphan, of_number, orphan_of_number}
use Rattle.vm_memory.specs.FirstLedger.{first_ledger, first_page}

bare_loan : (o : Option Page) → loan_of (option_map bare_page o) ≡ loan_of o
bare_loan None = refl
bare_loan (Some page) = refl

first_loan : (file : List ℕ) (o : Option PagePlan) → loan_of (option_map bare_page (option_map (first_page file) o)) ≡ None
first_loan file None = refl
first_loan file (Some page) = refl

no_orphan : (o : Option Orphan) → option_map bare_orphan o ≡ None → option_map loan_of_orphan o ≡ None
no_orphan None e = refl
no_orphan (Some orphan) e = absurd (none-some (bare_orphan orphan) (sym e))

pub first_fresh : (plan : BootPlan) (file : List ℕ) (l : Ledger) → bare l ≡ bare (first_ledger plan file) → (number : Number) → IsFresh (loans l) number
unfolding bare first_ledger loans
first_fresh plan file l e number = record {
  homes = λ p. ap (of_number number) (sym (bare_loan (l.home p)) ∙ (ap (λ (b : Ledger). loan_of (b.home p)) e ∙ first_loan file _));
  orphans = λ p. ap (orphan_of_number number) (no_orphan (l.orphan p) (ap (λ (b : Ledger). b.orphan p) e));
}
