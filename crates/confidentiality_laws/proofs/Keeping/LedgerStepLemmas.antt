-- The steps of the ledger by which pages stand where they stood or go: remove, reduce, forget, lend, end, pass.
use Rattle.std.proofs.Common.{◌≡◌, ℕ, Bool, true, false, Option, Some, None, refl, sym, ap, ◌∙◌}
use Rattle.std.specs.Prelude.{if◌then◌else◌}
use Rattle.std.specs.Option.{option_map}
use Rattle.std.proofs.lemmas.Option.{none-some, same_Some}
use Rattle.xk_base.specs.declared.ids.Number.{Number}
use Rattle.xk_base.specs.declared.ids.Place.{Place}
use Rattle.xk_base.specs.declared.pages.LoanKind.{LoanKind}
use Rattle.xk_base.specs.declared.pages.Right.{Right}
use Rattle.ledger_model.specs.Ledger.{Ledger, Page, Orphan}
use Rattle.ledger_model.specs.Loans.{same_number}
use Rattle.ledger_model.specs.Places.{in_run, moved}
use Rattle.ledger_model.specs.Steps.{end_loan, freed, lend, pass, passed, reduce, remove, with_loan, with_right}
use Rattle.machine_model.specs.Messaging.LoanSets.{end_loans, freed_but, orphan_but}
use Rattle.confidentiality_laws.proofs.Keeping.StandingPageLemmas.{OnlyGoes, StoodAt}

-- ---- pages one by one

-- a page that is there as it was, or as what keeps its bytes makes of it
changed_stood : (l : Ledger) (p : Place) (f : Page → Page) → ((page : Page) → (f page).contents ≡ page.contents)
    → (o : Option Page)
    → l.home p ≡ o → (page : Page) → option_map f o ≡ Some page → StoodAt l p page
changed_stood l p f keeps None q page e = absurd (none-some page e)
changed_stood l p f keeps (Some old) q page e =
    record { old = old; stood = q; same = sym (ap (λ (x : Page). x.contents) (same_Some (f old) page e)) ∙ keeps old }

changed_if_stood : (l : Ledger) (p : Place) (f : Page → Page) → ((page : Page) → (f page).contents ≡ page.contents)
    → (b : Bool) (page : Page)
    → (if b then option_map f (l.home p) else l.home p) ≡ Some page → StoodAt l p page
changed_if_stood l p f keeps true page e = changed_stood l p f keeps (l.home p) refl page e
changed_if_stood l p f keeps false page e = record { old = page; stood = e; same = refl }

left_stood : (l : Ledger) (p : Place) (b : Bool) (page : Page) → (if b then None else l.home p) ≡ Some page → StoodAt l p page
left_stood l p true page e = absurd (none-some page e)
left_stood l p false page e = record { old = page; stood = e; same = refl }

pub left_orphan : (ends : Number → Bool) (o : Option Orphan) (orphan : Orphan) → orphan_but ends o ≡ Some orphan
    → o ≡ Some orphan
left_orphan ends None orphan e = absurd (none-some orphan e)
left_orphan ends (Some old) orphan e = go (ends old.number) e
  where
    go : (b : Bool) → (if b then None else Some old) ≡ Some orphan → Some old ≡ Some orphan
    go true q = absurd (none-some orphan q)
    go false q = q

-- ---- steps

pub remove_only : (places : Place → Bool) (l : Ledger) → OnlyGoes l (remove places l)
unfolding remove
remove_only places l = record { homes = λ p page e. left_stood l p (places p) page e; orphans = λ q orphan e. e }

pub reduce_only : (places : Place → Bool) (right : Right) (l : Ledger) → OnlyGoes l (reduce places right l)
unfolding reduce
reduce_only places right l = record {
  homes = λ p page e. changed_if_stood l p (with_right right) (λ x. refl) (places p) page e;
  orphans = λ q orphan e. e;
}

pub lend_only : (from : Place) (n : ℕ) (to : Place) (kind : LoanKind) (number : Number) (l : Ledger)
    → OnlyGoes l (lend from n to kind number l)
unfolding lend
lend_only from n to kind number l = record {
  homes = λ p page e.
      changed_if_stood l p (with_loan (record { holder = moved from to p; kind = kind; number = number })) (λ x. refl)
      (in_run from n p) page e;
  orphans = λ q orphan e. e;
}

pub pass_only : (number : Number) (from to : Place) (l : Ledger) → OnlyGoes l (pass number from to l)
unfolding pass
pass_only number from to l = record {
  homes = λ p page e. changed_stood l p (passed number from to) (λ x. refl) (l.home p) refl page e;
  orphans = λ q orphan e. e;
}

pub end_loans_only : (ends : Number → Bool) (l : Ledger) → OnlyGoes l (end_loans ends l)
unfolding end_loans
end_loans_only ends l = record {
  homes = λ p page e. changed_stood l p (freed_but ends) (λ x. refl) (l.home p) refl page e;
  orphans = λ q orphan e. left_orphan ends (l.orphan q) orphan e;
}

pub end_loan_only : (number : Number) (l : Ledger) → OnlyGoes l (end_loan number l)
unfolding end_loan
end_loan_only number l = record {
  homes = λ p page e. changed_stood l p (freed number) (λ x. refl) (l.home p) refl page e;
  orphans = λ q orphan e. left_orphan (λ other. same_number other number) (l.orphan q) orphan e;
}
