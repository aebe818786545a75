-- Steps of the ledger by which no page comes to a place, and no loan.
use Rattle.std.proofs.Common.{◌≡◌, ℕ, ◌⊎◌, inl, inr, Bool, true, false, List, Option, Some, None, is_some, refl, sym, ap, ◌∙◌}
use Rattle.std.specs.Prelude.{if◌then◌else◌}
use Rattle.std.specs.Option.{option_map}
use Rattle.std.proofs.lemmas.Option.{none-some, same_Some}
use Rattle.xk_base.specs.declared.ids.Number.{Number}
use Rattle.xk_base.specs.declared.ids.Place.{Place}
use Rattle.xk_base.specs.declared.pages.Right.{Right}
use Rattle.ledger_model.specs.Ledger.{Homed, Ledger, Orphan, Orphaned, Page, PageLoan, PageName, loan_of}
use Rattle.ledger_model.specs.Loans.{same_number}
use Rattle.ledger_model.specs.Places.{same_place}
use Rattle.ledger_model.specs.Steps.{end_loan, reduce, remove, with_right, write, written_orphan, written_page}
use Rattle.machine_model.specs.Messaging.LoanSets.{end_loans}
use Rattle.machine_model.specs.Runs.Moments.{Cause}
use Rattle.machine_model.specs.State.Machine.{Machine}
use Rattle.confidentiality_laws.proofs.Keeping.OrphanedPageLemmas.{OnlyOrphans, end_loans_orphans}
use Rattle.transcript_laws.specs.Coming.{IsLentTo, PagesCome}

-- a page stood there, with the loan that it has
pub record Stood (before : Ledger) (p : Place) (page : Page) : Type 0 where
  pub old : Page
  pub stood : before.home p ≡ Some old
  pub lent : (loan : PageLoan) → page.loan ≡ Some loan → old.loan ≡ Some loan

-- pages and loans are where they were, and orphans where one was or where a page was on loan
pub record NoneComes (before after : Ledger) : Type 0 where
  pub homes : (p : Place) (page : Page) → after.home p ≡ Some page → Stood before p page
  pub orphans : (q : Place) (orphan : Orphan) → after.orphan q ≡ Some orphan → (is_some (before.orphan q) ≡ true) ⊎ IsLentTo q before

pub none_comes : (cause : Cause) (m : Machine) (after : Ledger) → NoneComes m.ledger after → PagesCome cause m after
none_comes cause m after none = record {
  homes = λ p page empty e. let was = none.homes p page e in absurd (none-some was.old (sym empty ∙ was.stood));
  loans = λ p loan e. inl (lent p loan (after.home p) refl e);
  orphans = none.orphans;
}
  where
    lent : (p : Place) (loan : PageLoan) (o : Option Page) → after.home p ≡ o → loan_of o ≡ Some loan → loan_of (m.ledger.home p) ≡ Some loan
    lent p loan None e f = absurd (none-some loan f)
    lent p loan (Some page) e f = let was = none.homes p page e in ap loan_of was.stood ∙ was.lent loan f

pub same_ledger : (l : Ledger) → NoneComes l l
same_ledger l = record {
  homes = λ p page e. record { old = page; stood = e; lent = λ loan f. f };
  orphans = λ q orphan e. inl (ap is_some e);
}

-- pages go, or become orphans where they are on loan
pub only_orphans : (before after : Ledger) → OnlyOrphans before after → NoneComes before after
only_orphans before after only = record {
  homes = λ p page e. let was = only.homes p page e in record { old = was.old; stood = was.stood; lent = was.lent };
  orphans = λ q orphan e. elim (only.orphans q orphan e) [
    | inl stood ↦ inl (ap is_some stood)
    | inr was ↦ inr (record { home = was.0; loan = was.1.loan; lent = ap loan_of was.1.stood ∙ was.1.lent; held = was.1.held })
  ];
}

-- ---- pages one by one

pub changed_stood : (l : Ledger) (p : Place) (f : Page → Page) → ((page : Page) → (f page).loan ≡ page.loan) → (o : Option Page) → l.home p ≡ o
    → (page : Page) → option_map f o ≡ Some page → Stood l p page
changed_stood l p f keeps None q page e = absurd (none-some page e)
changed_stood l p f keeps (Some old) q page e = record {
  old = old;
  stood = q;
  lent = λ loan r. sym (keeps old) ∙ (ap (λ (x : Page). x.loan) (same_Some (f old) page e) ∙ r);
}

if_changed_stood : (l : Ledger) (p : Place) (f : Page → Page) → ((page : Page) → (f page).loan ≡ page.loan) → (b : Bool) (page : Page)
    → (if b then option_map f (l.home p) else l.home p) ≡ Some page → Stood l p page
if_changed_stood l p f keeps true page e = changed_stood l p f keeps (l.home p) refl page e
if_changed_stood l p f keeps false page e = record { old = page; stood = e; lent = λ loan r. r }

left_stood : (l : Ledger) (p : Place) (b : Bool) (page : Page) → (if b then None else l.home p) ≡ Some page → Stood l p page
left_stood l p true page e = absurd (none-some page e)
left_stood l p false page e = record { old = page; stood = e; lent = λ loan r. r }

changed_orphan : (f : Orphan → Orphan) (b : Bool) (o : Option Orphan) (orphan : Orphan) → (if b then option_map f o else o) ≡ Some orphan → is_some o ≡ true
changed_orphan f true None orphan e = absurd (none-some orphan e)
changed_orphan f false None orphan e = absurd (none-some orphan e)
changed_orphan f b (Some old) orphan e = refl

-- ---- steps

pub remove_none : (places : Place → Bool) (l : Ledger) → NoneComes l (remove places l)
unfolding remove
remove_none places l = record { homes = λ p page e. left_stood l p (places p) page e; orphans = λ q orphan e. inl (ap is_some e) }

pub reduce_none : (places : Place → Bool) (right : Right) (l : Ledger) → NoneComes l (reduce places right l)
unfolding reduce
reduce_none places right l = record {
  homes = λ p page e. if_changed_stood l p (with_right right) (λ x. refl) (places p) page e;
  orphans = λ q orphan e. inl (ap is_some e);
}

end_loan_orphans : (number : Number) (l : Ledger) → OnlyOrphans l (end_loan number l)
unfolding end_loan end_loans
end_loan_orphans number l = end_loans_orphans (λ k. same_number k number) l

pub end_loan_none : (number : Number) (l : Ledger) → NoneComes l (end_loan number l)
end_loan_none number l = only_orphans l (end_loan number l) (end_loan_orphans number l)

pub end_loans_none : (ends : Number → Bool) (l : Ledger) → NoneComes l (end_loans ends l)
end_loans_none ends l = only_orphans l (end_loans ends l) (end_loans_orphans ends l)

pub write_none : (page : PageName) (offset : ℕ) (bytes : List ℕ) (l : Ledger) → NoneComes l (write page offset bytes l)
unfolding write
write_none (Homed place) offset bytes l = record {
  homes = λ p page e. if_changed_stood l p (written_page offset bytes) (λ x. refl) (same_place p place) page e;
  orphans = λ q orphan e. inl (ap is_some e);
}
write_none (Orphaned place) offset bytes l = record {
  homes = λ p page e. record { old = page; stood = e; lent = λ loan r. r };
  orphans = λ q orphan e. inl (changed_orphan (written_orphan offset bytes) (same_place q place) (l.orphan q) orphan e);
}
