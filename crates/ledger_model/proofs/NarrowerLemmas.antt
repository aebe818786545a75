-- A ledger that is narrower than a lawful one: each of its pages stood at the same home before, each
-- of its loans was there before, and each of its orphans. Such a ledger is lawful where its numbers
-- still are those of one run each.
use Rattle.std.proofs.Common.{◌≡◌, ℕ, ◌≤◌, false, Some, None, refl, sym, ap, ◌∙◌, arith, inl, inr}
use Rattle.std.proofs.lemmas.Option.{none-some}
use Rattle.xk_base.specs.declared.ids.Number.{Number}
use Rattle.xk_base.specs.declared.ids.Place.{Place}
use Rattle.xk_base.specs.declared.pages.Right.{Right}
use Rattle.ledger_model.specs.Ledger.{Ledger, Console, Page, PageLoan, Orphan, loan_at, pages}
use Rattle.ledger_model.specs.Lawful.{IsLawful, IsOneRun}
use Rattle.ledger_model.proofs.LedgerLemmas.{cases_Option, loan_at-page, loan_at-home}

-- the page b comes from the page a: it is the console only where a is, and has no loan, and under a
-- loan no other right, that a hasn't
pub record ComesFrom (a b : Page) : Type 0 where
  pub console : b.contents ≡ Console → a.contents ≡ Console
  pub fetch : a.contents ≡ Console → a.right.x ≡ false → b.right.x ≡ false
  pub loan : (x : PageLoan) → b.loan ≡ Some x → a.loan ≡ Some x
  pub right : (x : PageLoan) → b.loan ≡ Some x → b.right ≡ a.right

pub record Narrower (l m : Ledger) : Type 0 where
  pub homes : (p : Place) (b : Page) → m.home p ≡ Some b → (a : Page) × (l.home p ≡ Some a) × ComesFrom a b
  pub orphans : (p : Place) (b : Orphan) → m.orphan p ≡ Some b
      → (a : Orphan) × (l.orphan p ≡ Some a)

pub same_page : (a : Page) → ComesFrom a a
same_page a = record { console = λ e. e; fetch = λ c x. x; loan = λ x e. e; right = λ x e. refl }

pub no_new_home : (l m : Ledger) → Narrower l m → (p : Place) → l.home p ≡ None → m.home p ≡ None
no_new_home l m n p e = elim (cases_Option (m.home p)) [
  | inl none ↦ none
  | inr some ↦ let a : (a : Page) × (l.home p ≡ Some a) × ComesFrom a some.0 = n.homes p some.0 some.1 in absurd (none-some a.0 (sym e ∙ a.1))
]

pub no_new_orphan : (l m : Ledger) → Narrower l m → (p : Place) → l.orphan p ≡ None → m.orphan p ≡ None
no_new_orphan l m n p e = elim (cases_Option (m.orphan p)) [
  | inl none ↦ none
  | inr some ↦ let a : (a : Orphan) × (l.orphan p ≡ Some a) = n.orphans p some.0 some.1 in absurd (none-some a.0 (sym e ∙ a.1))
]

pub old_loan : (l m : Ledger) → Narrower l m → (p : Place) (x : PageLoan) → loan_at m p ≡ Some x
    → loan_at l p ≡ Some x
old_loan l m n p x e =
    let b : (b : Page) × (m.home p ≡ Some b) × (b.loan ≡ Some x) = loan_at-page m p x e in
    let a : (a : Page) × (l.home p ≡ Some a) × ComesFrom a b.0 = n.homes p b.0 b.1 in
    loan_at-home l p a.0 a.1 ∙ a.2.loan x b.2

pub lawful_narrower : (procs capacity : ℕ) (l m : Ledger) → IsLawful procs capacity l → Narrower l m
    → pages procs m ≤ pages procs l
    → ((number : Number) → IsOneRun m number) → IsLawful procs capacity m
lawful_narrower procs capacity l m h n fewer runs = record {
  home_lies = λ p b e. let a : (a : Page) × (l.home p ≡ Some a) × ComesFrom a b = n.homes p b e in h.home_lies p a.0 a.1;
  holder_lies = λ p x e. h.holder_lies p x (old_loan l m n p x e);
  orphan_lies = λ p b e. let a : (a : Orphan) × (l.orphan p ≡ Some a) = n.orphans p b e in h.orphan_lies p a.0 a.1;
  holders_differ = λ p q x y e f same. h.holders_differ p q x y (old_loan l m n p x e) (old_loan l m n q y f) same;
  holder_no_home = λ p x e. no_new_home l m n x.holder (h.holder_no_home p x (old_loan l m n p x e));
  holder_no_orphan = λ p x e. no_new_orphan l m n x.holder (h.holder_no_orphan p x (old_loan l m n p x e));
  orphan_no_home = λ p b e. let a : (a : Orphan) × (l.orphan p ≡ Some a) = n.orphans p b e in no_new_home l m n p (h.orphan_no_home p a.0 a.1);
  one_console = λ p q b c e f s t.
      let a : (a : Page) × (l.home p ≡ Some a) × ComesFrom a b = n.homes p b e in
      let d : (a : Page) × (l.home q ≡ Some a) × ComesFrom a c = n.homes q c f in
      h.one_console p q a.0 d.0 a.1 d.1 (a.2.console s) (d.2.console t);
  console_lies = λ p b e s. let a : (a : Page) × (l.home p ≡ Some a) × ComesFrom a b = n.homes p b e in h.console_lies p a.0 a.1 (a.2.console s);
  console_no_loan = λ p b e s.
      let a : (a : Page) × (l.home p ≡ Some a) × ComesFrom a b = n.homes p b e in
      elim (cases_Option b.loan) [
        | inl none ↦ none
        | inr x ↦ absurd (none-some x.0 (sym (h.console_no_loan p a.0 a.1 (a.2.console s)) ∙ a.2.loan x.0 x.1))
      ];
  console_no_fetch = λ p b e s.
      let a : (a : Page) × (l.home p ≡ Some a) × ComesFrom a b = n.homes p b e in
      a.2.fetch (a.2.console s) (h.console_no_fetch p a.0 a.1 (a.2.console s));
  within = let w : pages procs l ≤ capacity = h.within in omega arith;
  one_run = runs;
  exclusive_writable = λ p b x e f k.
      let a : (a : Page) × (l.home p ≡ Some a) × ComesFrom a b = n.homes p b e in
      ap (λ (r : Right). r.w) (a.2.right x f) ∙ h.exclusive_writable p a.0 x a.1 (a.2.loan x f) k;
}
