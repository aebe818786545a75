-- The pages and orphans of a number: where they are left as they are, so is its loan, with its rights and bytes.
use Rattle.std.proofs.Common.{◌≡◌, ℕ, ◌<◌, Bool, true, false, Option, Some, None, refl, sym, ap, ◌∙◌, inl, inr}
use Rattle.std.specs.Prelude.{if◌then◌else◌}
use Rattle.std.specs.Option.{option_map, option_map_or}
use Rattle.std.proofs.lemmas.Bool.{false≢true}
use Rattle.std.proofs.lemmas.Option.{none-some}
use Rattle.xk_base.specs.declared.ids.Number.{Number}
use Rattle.xk_base.specs.declared.ids.Place.{Place}
use Rattle.ledger_model.specs.Conditions.{is_lent}
use Rattle.ledger_model.specs.Ledger.{Ledger, Orphan, Page, PageLoan, Contents, Homed, Orphaned, contents_of, loan_at, loan_of}
use Rattle.ledger_model.specs.Loans.{LoanRun, OrphanLoan, Stands, loan_of_orphan, loans, of_number, orphan_loan_at, orphan_of_number, same_number}
use Rattle.ledger_model.specs.Places.{moved, place_after}
use Rattle.ledger_model.specs.Steps.{has_number}
use Rattle.ledger_model.proofs.LedgerLemmas.{cases_Option}
use Rattle.ledger_model.proofs.Loans.OfNumberLemmas.{SameOf, loan_of_run-inside, orphan_of_run-inside}
use Rattle.ledger_model.proofs.PlaceLemmas.{in_run-after}
use Rattle.machine_model.specs.Runs.LoanSpan.{page_name, right_of_name}
use Rattle.loan_laws.specs.Leaving.{Leaves, orphan_of, lent_page_of}

-- ---- pages and loans of a number

-- the loan of a page of the number is its loan of that number
pub loan_of_lent_page : (number : Number) (o : Option Page) → loan_of (lent_page_of number o) ≡ of_number number (loan_of o)
loan_of_lent_page number None = refl
loan_of_lent_page number (Some page) = go page.loan refl
  where
    go : (o : Option PageLoan) → page.loan ≡ o → loan_of (if has_number number o then Some page else None) ≡ of_number number o
    go None e = refl
    go (Some x) e = by (same_number x.number number)
      where
        by : (b : Bool) → loan_of (if b then Some page else None) ≡ (if b then Some x else None)
        by true = e
        by false = refl

pub orphan_loan_of : (number : Number) (o : Option Orphan)
    → option_map loan_of_orphan (orphan_of number o) ≡ orphan_of_number number (option_map loan_of_orphan o)
orphan_loan_of number None = refl
orphan_loan_of number (Some x) = by (same_number x.number number)
  where
    by : (b : Bool) → option_map loan_of_orphan (if b then Some x else None) ≡ (if b then Some (loan_of_orphan x) else None)
    by true = refl
    by false = refl

-- a page of the number is what stands there
lent_page_of_some : (number : Number) (o : Option Page) (x : PageLoan) → of_number number (loan_of o) ≡ Some x → lent_page_of number o ≡ o
lent_page_of_some number None x e = refl
lent_page_of_some number (Some page) x e = go (has_number number page.loan) (sym (loan_of_lent_page number (Some page))) e
  where
    go : (b : Bool) → of_number number page.loan ≡ loan_of (if b then Some page else None) → of_number number page.loan ≡ Some x
        → (if b then Some page else None) ≡ Some page
    go true q r = refl
    go false q r = absurd (none-some x (sym q ∙ r))

orphan_of_some : (number : Number) (o : Option Orphan) (x : OrphanLoan) → orphan_of_number number (option_map loan_of_orphan o) ≡ Some x
    → orphan_of number o ≡ o
orphan_of_some number None x e = refl
orphan_of_some number (Some orphan) x e = go (same_number orphan.number number) (sym (orphan_loan_of number (Some orphan))) e
  where
    go : (b : Bool) → orphan_of_number number (Some (loan_of_orphan orphan)) ≡ option_map loan_of_orphan (if b then Some orphan else None)
        → orphan_of_number number (Some (loan_of_orphan orphan)) ≡ Some x → (if b then Some orphan else None) ≡ Some orphan
    go true q r = refl
    go false q r = absurd (none-some x (sym q ∙ r))

-- a page without a loan is of no number
pub unlent_of_none : (number : Number) (o : Option Page) → is_lent o ≡ false → lent_page_of number o ≡ None
unlent_of_none number None e = refl
unlent_of_none number (Some page) e = go page.loan e
  where
    go : (o : Option PageLoan) → is_lent (Some (record page { loan = o })) ≡ false → (if has_number number o then Some page else None) ≡ None
    go None e = refl
    go (Some x) e = absurd (false≢true (sym e))

-- ---- what is left

pub leaves_itself : (number : Number) (l : Ledger) → Leaves number l l
leaves_itself number l = record { homes = λ p. refl; orphans = λ p. refl }

pub leaves_both : (number : Number) (l m n : Ledger) → Leaves number l m → Leaves number m n → Leaves number l n
leaves_both number l m n a b = record { homes = λ p. b.homes p ∙ a.homes p; orphans = λ p. b.orphans p ∙ a.orphans p }

module _ (number : Number) (l m : Ledger) (left : Leaves number l m) where
  -- the loans of the number
  pub left_loans : SameOf number (loans l) (loans m)
  unfolding loans
  left_loans = record {
    homes = λ p. sym (loan_of_lent_page number (m.home p)) ∙ (ap loan_of (left.homes p) ∙ loan_of_lent_page number (l.home p));
    orphans = λ p. sym (orphan_loan_of number (m.orphan p)) ∙ (ap (option_map loan_of_orphan) (left.orphans p) ∙ orphan_loan_of number (l.orphan p));
  }

  left_home : (p : Place) (x : PageLoan) → of_number number (loan_at l p) ≡ Some x → m.home p ≡ l.home p
  left_home p x e =
      sym (lent_page_of_some number (m.home p) x (sym (loan_of_lent_page number (m.home p)) ∙ (ap loan_of (left.homes p) ∙ (loan_of_lent_page number (l.home p) ∙ e))))
      ∙ (left.homes p ∙ lent_page_of_some number (l.home p) x e)

  left_orphan : (p : Place) (x : OrphanLoan) → orphan_of_number number (orphan_loan_at l p) ≡ Some x → m.orphan p ≡ l.orphan p
  left_orphan p x e =
      sym (orphan_of_some number (m.orphan p) x
      (sym (orphan_loan_of number (m.orphan p)) ∙ (ap (option_map loan_of_orphan) (left.orphans p) ∙ (orphan_loan_of number (l.orphan p) ∙ e))))
      ∙ (left.orphans p ∙ orphan_of_some number (l.orphan p) x e)

-- what stands at the k-th page of a loan, by its name
pub record IsNameLeft (l m : Ledger) (a : LoanRun) (k : ℕ) : Type 0 where
  pub contents : contents_of l (page_name a k) ≡ contents_of m (page_name a k)
  pub right : right_of_name l (page_name a k) ≡ right_of_name m (page_name a k)

same_at_home : (l m : Ledger) (a : LoanRun) (k : ℕ) (home : Place) → a.lender ≡ Some home
    → m.home (place_after home k) ≡ l.home (place_after home k) → IsNameLeft l m a k
same_at_home l m a k home e same =
    let name : page_name a k ≡ Homed (place_after home k) =
    ap (λ o. option_map_or (λ from. Homed (place_after from k)) o (Orphaned (place_after a.holder k))) e in
    record {
      contents = ap (contents_of l) name ∙ (ap (option_map (λ page. page.contents)) (sym same) ∙ sym (ap (contents_of m) name));
      right = ap (right_of_name l) name ∙ (ap (option_map (λ page. page.right)) (sym same) ∙ sym (ap (right_of_name m) name));
    }

same_at_orphan : (l m : Ledger) (a : LoanRun) (k : ℕ) → a.lender ≡ None
    → m.orphan (place_after a.holder k) ≡ l.orphan (place_after a.holder k) → IsNameLeft l m a k
same_at_orphan l m a k e same =
    let name : page_name a k ≡ Orphaned (place_after a.holder k) =
    ap (λ o. option_map_or (λ from. Homed (place_after from k)) o (Orphaned (place_after a.holder k))) e in
    record {
      contents = ap (contents_of l) name ∙ (ap (option_map (λ orphan. Contents.Bytes orphan.bytes)) (sym same) ∙ sym (ap (contents_of m) name));
      right = ap (right_of_name l) name ∙ sym (ap (right_of_name m) name);
    }

pub name_left : (l m : Ledger) (a : LoanRun) (k : ℕ) → Leaves a.number l m → Stands (loans l) a → k < a.count → IsNameLeft l m a k
unfolding loans
name_left l m a k left stands low = elim (cases_Option a.lender) [
  | inl none ↦
      let p : Place = place_after a.holder k in
      same_at_orphan l m a k none
      (left_orphan a.number l m left p (record { kind = a.kind; number = a.number })
      (stands.orphans p ∙ orphan_of_run-inside a p none (in_run-after a.holder a.count k low)))
  | inr some ↦
      let p : Place = place_after some.0 k in
      same_at_home l m a k some.0 some.1
      (left_home a.number l m left p (record { holder = moved some.0 a.holder p; kind = a.kind; number = a.number })
      (stands.homes p ∙ loan_of_run-inside a some.0 p some.1 (in_run-after some.0 a.count k low)))
]
