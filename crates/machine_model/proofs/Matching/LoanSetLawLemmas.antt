-- After the loans of a set of numbers ended, or became orphans: the ledger is lawful, loans of other numbers are the same, and each
-- loan of the set with a lender stands without one.
use Rattle.std.proofs.Common.{◌≡◌, ◌≢◌, ℕ, suc, ◌<◌, ◌≤◌, Bool, true, false, Option, Some, None, refl, sym, ap, ◌∙◌, arith, subst}
use Rattle.std.specs.Prelude.{◌==◌, if◌then◌else◌, nat_lt}
use Rattle.std.specs.Option.{option_map}
use Rattle.std.proofs.lemmas.Bool.{eq-eqb, eqb-true, false≢true, ltb-false, ltb-true}
use Rattle.std.proofs.lemmas.Option.{none-some, same_Some}
use Rattle.xk_base.specs.declared.ids.Number.{Number}
use Rattle.xk_base.specs.declared.ids.Place.{Place}
use Rattle.ledger_model.specs.Lawful.{IsLawful}
use Rattle.ledger_model.specs.Ledger.{Ledger, Orphan, Page, PageLoan, loan_at, loan_of}
use Rattle.ledger_model.specs.Loans.{LoanRun, Loans, Stands, loans, without_lender}
use Rattle.ledger_model.specs.Steps.{end_loan, orphan_loan}
use Rattle.ledger_model.proofs.Loans.OfNumberLemmas.{SameOf, loan_without-old, stands_still}
use Rattle.ledger_model.proofs.LedgerLemmas.{loan_at-home}
use Rattle.ledger_model.proofs.Stepping.EndingLemmas.{end_loan_lawful, end_loan_other}
use Rattle.ledger_model.proofs.Stepping.OrphaningLemmas.{Source, made, made-source, orphan_loan_kept, orphan_loan_lawful, orphan_loan_loan, orphan_loan_made, orphan_loan_other, orphan_loan_stands}
use Rattle.machine_model.specs.Messaging.LoanSets.{end_loans, freed_but, loan_but, orphan_but, orphan_loans, page_but, is_lent_by}
use Rattle.machine_model.proofs.Matching.LoanSetStepLemmas.{AreBelow, after_ends, after_orphans, at_number}

same_of_itself : (number : Number) (x : Loans) → SameOf number x x
same_of_itself number x = record { homes = λ p. refl; orphans = λ p. refl }

same_of_both : (number : Number) (x y z : Loans) → SameOf number x y → SameOf number y z → SameOf number x z
same_of_both number x y z a b = record { homes = λ p. b.homes p ∙ a.homes p; orphans = λ p. b.orphans p ∙ a.orphans p }

apart_of : (set : Number → Bool) (a b : Number) → set a ≡ false → set b ≡ true → a ≢ b
apart_of set a b e f same = false≢true (sym e ∙ ap set same ∙ f)

-- ---- end

module _ (set : Number → Bool) (l : Ledger) (bound : ℕ) (low : AreBelow set bound) where
  pub ended_lawful : (procs capacity : ℕ) → IsLawful procs capacity l → IsLawful procs capacity (end_loans set l)
  ended_lawful procs capacity h =
      after_ends set (λ b m. IsLawful procs capacity m) l (λ b m e k. end_loan_lawful procs capacity (at_number b) m k) (λ b m e k. k)
      bound low h

  pub ended_other : (other : Number) → set other ≡ false → SameOf other (loans l) (loans (end_loans set l))
  ended_other other e =
      after_ends set (λ b m. SameOf other (loans l) (loans m)) l
      (λ b m f k. same_of_both other (loans l) (loans m) (loans (end_loan (at_number b) m)) k
      (end_loan_other (at_number b) other m (apart_of set other (at_number b) e f)))
      (λ b m f k. k) bound low (same_of_itself other (loans l))

  pub ended_stands : (r : LoanRun) → set r.number ≡ false → Stands (loans l) r → Stands (loans (end_loans set l)) r
  ended_stands r e h = stands_still (loans l) (loans (end_loans set l)) r (ended_other r.number e) h

-- a page, a loan and an orphan that are left were there
ended_page : (set : Number → Bool) (o : Option Page) (page : Page) → option_map (freed_but set) o ≡ Some page → (old : Page) × (o ≡ Some old)
ended_page set None page e = absurd (none-some page e)
ended_page set (Some old) page e = (old, refl)

pub ended_home : (set : Number → Bool) (l : Ledger) (p : Place) (page : Page) → (end_loans set l).home p ≡ Some page
    → (old : Page) × (l.home p ≡ Some old)
unfolding end_loans
ended_home set l p page e = ended_page set (l.home p) page e

left_loan : (set : Number → Bool) (o : Option PageLoan) (loan : PageLoan) → loan_but set o ≡ Some loan → (o ≡ Some loan) × (set loan.number ≡ false)
left_loan set None loan e = absurd (none-some loan e)
left_loan set (Some x) loan e = go (set x.number) refl e
  where
    go : (b : Bool) → set x.number ≡ b → (if b then None else Some x) ≡ Some loan → (Some x ≡ Some loan) × (set loan.number ≡ false)
    go true q f = absurd (none-some loan f)
    go false q f = (f, sym (ap (λ (y : PageLoan). set y.number) (same_Some x loan f)) ∙ q)

ended_loan_of : (set : Number → Bool) (o : Option Page) → loan_of (option_map (freed_but set) o) ≡ loan_but set (loan_of o)
ended_loan_of set None = refl
ended_loan_of set (Some page) = refl

pub ended_loan : (set : Number → Bool) (l : Ledger) (p : Place) (loan : PageLoan) → loan_at (end_loans set l) p ≡ Some loan
    → (loan_at l p ≡ Some loan) × (set loan.number ≡ false)
unfolding end_loans
ended_loan set l p loan e = left_loan set (loan_at l p) loan (sym (ended_loan_of set (l.home p)) ∙ e)

left_orphan : (set : Number → Bool) (o : Option Orphan) (orphan : Orphan) → orphan_but set o ≡ Some orphan → (o ≡ Some orphan) × (set orphan.number ≡ false)
left_orphan set None orphan e = absurd (none-some orphan e)
left_orphan set (Some x) orphan e = go (set x.number) refl e
  where
    go : (b : Bool) → set x.number ≡ b → (if b then None else Some x) ≡ Some orphan → (Some x ≡ Some orphan) × (set orphan.number ≡ false)
    go true q f = absurd (none-some orphan f)
    go false q f = (f, sym (ap (λ (y : Orphan). set y.number) (same_Some x orphan f)) ∙ q)

pub ended_orphan : (set : Number → Bool) (l : Ledger) (p : Place) (orphan : Orphan) → (end_loans set l).orphan p ≡ Some orphan
    → (l.orphan p ≡ Some orphan) × (set orphan.number ≡ false)
unfolding end_loans
ended_orphan set l p orphan e = left_orphan set (l.orphan p) orphan e

-- ---- orphan

below_less : (a b : ℕ) → a < suc b → (a ≡ b → ⊥) → a < b
below_less a b l ne = go (nat_lt a b) refl
  where
    go : (c : Bool) → nat_lt a b ≡ c → a < b
    go true e = ltb-true a b e
    go false e = let high : b ≤ a = ltb-false a b e in let same : a ≡ b = omega arith in absurd (ne same)

-- what stands of a loan while the numbers below a bound have gone
record StandsSoFar (r : LoanRun) (b : ℕ) (m : Ledger) : Type 0 where
  before : b ≤ r.number.0 → Stands (loans m) r
  after : r.number.0 < b → Stands (loans m) (without_lender r)

module _ (procs capacity : ℕ) (set : Number → Bool) (l : Ledger) (bound : ℕ) (low : AreBelow set bound) (lawful : IsLawful procs capacity l) where
  abbrev gone : Ledger
  gone = orphan_loans procs set l

  pub orphaned_lawful : IsLawful procs capacity gone
  orphaned_lawful =
      after_orphans set procs capacity (λ b m. IsLawful procs capacity m) l lawful
      (λ b m e k. orphan_loan_lawful procs capacity (at_number b) m k) (λ b m e k. k) bound low lawful

  pub orphaned_other : (other : Number) → set other ≡ false → SameOf other (loans l) (loans gone)
  orphaned_other other e =
      (after_orphans set procs capacity (λ b m. IsLawful procs capacity m × SameOf other (loans l) (loans m)) l lawful
      (λ b m f k. (
        orphan_loan_lawful procs capacity (at_number b) m k.0,
        same_of_both other (loans l) (loans m) (loans (orphan_loan procs (at_number b) m)) k.1
            (orphan_loan_other procs capacity (at_number b) other m k.0 (apart_of set other (at_number b) e f)),
      ))
      (λ b m f k. k) bound low (lawful, same_of_itself other (loans l))).1

  pub orphaned_still : (r : LoanRun) → set r.number ≡ false → Stands (loans l) r → Stands (loans gone) r
  orphaned_still r e h = stands_still (loans l) (loans gone) r (orphaned_other r.number e) h

  -- a loan of the set stands without its lender
  module _ (r : LoanRun) (from : Place) (e : r.lender ≡ Some from) (g : set r.number ≡ true) (stands : Stands (loans l) r) where
    one_goes : (b : ℕ) (m : Ledger) → set (at_number b) ≡ true → IsLawful procs capacity m × StandsSoFar r b m
        → IsLawful procs capacity (orphan_loan procs (at_number b) m) × StandsSoFar r (suc b) (orphan_loan procs (at_number b) m)
    one_goes b m f (k, so_far) = (
      orphan_loan_lawful procs capacity (at_number b) m k,
      record {
        before = λ high. stands_still (loans m) (loans (orphan_loan procs (at_number b) m)) r (other (λ same. above high same)) (so_far.before (omega arith));
        after = λ below. at (r.number.0 == b) refl below;
      },
    )
      where
        above : suc b ≤ r.number.0 → r.number ≡ at_number b → ⊥
        above high same = let at : r.number.0 ≡ b = ap (λ (n : Number). n.0) same in omega arith

        other : r.number ≢ at_number b → SameOf r.number (loans m) (loans (orphan_loan procs (at_number b) m))
        other ne = orphan_loan_other procs capacity (at_number b) r.number m k ne

        at : (c : Bool) → (r.number.0 == b) ≡ c → r.number.0 < suc b → Stands (loans (orphan_loan procs (at_number b) m)) (without_lender r)
        at true q below =
            let same : r.number.0 ≡ b = eqb-true r.number.0 b q in
            subst (λ (n : Number). Stands (loans (orphan_loan procs n m)) (without_lender r)) (λ i. record { 0 = same i })
            (orphan_loan_stands procs capacity m r from k (so_far.before (omega arith)) e)
        at false q below =
            let apart : r.number.0 ≡ b → ⊥ = λ same. false≢true (sym q ∙ eq-eqb r.number.0 b same) in
            stands_still (loans m) (loans (orphan_loan procs (at_number b) m)) (without_lender r)
            (other (λ same. apart (ap (λ (n : Number). n.0) same))) (so_far.after (below_less r.number.0 b below apart))

    pub orphaned_stands : Stands (loans gone) (without_lender r)
    orphaned_stands =
        (after_orphans set procs capacity (λ b m. IsLawful procs capacity m × StandsSoFar r b m) l lawful one_goes one_stays bound low
        (lawful, record { before = λ high. stands; after = λ below. absurd (omega arith) })).1.after (low r.number g)
      where
        one_stays : (b : ℕ) (m : Ledger) → set (at_number b) ≡ false → IsLawful procs capacity m × StandsSoFar r b m
            → IsLawful procs capacity m × StandsSoFar r (suc b) m
        one_stays b m f (k, so_far) = (
          k,
          record {
            before = λ high. so_far.before (omega arith);
            after = λ below. so_far.after (below_less r.number.0 b below
                (λ same. false≢true (sym f ∙ ap set (λ i. record { 0 = sym same i }) ∙ g)));
          },
        )

-- ---- what holds of loans and orphans one by one

-- a page that is left was there
page_left : (set : Number → Bool) (o : Option Page) (page : Page) → page_but set o ≡ Some page → o ≡ Some page
page_left set None page e = absurd (none-some page e)
page_left set (Some old) page e = go (is_lent_by set old.loan) e
  where
    go : (b : Bool) → (if b then None else Some old) ≡ Some page → Some old ≡ Some page
    go true f = absurd (none-some page f)
    go false f = f

pub orphaned_home : (procs : ℕ) (set : Number → Bool) (l : Ledger) (p : Place) (page : Page) → (orphan_loans procs set l).home p ≡ Some page
    → l.home p ≡ Some page
unfolding orphan_loans
orphaned_home procs set l p page e = page_left set (l.home p) page e

-- this of each loan, and that of each orphan
pub record EachHas (A : PageLoan → Type 0) (B : Place → Number → Type 0) (m : Ledger) : Type 0 where
  pub loans : (p : Place) (loan : PageLoan) → loan_at m p ≡ Some loan → A loan
  pub orphans : (q : Place) (orphan : Orphan) → m.orphan q ≡ Some orphan → B q orphan.number

module _ (procs capacity : ℕ) (A : PageLoan → Type 0) (B : Place → Number → Type 0)
    (becomes : (loan : PageLoan) → A loan → B loan.holder loan.number) where
  one_has : (number : Number) (m : Ledger) → EachHas A B m → EachHas A B (orphan_loan procs number m)
  one_has number m h = record {
    loans = λ p loan e. h.loans p loan (loan_without-old number (loan_at m p) loan (sym (orphan_loan_loan procs number m p) ∙ e));
    orphans = λ q orphan e. by_made q orphan e (made procs number m q) refl;
  }
    where
      by_made : (q : Place) (orphan : Orphan) → (orphan_loan procs number m).orphan q ≡ Some orphan → (x : Option Orphan)
          → made procs number m q ≡ x → B q orphan.number
      by_made q orphan e None f = h.orphans q orphan (sym (orphan_loan_kept procs number m q f) ∙ e)
      by_made q orphan e (Some o) f =
          let source : Source m number q o = made-source procs number m q o f in
          let same : o ≡ orphan = same_Some o orphan (sym (orphan_loan_made procs number m q o f) ∙ e) in
          let there : loan_at m source.home ≡ Some source.loan = loan_at-home m source.home source.page source.at ∙ source.lent in
          let here : B source.loan.holder source.loan.number = becomes source.loan (h.loans source.home source.loan there) in
          let named : source.loan.number ≡ orphan.number = source.by ∙ sym source.same ∙ ap (λ (y : Orphan). y.number) same in
          subst (λ (k : Number). B q k) named (subst (λ r. B r source.loan.number) source.held here)

  pub orphaned_has : (set : Number → Bool) (l : Ledger) (bound : ℕ) → AreBelow set bound → IsLawful procs capacity l → EachHas A B l
      → EachHas A B (orphan_loans procs set l)
  orphaned_has set l bound low lawful h =
      after_orphans set procs capacity (λ b m. EachHas A B m) l lawful (λ b m e k. one_has (at_number b) m k) (λ b m e k. k) bound low h
