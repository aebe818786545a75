-- The loans of many messages become orphans one at a time, where holders differ.
use Rattle.std.proofs.Common.{◌≡◌, ℕ, Bool, true, false, Option, Some, None, refl, sym, ap, ◌∙◌, inl, inr}
use Rattle.std.specs.Prelude.{◌||◌, if◌then◌else◌}
use Rattle.std.specs.Option.{option_and_then, option_or}
use Rattle.std.proofs.lemmas.Bool.{false≢true}
use Rattle.std.proofs.lemmas.Option.{none-some, same_Some}
use Rattle.xk_base.specs.declared.ids.Number.{Number}
use Rattle.xk_base.specs.declared.ids.Place.{Place}
use Rattle.ledger_model.specs.Lawful.{IsLawful}
use Rattle.ledger_model.specs.Ledger.{Ledger, Page, PageLoan, Orphan, loan_at, loan_of}
use Rattle.ledger_model.specs.Loans.{same_number}
use Rattle.ledger_model.specs.Reach.{lender_of, is_held_at}
use Rattle.ledger_model.specs.Steps.{orphan_loan, orphan_with, orphan_from, page_without}
use Rattle.ledger_model.proofs.LedgerLemmas.{same_ledger, cases_Option, loan_at-page, lender_of-loan, lender_of-none, lender_of-None, is_held_at-true, is_held_at-Some}
use Rattle.ledger_model.proofs.Loans.NumberingLemmas.{first_place-only}
use Rattle.machine_model.specs.Messaging.LoanSets.{orphan_loans, orphan_of_page, page_but, is_lent_by}

-- these numbers and one more
abbrev pub and_also : (Number → Bool) → Number → Number → Bool
and_also goes number n = goes n || same_number n number

-- ---- homes

lent_or : (goes : Number → Bool) (number : Number) (page : Page) (o : Option PageLoan)
    → page_without number (if is_lent_by goes o then None else Some (record page { loan = o }))
    ≡ (if is_lent_by (and_also goes number) o then None else Some (record page { loan = o }))
lent_or goes number page None = refl
lent_or goes number page (Some loan) = go (goes loan.number)
  where
    go : (b : Bool) → page_without number (if b then None else Some (record page { loan = Some loan }))
        ≡ (if b || same_number loan.number number then None else Some (record page { loan = Some loan }))
    go true = refl
    go false = refl

page_one_more : (goes : Number → Bool) (number : Number) (o : Option Page)
    → page_without number (page_but goes o) ≡ page_but (and_also goes number) o
page_one_more goes number None = refl
page_one_more goes number (Some page) = lent_or goes number page page.loan

-- ---- what is left on loan

left_on_loan : (goes : Number → Bool) (o : Option Page) (loan : PageLoan) → loan_of (page_but goes o) ≡ Some loan
    → (loan_of o ≡ Some loan) × (goes loan.number ≡ false)
left_on_loan goes None loan e = absurd (none-some loan e)
left_on_loan goes (Some page) loan e = go (is_lent_by goes page.loan) refl e
  where
    go : (b : Bool) → is_lent_by goes page.loan ≡ b → loan_of (if b then None else Some page) ≡ Some loan
        → (page.loan ≡ Some loan) × (goes loan.number ≡ false)
    go true q h = absurd (none-some loan h)
    go false q h = (h, sym (ap (is_lent_by goes) h) ∙ q)

stays_on_loan : (goes : Number → Bool) (o : Option Page) (page : Page) (loan : PageLoan) → o ≡ Some page → page.loan ≡ Some loan
    → goes loan.number ≡ false → page_but goes o ≡ Some page
stays_on_loan goes o page loan e f g =
    ap (page_but goes) e ∙ ap (λ b. if b then None else Some page) (ap (is_lent_by goes) f ∙ g)

-- the orphan that a page on loan becomes, by whether its number is one of the set
orphan_by : (goes : Number → Bool) (b : Bool) (page : Page) (loan : PageLoan) → page.loan ≡ Some loan → goes loan.number ≡ b
    → orphan_of_page goes page ≡ (if b then orphan_with loan page.contents else None)
orphan_by goes b page loan e g =
    ap (option_and_then (λ x. if goes x.number then orphan_with x page.contents else None)) e
    ∙ ap (λ c. if c then orphan_with loan page.contents else None) g

-- ---- places of orphans

module _ (procs capacity : ℕ) (goes : Number → Bool) (number : Number) (l : Ledger) (lawful : IsLawful procs capacity l) where
  abbrev left : Ledger
  left = orphan_loans procs goes l

  home_left : (p : Place) → left.home p ≡ page_but goes (l.home p)
  unfolding orphan_loans
  home_left p = refl

  loan_left : (p : Place) (loan : PageLoan) → loan_at left p ≡ Some loan → (loan_at l p ≡ Some loan) × (goes loan.number ≡ false)
  loan_left p loan e = left_on_loan goes (l.home p) loan (ap loan_of (sym (home_left p)) ∙ e)

  -- who has no lender gets none
  still_none : (q : Place) → lender_of procs l q ≡ None → lender_of procs left q ≡ None
  still_none q none = lender_of-None procs left q (λ r loan e.
      let before : (loan_at l r ≡ Some loan) × (goes loan.number ≡ false) = loan_left r loan e in
      let page : (page : Page) × (l.home r ≡ Some page) × (page.loan ≡ Some loan) = loan_at-page l r loan before.0 in
      lender_of-none procs l q r loan none (lawful.home_lies r page.0 page.1) before.0)

  -- who had a lender whose loan goes has none
  now_none : (p q : Place) (loan : PageLoan) → loan_at l p ≡ Some loan → loan.holder ≡ q → goes loan.number ≡ true
      → lender_of procs left q ≡ None
  now_none p q loan e held g = lender_of-None procs left q (λ r other f same.
      let before : (loan_at l r ≡ Some other) × (goes other.number ≡ false) = loan_left r other f in
      let one : r ≡ p = lawful.holders_differ r p other loan before.0 e (same ∙ sym held) in
      let alike : other ≡ loan = same_Some other loan (sym before.0 ∙ ap (loan_at l) one ∙ e) in
      false≢true (sym before.1 ∙ ap (λ x. goes x.number) alike ∙ g))

  -- any other keeps its lender
  still_some : (p q : Place) (page : Page) (loan : PageLoan) → l.home p ≡ Some page → page.loan ≡ Some loan → loan.holder ≡ q
      → goes loan.number ≡ false → lender_of procs left q ≡ Some p
  unfolding lender_of
  still_some p q page loan e f held g =
      let there : left.home p ≡ Some page = home_left p ∙ stays_on_loan goes (l.home p) page loan e f g in
      let at : loan_at l p ≡ Some loan = ap loan_of e ∙ f in
      first_place-only procs (λ r. is_held_at q (loan_at left r)) p (lawful.home_lies p page e)
      (is_held_at-Some q (loan_at left p) loan (ap loan_of there ∙ f) held)
      (λ r h.
      let other : (b : PageLoan) × (loan_at left r ≡ Some b) × (b.holder ≡ q) = is_held_at-true q (loan_at left r) h in
      lawful.holders_differ r p other.0 loan (loan_left r other.0 other.1).0 at (other.2 ∙ sym held))

  -- the two sides at a place
  abbrev later : Option Place → (Place → Option Page) → Option Place → Option Orphan → Option Orphan
  later now homes before orphan =
      option_or (option_and_then (orphan_from number) (option_and_then homes now))
      (option_or (option_and_then (orphan_of_page goes) (option_and_then l.home before)) orphan)

  abbrev at_once : Option Place → Option Orphan → Option Orphan
  at_once before orphan =
      option_or (option_and_then (orphan_of_page (and_also goes number)) (option_and_then l.home before)) orphan

  module _ (q : Place) (orphan : Option Orphan) where
    without : lender_of procs l q ≡ None → later (lender_of procs left q) left.home (lender_of procs l q) orphan ≡ at_once (lender_of procs l q) orphan
    without none =
        (λ i. later (still_none q none i) left.home (none i) orphan)
        ∙ sym (λ i. at_once (none i) orphan)

    with_page : (p : Place) (page : Page) (loan : PageLoan) → lender_of procs l q ≡ Some p → l.home p ≡ Some page → page.loan ≡ Some loan
        → loan.holder ≡ q → (b : Bool) → goes loan.number ≡ b
        → later (lender_of procs left q) left.home (lender_of procs l q) orphan ≡ at_once (lender_of procs l q) orphan
    with_page p page loan found e f held true g =
        let at : loan_at l p ≡ Some loan = ap loan_of e ∙ f in
        let more : and_also goes number loan.number ≡ true = ap (λ b. b || same_number loan.number number) g in
        (λ i. later (now_none p q loan at held g i) left.home (found i) orphan)
        ∙ (λ i. option_or (option_and_then (orphan_of_page goes) (e i)) orphan)
        ∙ (λ i. option_or (orphan_by goes true page loan f g i) orphan)
        ∙ sym (λ i. option_or (orphan_by (and_also goes number) true page loan f more i) orphan)
        ∙ sym (λ i. option_or (option_and_then (orphan_of_page (and_also goes number)) (e i)) orphan)
        ∙ sym (λ i. at_once (found i) orphan)
    with_page p page loan found e f held false g =
        let there : left.home p ≡ Some page = home_left p ∙ stays_on_loan goes (l.home p) page loan e f g in
        let more : and_also goes number loan.number ≡ same_number loan.number number = ap (λ b. b || same_number loan.number number) g in
        (λ i. later (still_some p q page loan e f held g i) left.home (found i) orphan)
        ∙ (λ i. option_or (option_and_then (orphan_from number) (there i)) (option_or (option_and_then (orphan_of_page goes) (e i)) orphan))
        ∙ (λ i. option_or (orphan_by (λ n. same_number n number) (same_number loan.number number) page loan f refl i) (option_or (orphan_by goes false page loan f g i) orphan))
        ∙ sym (λ i. option_or (orphan_by (and_also goes number) (same_number loan.number number) page loan f more i) orphan)
        ∙ sym (λ i. option_or (option_and_then (orphan_of_page (and_also goes number)) (e i)) orphan)
        ∙ sym (λ i. at_once (found i) orphan)

    either_way : later (lender_of procs left q) left.home (lender_of procs l q) orphan ≡ at_once (lender_of procs l q) orphan
    either_way = elim (cases_Option (lender_of procs l q)) [
      | inl none ↦ without none
      | inr found ↦
          let lent : (loan : PageLoan) × (loan_at l found.0 ≡ Some loan) × (loan.holder ≡ q) = lender_of-loan procs l q found.0 found.1 in
          let home : (page : Page) × (l.home found.0 ≡ Some page) × (page.loan ≡ Some lent.0) = loan_at-page l found.0 lent.0 lent.1 in
          with_page found.0 home.0 lent.0 found.1 home.1 home.2 lent.2 (goes lent.0.number) refl
    ]

-- the loans of a set become orphans one at a time
pub one_more_is_orphaned : (procs capacity : ℕ) (goes : Number → Bool) (number : Number) (l : Ledger) → IsLawful procs capacity l
    → orphan_loan procs number (orphan_loans procs goes l) ≡ orphan_loans procs (λ n. goes n || same_number n number) l
unfolding orphan_loan orphan_loans
one_more_is_orphaned procs capacity goes number l lawful =
    same_ledger (orphan_loan procs number (orphan_loans procs goes l)) (orphan_loans procs (and_also goes number) l)
    (λ p. page_one_more goes number (l.home p)) (λ q. either_way procs capacity goes number l lawful q (l.orphan q))
