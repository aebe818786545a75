-- Loans that become orphans before other loans end, and before other loans become orphans.
use Rattle.std.proofs.Common.{◌≡◌, ℕ, Bool, true, false, Option, Some, None, refl, sym, ap, ◌∙◌, inl, inr}
use Rattle.std.specs.Prelude.{◌||◌, IsTrue, if◌then◌else◌}
use Rattle.std.specs.Option.{option_and_then, option_map, option_or}
use Rattle.std.proofs.lemmas.Bool.{false≢true}
use Rattle.std.proofs.lemmas.Option.{none-some, same_Some}
use Rattle.ledger_model.proofs.LedgerLemmas.{cases_Option, is_held_at-Some, is_held_at-true, lender_of-None, lender_of-loan, lender_of-none, loan_at-page, same_ledger, same_number-true}
use Rattle.ledger_model.proofs.Loans.NumberingLemmas.{first_place-only}
use Rattle.ledger_model.specs.Lawful.{IsLawful}
use Rattle.ledger_model.specs.Ledger.{Bytes, Console, Contents, Ledger, Orphan, Page, PageLoan, loan_at, loan_of}
use Rattle.ledger_model.specs.Loans.{same_number}
use Rattle.ledger_model.specs.Reach.{is_held_at, lender_of}
use Rattle.ledger_model.specs.Steps.{orphan_from, orphan_loan, orphan_with, page_without}
use Rattle.ledger_model.specs.Places.{is_user_place}
use Rattle.machine_model.proofs.Matching.LoanSetLawLemmas.{ended_home, ended_loan}
use Rattle.machine_model.specs.Messaging.LoanSets.{end_loans, freed_but, is_lent_by, loan_but, orphan_but, orphan_loans, orphan_of_page, page_but}
use Rattle.xk_base.specs.declared.ids.Number.{Number}
use Rattle.xk_base.specs.declared.ids.Place.{Place}

abbrev as_lent : Page → Option PageLoan → Page
as_lent page o = record page { loan = o }

-- ---- one becomes an orphan, and others end

module _ (procs capacity : ℕ) (ends : Number → Bool) (number : Number) (l : Ledger) (lawful : IsLawful procs capacity l) (stays : ends number ≡ false) where
  abbrev left : Ledger
  left = end_loans ends l

  -- what ends is another loan
  apart : (loan : PageLoan) → ends loan.number ≡ true → same_number loan.number number ≡ false
  apart loan e = go (same_number loan.number number) refl
    where
      go : (b : Bool) → same_number loan.number number ≡ b → b ≡ false
      go false q = refl
      go true q = absurd (false≢true (sym stays ∙ sym (ap ends (same_number-true loan.number number q)) ∙ e))

  -- ---- homes

  home_both : (o : Option Page) → option_map (freed_but ends) (page_without number o) ≡ page_without number (option_map (freed_but ends) o)
  home_both None = refl
  home_both (Some page) = by_loan page.loan refl
    where
      by : (loan : PageLoan) (b : Bool) → ends loan.number ≡ b
          → option_map (freed_but ends) (if same_number loan.number number then None else Some (as_lent page (Some loan)))
          ≡ page_without number (Some (as_lent page (if b then None else Some loan)))
      by loan true e =
          ap (λ c. option_map (freed_but ends) (if c then None else Some (as_lent page (Some loan)))) (apart loan e)
          ∙ ap (λ c. Some (as_lent page (if c then None else Some loan))) e
      by loan false e = go (same_number loan.number number)
        where
          go : (c : Bool) → option_map (freed_but ends) (if c then None else Some (as_lent page (Some loan))) ≡ (if c then None else Some (as_lent page (Some loan)))
          go true = refl
          go false = ap (λ d. Some (as_lent page (if d then None else Some loan))) e

      by_loan : (o : Option PageLoan) → page.loan ≡ o
          → option_map (freed_but ends) (page_without number (Some (as_lent page o))) ≡ page_without number (Some (as_lent page (loan_but ends o)))
      by_loan None e = refl
      by_loan (Some loan) e = by loan (ends loan.number) refl

  -- ---- lenders

  loan_left : (p : Place) (loan : PageLoan) → loan_at left p ≡ Some loan → (loan_at l p ≡ Some loan) × (ends loan.number ≡ false)
  loan_left p loan e = ended_loan ends l p loan e

  home_left : (p : Place) → left.home p ≡ option_map (freed_but ends) (l.home p)
  unfolding end_loans
  home_left p = refl

  still_none : (q : Place) → lender_of procs l q ≡ None → lender_of procs left q ≡ None
  still_none q none = lender_of-None procs left q (λ r loan e.
      let before : (loan_at l r ≡ Some loan) × (ends loan.number ≡ false) = loan_left r loan e in
      let page : (page : Page) × (l.home r ≡ Some page) × (page.loan ≡ Some loan) = loan_at-page l r loan before.0 in
      lender_of-none procs l q r loan none (lawful.home_lies r page.0 page.1) before.0)

  now_none : (p q : Place) (loan : PageLoan) → loan_at l p ≡ Some loan → loan.holder ≡ q → ends loan.number ≡ true → lender_of procs left q ≡ None
  now_none p q loan e held g = lender_of-None procs left q (λ r other f same.
      let before : (loan_at l r ≡ Some other) × (ends other.number ≡ false) = loan_left r other f in
      let one : r ≡ p = lawful.holders_differ r p other loan before.0 e (same ∙ sym held) in
      let alike : other ≡ loan = same_Some other loan (sym before.0 ∙ ap (loan_at l) one ∙ e) in
      false≢true (sym before.1 ∙ ap (λ (x : PageLoan). ends x.number) alike ∙ g))

  freed_there : (p : Place) (page : Page) (loan : PageLoan) → l.home p ≡ Some page → page.loan ≡ Some loan → ends loan.number ≡ false
      → left.home p ≡ Some (record page { loan = Some loan })
  freed_there p page loan e f g =
      home_left p ∙ ap (option_map (freed_but ends)) e ∙ (λ i. Some (record page { loan = loan_but ends (f i) }))
      ∙ (λ i. Some (record page { loan = if g i then None else Some loan }))

  still_some : (p q : Place) (page : Page) (loan : PageLoan) → l.home p ≡ Some page → page.loan ≡ Some loan → loan.holder ≡ q
      → ends loan.number ≡ false → lender_of procs left q ≡ Some p
  unfolding lender_of
  still_some p q page loan e f held g =
      let at : loan_at l p ≡ Some loan = ap loan_of e ∙ f in
      first_place-only procs (λ r. is_held_at q (loan_at left r)) p (lawful.home_lies p page e)
      (is_held_at-Some q (loan_at left p) loan (ap loan_of (freed_there p page loan e f g)) held)
      (λ r h.
      let other : (b : PageLoan) × (loan_at left r ≡ Some b) × (b.holder ≡ q) = is_held_at-true q (loan_at left r) h in
      lawful.holders_differ r p other.0 loan (loan_left r other.0 other.1).0 at (other.2 ∙ sym held))

  -- ---- places of orphans

  abbrev before : Option Place → Option Orphan → Option Orphan
  before lender orphan = orphan_but ends (option_or (option_and_then (orphan_from number) (option_and_then l.home lender)) orphan)

  abbrev after : Option Place → Option Orphan → Option Orphan
  after lender orphan = option_or (option_and_then (orphan_from number) (option_and_then left.home lender)) (orphan_but ends orphan)

  -- a page on loan makes an orphan exactly where it has the number
  from_loan : (page : Page) (loan : PageLoan) → page.loan ≡ Some loan
      → orphan_from number page ≡ (if same_number loan.number number then orphan_with loan page.contents else None)
  from_loan page loan e = ap (option_and_then (λ x. if same_number x.number number then orphan_with x page.contents else None)) e

  kept : (loan : PageLoan) (contents : Contents) (orphan : Option Orphan) → ends loan.number ≡ false
      → orphan_but ends (option_or (orphan_with loan contents) orphan) ≡ option_or (orphan_with loan contents) (orphan_but ends orphan)
  kept loan Console orphan g = refl
  kept loan (Bytes bytes) orphan g = ap (λ b. if b then None else orphan_with loan (Bytes bytes)) g

  module _ (q : Place) (orphan : Option Orphan) where
    without : lender_of procs l q ≡ None → before (lender_of procs l q) orphan ≡ after (lender_of procs left q) orphan
    without none = (λ i. before (none i) orphan) ∙ sym (λ i. after (still_none q none i) orphan)

    with_page : (p : Place) (page : Page) (loan : PageLoan) → lender_of procs l q ≡ Some p → l.home p ≡ Some page → page.loan ≡ Some loan
        → loan.holder ≡ q → (b : Bool) → ends loan.number ≡ b → before (lender_of procs l q) orphan ≡ after (lender_of procs left q) orphan
    with_page p page loan found e f held true g =
        let at : loan_at l p ≡ Some loan = ap loan_of e ∙ f in
        (λ i. before (found i) orphan)
        ∙ (λ i. orphan_but ends (option_or (option_and_then (orphan_from number) (e i)) orphan))
        ∙ (λ i. orphan_but ends (option_or (from_loan page loan f i) orphan))
        ∙ (λ i. orphan_but ends (option_or (if apart loan g i then orphan_with loan page.contents else None) orphan))
        ∙ sym (λ i. after (now_none p q loan at held g i) orphan)
    with_page p page loan found e f held false g =
        (λ i. before (found i) orphan)
        ∙ (λ i. orphan_but ends (option_or (option_and_then (orphan_from number) (e i)) orphan))
        ∙ (λ i. orphan_but ends (option_or (from_loan page loan f i) orphan))
        ∙ by (same_number loan.number number)
        ∙ sym (λ i. option_or (option_and_then (orphan_from number) (freed_there p page loan e f g i)) (orphan_but ends orphan))
        ∙ sym (λ i. after (still_some p q page loan e f held g i) orphan)
      where
        by : (c : Bool) → orphan_but ends (option_or (if c then orphan_with loan page.contents else None) orphan)
            ≡ option_or (if c then orphan_with loan page.contents else None) (orphan_but ends orphan)
        by true = kept loan page.contents orphan g
        by false = refl

    either_way : before (lender_of procs l q) orphan ≡ after (lender_of procs left q) orphan
    either_way = elim (cases_Option (lender_of procs l q)) [
      | inl none ↦ without none
      | inr found ↦
          let lent : (loan : PageLoan) × (loan_at l found.0 ≡ Some loan) × (loan.holder ≡ q) = lender_of-loan procs l q found.0 found.1 in
          let home : (page : Page) × (l.home found.0 ≡ Some page) × (page.loan ≡ Some lent.0) = loan_at-page l found.0 lent.0 lent.1 in
          with_page found.0 home.0 lent.0 found.1 home.1 home.2 lent.2 (ends lent.0.number) refl
    ]

  -- other loans end after one became an orphan as they would before
  pub ends_after_orphan : end_loans ends (orphan_loan procs number l) ≡ orphan_loan procs number (end_loans ends l)
  unfolding end_loans orphan_loan
  ends_after_orphan =
      same_ledger (end_loans ends (orphan_loan procs number l)) (orphan_loan procs number (end_loans ends l))
      (λ p. home_both (l.home p)) (λ q. either_way q (l.orphan q))

-- ---- some become orphans, and then others

abbrev either : (Number → Bool) → (Number → Bool) → Number → Bool
either some others n = some n || others n

lent_both : (some others : Number → Bool) (page : Page) (o : Option PageLoan)
    → page_but others (if is_lent_by some o then None else Some (as_lent page o)) ≡ (if is_lent_by (either some others) o then None else Some (as_lent page o))
lent_both some others page None = refl
lent_both some others page (Some loan) = go (some loan.number)
  where
    go : (b : Bool) → page_but others (if b then None else Some (as_lent page (Some loan))) ≡ (if b || others loan.number then None else Some (as_lent page (Some loan)))
    go true = refl
    go false = refl

page_both : (some others : Number → Bool) (o : Option Page) → page_but others (page_but some o) ≡ page_but (either some others) o
page_both some others None = refl
page_both some others (Some page) = lent_both some others page page.loan

lent_still : (some : Number → Bool) (o : Option Page) (loan : PageLoan) → loan_of (page_but some o) ≡ Some loan
    → (loan_of o ≡ Some loan) × (some loan.number ≡ false)
lent_still some None loan e = absurd (none-some loan e)
lent_still some (Some page) loan e = go (is_lent_by some page.loan) refl e
  where
    go : (b : Bool) → is_lent_by some page.loan ≡ b → loan_of (if b then None else Some page) ≡ Some loan → (page.loan ≡ Some loan) × (some loan.number ≡ false)
    go true q f = absurd (none-some loan f)
    go false q f = (f, sym (ap (is_lent_by some) f) ∙ q)

page_stays : (some : Number → Bool) (o : Option Page) (page : Page) (loan : PageLoan) → o ≡ Some page → page.loan ≡ Some loan → some loan.number ≡ false
    → page_but some o ≡ Some page
page_stays some o page loan e f g = ap (page_but some) e ∙ ap (λ b. if b then None else Some page) (ap (is_lent_by some) f ∙ g)

-- the orphan that a page on loan becomes, by whether its number is one of the set
orphan_by : (goes : Number → Bool) (b : Bool) (page : Page) (loan : PageLoan) → page.loan ≡ Some loan → goes loan.number ≡ b
    → orphan_of_page goes page ≡ (if b then orphan_with loan page.contents else None)
orphan_by goes b page loan e g =
    ap (option_and_then (λ x. if goes x.number then orphan_with x page.contents else None)) e ∙ ap (λ c. if c then orphan_with loan page.contents else None) g

-- what of a lawful ledger keeps its loans apart
pub record AreLentApart (procs : ℕ) (l : Ledger) : Type 0 where
  pub lies : (p : Place) (page : Page) → l.home p ≡ Some page → IsTrue (is_user_place procs p)
  pub differ : (p q : Place) (a b : PageLoan) → loan_at l p ≡ Some a → loan_at l q ≡ Some b → a.holder ≡ b.holder → p ≡ q

-- it stays where loans end
pub ended_apart : (procs capacity : ℕ) (ends : Number → Bool) (l : Ledger) → IsLawful procs capacity l → AreLentApart procs (end_loans ends l)
ended_apart procs capacity ends l lawful = record {
  lies = λ p page e. let was : (old : Page) × (l.home p ≡ Some old) = ended_home ends l p page e in lawful.home_lies p was.0 was.1;
  differ = λ p q a b e f. lawful.holders_differ p q a b (ended_loan ends l p a e).0 (ended_loan ends l q b f).0;
}

module _ (procs : ℕ) (some others : Number → Bool) (l : Ledger) (lent : AreLentApart procs l) where
  abbrev kept_loans : Ledger
  kept_loans = orphan_loans procs some l

  home_kept : (p : Place) → kept_loans.home p ≡ page_but some (l.home p)
  unfolding orphan_loans
  home_kept p = refl

  loan_kept : (p : Place) (loan : PageLoan) → loan_at kept_loans p ≡ Some loan → (loan_at l p ≡ Some loan) × (some loan.number ≡ false)
  loan_kept p loan e = lent_still some (l.home p) loan (ap loan_of (sym (home_kept p)) ∙ e)

  -- who has no lender gets none, and who had a lender whose loan went has none
  lender_none : (q : Place) → lender_of procs l q ≡ None → lender_of procs kept_loans q ≡ None
  lender_none q none = lender_of-None procs kept_loans q (λ r loan e.
      let was : (loan_at l r ≡ Some loan) × (some loan.number ≡ false) = loan_kept r loan e in
      let page : (page : Page) × (l.home r ≡ Some page) × (page.loan ≡ Some loan) = loan_at-page l r loan was.0 in
      lender_of-none procs l q r loan none (lent.lies r page.0 page.1) was.0)

  lender_gone : (p q : Place) (loan : PageLoan) → loan_at l p ≡ Some loan → loan.holder ≡ q → some loan.number ≡ true → lender_of procs kept_loans q ≡ None
  lender_gone p q loan e held g = lender_of-None procs kept_loans q (λ r other f same.
      let was : (loan_at l r ≡ Some other) × (some other.number ≡ false) = loan_kept r other f in
      let one : r ≡ p = lent.differ r p other loan was.0 e (same ∙ sym held) in
      let alike : other ≡ loan = same_Some other loan (sym was.0 ∙ ap (loan_at l) one ∙ e) in
      false≢true (sym was.1 ∙ ap (λ (x : PageLoan). some x.number) alike ∙ g))

  -- any other keeps its lender
  lender_kept : (p q : Place) (page : Page) (loan : PageLoan) → l.home p ≡ Some page → page.loan ≡ Some loan → loan.holder ≡ q → some loan.number ≡ false
      → lender_of procs kept_loans q ≡ Some p
  unfolding lender_of
  lender_kept p q page loan e f held g =
      let there : kept_loans.home p ≡ Some page = home_kept p ∙ page_stays some (l.home p) page loan e f g in
      let at : loan_at l p ≡ Some loan = ap loan_of e ∙ f in
      first_place-only procs (λ r. is_held_at q (loan_at kept_loans r)) p (lent.lies p page e)
      (is_held_at-Some q (loan_at kept_loans p) loan (ap loan_of there ∙ f) held)
      (λ r h.
      let other : (b : PageLoan) × (loan_at kept_loans r ≡ Some b) × (b.holder ≡ q) = is_held_at-true q (loan_at kept_loans r) h in
      lent.differ r p other.0 loan (loan_kept r other.0 other.1).0 at (other.2 ∙ sym held))

  -- the orphan at a place after both, one after the other and at once
  abbrev in_turn : Option Place → (Place → Option Page) → Option Place → Option Orphan → Option Orphan
  in_turn now homes was orphan =
      option_or (option_and_then (orphan_of_page others) (option_and_then homes now))
      (option_or (option_and_then (orphan_of_page some) (option_and_then l.home was)) orphan)

  abbrev at_once : Option Place → Option Orphan → Option Orphan
  at_once was orphan = option_or (option_and_then (orphan_of_page (either some others)) (option_and_then l.home was)) orphan

  module _ (q : Place) (orphan : Option Orphan) where
    of_page : (p : Place) (page : Page) (loan : PageLoan) → lender_of procs l q ≡ Some p → l.home p ≡ Some page → page.loan ≡ Some loan → loan.holder ≡ q
        → (b : Bool) → some loan.number ≡ b → in_turn (lender_of procs kept_loans q) kept_loans.home (lender_of procs l q) orphan ≡ at_once (lender_of procs l q) orphan
    of_page p page loan found e f held true g =
        let at : loan_at l p ≡ Some loan = ap loan_of e ∙ f in
        let more : either some others loan.number ≡ true = ap (λ b. b || others loan.number) g in
        (λ i. in_turn (lender_gone p q loan at held g i) kept_loans.home (found i) orphan)
        ∙ (λ i. option_or (option_and_then (orphan_of_page some) (e i)) orphan)
        ∙ (λ i. option_or (orphan_by some true page loan f g i) orphan)
        ∙ sym (λ i. option_or (orphan_by (either some others) true page loan f more i) orphan)
        ∙ sym (λ i. option_or (option_and_then (orphan_of_page (either some others)) (e i)) orphan)
        ∙ sym (λ i. at_once (found i) orphan)
    of_page p page loan found e f held false g =
        let there : kept_loans.home p ≡ Some page = home_kept p ∙ page_stays some (l.home p) page loan e f g in
        let more : either some others loan.number ≡ others loan.number = ap (λ b. b || others loan.number) g in
        (λ i. in_turn (lender_kept p q page loan e f held g i) kept_loans.home (found i) orphan)
        ∙ (λ i. option_or (option_and_then (orphan_of_page others) (there i)) (option_or (option_and_then (orphan_of_page some) (e i)) orphan))
        ∙ (λ i. option_or (orphan_by others (others loan.number) page loan f refl i) (option_or (orphan_by some false page loan f g i) orphan))
        ∙ sym (λ i. option_or (orphan_by (either some others) (others loan.number) page loan f more i) orphan)
        ∙ sym (λ i. option_or (option_and_then (orphan_of_page (either some others)) (e i)) orphan)
        ∙ sym (λ i. at_once (found i) orphan)

    one_way : in_turn (lender_of procs kept_loans q) kept_loans.home (lender_of procs l q) orphan ≡ at_once (lender_of procs l q) orphan
    one_way = elim (cases_Option (lender_of procs l q)) [
      | inl none ↦ (λ i. in_turn (lender_none q none i) kept_loans.home (none i) orphan) ∙ sym (λ i. at_once (none i) orphan)
      | inr found ↦
          let lent : (loan : PageLoan) × (loan_at l found.0 ≡ Some loan) × (loan.holder ≡ q) = lender_of-loan procs l q found.0 found.1 in
          let home : (page : Page) × (l.home found.0 ≡ Some page) × (page.loan ≡ Some lent.0) = loan_at-page l found.0 lent.0 lent.1 in
          of_page found.0 home.0 lent.0 found.1 home.1 home.2 lent.2 (some lent.0.number) refl
    ]

  -- the sets become orphans one after the other as they do at once
  pub both_orphaned : orphan_loans procs others (orphan_loans procs some l) ≡ orphan_loans procs (λ n. some n || others n) l
  unfolding orphan_loans
  both_orphaned =
      same_ledger (orphan_loans procs others (orphan_loans procs some l)) (orphan_loans procs (either some others) l)
      (λ p. page_both some others (l.home p)) (λ q. one_way q (l.orphan q))
