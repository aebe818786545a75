-- Laws of `orphan_loan`, which turns the pages of a loan into orphans at its holder's places.
use Rattle.std.proofs.Common.{◌≡◌, ◌≢◌, ℕ, ◌+◌, ◌≤◌, Bool, true, false, Option, Some, None, refl, sym, ap, subst, ◌∙◌, arith, ◌⊎◌, inl, inr}
use Rattle.std.specs.Prelude.{is_some, if◌then◌else◌}
use Rattle.std.specs.Option.{option_and_then, option_map, option_or}
use Rattle.std.proofs.lemmas.Bool.{cases_Bool, cond-true, cond-false, both_ways}
use Rattle.std.proofs.lemmas.Option.{none-some, same_Some}
use Rattle.xk_base.specs.declared.ids.Number.{Number}
use Rattle.xk_base.specs.declared.ids.Place.{Place}
use Rattle.xk_base.specs.declared.windows.Window.TheVariants.{Message}
use Rattle.ledger_model.specs.Lawful.{IsLawful, IsOneRun}
use Rattle.ledger_model.specs.Ledger.{Ledger, Contents, Console, Bytes, Page, PageLoan, Orphan, loan_at, loan_of, has_bytes, is_counted, pages}
use Rattle.ledger_model.specs.Loans.{loans, loan_of_orphan, LoanRun, without_lender, same_number, of_number, orphan_of_number, orphan_of_run, Stands}
use Rattle.ledger_model.specs.Places.{in_run, moved, place_after, is_place_in, count_places}
use Rattle.ledger_model.specs.Reach.{lender_of}
use Rattle.ledger_model.specs.Steps.{orphan_loan, page_without, orphan_from, orphan_with, has_number, loan_without}
use Rattle.ledger_model.proofs.LedgerLemmas.{cases_Option, same_ledger, same_number-true, same_number-at, same_number-false, same_number-apart, loan_at-page, loan_at-home, lender_of-loan, lender_of-holder}
use Rattle.ledger_model.proofs.Loans.NumberingLemmas.{count_places-run, is_place_in-user}
use Rattle.ledger_model.proofs.Loans.OfNumberLemmas.{of_number-at, of_number-None, of_number-without, of_number-without_other, orphan_of_number-at, orphan_of_number-apart, loan_without-old, SameOf, run_still, loan_of_run-inside, loan_of_run-outside, loan_of_run-None, orphan_of_run-lent, orphan_of_run-inside, orphan_of_run-outside, stands-home}
use Rattle.ledger_model.proofs.PlaceLemmas.{in_run-after, moved-in_run, moved-back}

-- ---- homes

without-loan : (number : Number) (o : Option Page) → loan_of (page_without number o) ≡ loan_without number (loan_of o)
without-loan number None = refl
without-loan number (Some page) = by_loan page.loan refl
  where
    by_loan : (o : Option PageLoan) → page.loan ≡ o
        → loan_of (if has_number number o then None else Some page) ≡ loan_without number page.loan
    by_loan None e = rw e refl
    by_loan (Some x) e = elim (cases_Bool (same_number x.number number)) [
      | inl t ↦ rw (e, t) refl
      | inr f ↦ rw (e, f) refl
    ]

pub orphan_loan_loan : (procs : ℕ) (number : Number) (l : Ledger) (p : Place)
    → loan_at (orphan_loan procs number l) p ≡ loan_without number (loan_at l p)
unfolding orphan_loan
orphan_loan_loan procs number l p = without-loan number (l.home p)

-- a page that is left stood there, and isn't on loan by the number
page_without-old : (number : Number) (o : Option Page) (b : Page) → page_without number o ≡ Some b
    → (o ≡ Some b) × (has_number number b.loan ≡ false)
page_without-old number None b e = absurd (none-some b e)
page_without-old number (Some page) b e = elim (cases_Bool (has_number number page.loan)) [
  | inl t ↦ absurd (none-some b (sym (cond-true (has_number number page.loan) None (Some page) t) ∙ e))
  | inr f ↦ let same : Some page ≡ Some b = sym (cond-false (has_number number page.loan) None (Some page) f) ∙ e in
      (same, subst (λ (x : Page). has_number number x.loan ≡ false) (same_Some page b same) f)
]

pub page_without-gone : (number : Number) (page : Page) (x : PageLoan) → page.loan ≡ Some x → x.number ≡ number
    → page_without number (Some page) ≡ None
page_without-gone number page x e n = cond-true (has_number number page.loan) None (Some page) (ap (has_number number) e ∙ same_number-at x.number number n)

has_number-None : (number : Number) (o : Option PageLoan) → of_number number o ≡ None → has_number number o ≡ false
has_number-None number None e = refl
has_number-None number (Some x) e = same_number-apart x.number number (of_number-None number (Some x) x e refl)

pub page_without-stays : (number : Number) (o : Option Page) → of_number number (loan_of o) ≡ None
    → page_without number o ≡ o
page_without-stays number None e = refl
page_without-stays number (Some page) e = cond-false (has_number number page.loan) None (Some page) (has_number-None number page.loan e)

pub orphan_loan_home : (procs : ℕ) (number : Number) (l : Ledger) (p : Place)
    → (orphan_loan procs number l).home p ≡ page_without number (l.home p)
unfolding orphan_loan
orphan_loan_home procs number l p = refl

old_home : (procs : ℕ) (number : Number) (l : Ledger) (p : Place) (b : Page)
    → (orphan_loan procs number l).home p ≡ Some b → l.home p ≡ Some b
old_home procs number l p b e = (page_without-old number (l.home p) b (sym (orphan_loan_home procs number l p) ∙ e)).0

no_new_home : (procs : ℕ) (number : Number) (l : Ledger) (p : Place) → l.home p ≡ None
    → (orphan_loan procs number l).home p ≡ None
no_new_home procs number l p e = orphan_loan_home procs number l p ∙ ap (page_without number) e

-- ---- orphans

-- the orphan that is made at a place
abbrev pub made : ℕ → Number → Ledger → Place → Option Orphan
made procs number l q = option_and_then (orphan_from number) (option_and_then l.home (lender_of procs l q))

pub orphan_loan_orphan : (procs : ℕ) (number : Number) (l : Ledger) (q : Place)
    → (orphan_loan procs number l).orphan q ≡ option_or (made procs number l q) (l.orphan q)
unfolding orphan_loan
orphan_loan_orphan procs number l q = refl

-- what an orphan comes from
pub record Source (l : Ledger) (number : Number) (q : Place) (o : Orphan) : Type 0 where
  pub home : Place
  pub page : Page
  pub loan : PageLoan
  pub at : l.home home ≡ Some page
  pub lent : page.loan ≡ Some loan
  pub held : loan.holder ≡ q
  pub by : loan.number ≡ number
  pub bytes : page.contents ≡ Bytes o.bytes
  pub kind : o.kind ≡ loan.kind
  pub same : o.number ≡ number

with_source : (loan : PageLoan) (c : Contents) (o : Orphan) → orphan_with loan c ≡ Some o
    → (c ≡ Bytes o.bytes) × (o.kind ≡ loan.kind) × (o.number ≡ loan.number)
with_source loan Console o e = absurd (none-some o e)
with_source loan (Bytes bytes) o e =
    let same : record { kind = loan.kind; bytes = bytes; number = loan.number } ≡ o =
    same_Some (record { kind = loan.kind; bytes = bytes; number = loan.number }) o e in
    (ap (λ (x : Orphan). Bytes x.bytes) same, sym (ap (λ (x : Orphan). x.kind) same), sym (ap (λ (x : Orphan). x.number) same))

from_source : (number : Number) (page : Page) (x : Option PageLoan) (o : Orphan) → page.loan ≡ x
    → option_and_then (λ loan. if same_number loan.number number then orphan_with loan page.contents else None) x ≡ Some o
    → (loan : PageLoan) × (page.loan ≡ Some loan) × (loan.number ≡ number) × (page.contents ≡ Bytes o.bytes) × (o.kind ≡ loan.kind) × (o.number ≡ number)
from_source number page None o p e = absurd (none-some o e)
from_source number page (Some loan) o p e = elim (cases_Bool (same_number loan.number number)) [
  | inl t ↦
      let w : (page.contents ≡ Bytes o.bytes) × (o.kind ≡ loan.kind) × (o.number ≡ loan.number) =
      with_source loan page.contents o (sym (cond-true (same_number loan.number number) (orphan_with loan page.contents) None t) ∙ e) in
      let n : loan.number ≡ number = same_number-true loan.number number t in
      (loan, p, n, w.0, w.1, w.2 ∙ n)
  | inr f ↦ absurd (none-some o (sym (cond-false (same_number loan.number number) (orphan_with loan page.contents) None f) ∙ e))
]

pub made-source : (procs : ℕ) (number : Number) (l : Ledger) (q : Place) (o : Orphan) → made procs number l q ≡ Some o
    → Source l number q o
made-source procs number l q o e = by_lender (lender_of procs l q) refl e
  where
    by_page : (home : Place) (x : Option Page) → lender_of procs l q ≡ Some home → l.home home ≡ x
        → option_and_then (orphan_from number) x ≡ Some o → Source l number q o
    by_page home None a b f = absurd (none-some o f)
    by_page home (Some page) a b f =
        let s : (loan : PageLoan) × (page.loan ≡ Some loan) × (loan.number ≡ number) × (page.contents ≡ Bytes o.bytes) × (o.kind ≡ loan.kind) × (o.number ≡ number) =
        from_source number page page.loan o refl f in
        let held : (loan : PageLoan) × (loan_at l home ≡ Some loan) × (loan.holder ≡ q) =
        lender_of-loan procs l q home a in
        let same : held.0 ≡ s.0 = same_Some held.0 s.0 (sym held.1 ∙ (loan_at-home l home page b ∙ s.1)) in
        record {
          home = home;
          page = page;
          loan = s.0;
          at = b;
          lent = s.1;
          held = sym (ap (λ (x : PageLoan). x.holder) same) ∙ held.2;
          by = s.2;
          bytes = s.3;
          kind = s.4;
          same = s.5;
        }

    by_lender : (x : Option Place) → lender_of procs l q ≡ x
        → option_and_then (orphan_from number) (option_and_then l.home x) ≡ Some o → Source l number q o
    by_lender None a f = absurd (none-some o f)
    by_lender (Some home) a f = by_page home (l.home home) a refl f

-- each page on loan by the number becomes an orphan at its holder's place
pub made-at : (procs capacity : ℕ) (number : Number) (l : Ledger) (p : Place) (page : Page) (loan : PageLoan)
    → IsLawful procs capacity l
    → l.home p ≡ Some page → page.loan ≡ Some loan → loan.number ≡ number
    → (o : Orphan) × (made procs number l loan.holder ≡ Some o) × (o.kind ≡ loan.kind) × (o.number ≡ number) × (page.contents ≡ Bytes o.bytes)
made-at procs capacity number l p page loan h e f n = by_contents page.contents refl
  where
    there : made procs number l loan.holder ≡ orphan_from number page
    there = ap (λ x. option_and_then (orphan_from number) (option_and_then l.home x)) (lender_of-holder procs capacity l p loan h (loan_at-home l p page e ∙ f))
        ∙ ap (option_and_then (orphan_from number)) e

    by_contents : (c : Contents) → page.contents ≡ c
        → (o : Orphan) × (made procs number l loan.holder ≡ Some o) × (o.kind ≡ loan.kind) × (o.number ≡ number) × (page.contents ≡ Bytes o.bytes)
    by_contents Console q = absurd (none-some loan (sym (h.console_no_loan p page e q) ∙ f))
    by_contents (Bytes bytes) q = (
      record { kind = loan.kind; bytes = bytes; number = loan.number },
      there ∙ (ap (option_and_then (λ x. if same_number x.number number then orphan_with x page.contents else None)) f
          ∙ (cond-true (same_number loan.number number) (orphan_with loan page.contents) None (same_number-at loan.number number n) ∙ ap (orphan_with loan) q)),
      refl,
      n,
      q,
    )

-- an orphan is a new one or an old one
made_or_old : (procs : ℕ) (number : Number) (l : Ledger) (q : Place) (o : Orphan)
    → (orphan_loan procs number l).orphan q ≡ Some o
    → Source l number q o ⊎ ((made procs number l q ≡ None) × (l.orphan q ≡ Some o))
made_or_old procs number l q o e = by_made (made procs number l q) refl (sym (orphan_loan_orphan procs number l q) ∙ e)
  where
    by_made : (x : Option Orphan) → made procs number l q ≡ x → option_or x (l.orphan q) ≡ Some o
        → Source l number q o ⊎ ((made procs number l q ≡ None) × (l.orphan q ≡ Some o))
    by_made None a f = inr (a, f)
    by_made (Some y) a f = inl (made-source procs number l q o (a ∙ f))

pub orphan_loan_made : (procs : ℕ) (number : Number) (l : Ledger) (q : Place) (o : Orphan)
    → made procs number l q ≡ Some o → (orphan_loan procs number l).orphan q ≡ Some o
orphan_loan_made procs number l q o e = orphan_loan_orphan procs number l q ∙ ap (λ x. option_or x (l.orphan q)) e

pub orphan_loan_kept : (procs : ℕ) (number : Number) (l : Ledger) (q : Place) → made procs number l q ≡ None
    → (orphan_loan procs number l).orphan q ≡ l.orphan q
orphan_loan_kept procs number l q e = orphan_loan_orphan procs number l q ∙ ap (λ x. option_or x (l.orphan q)) e

-- a place where nothing is made
pub none_made : (procs : ℕ) (number : Number) (l : Ledger) (q : Place) → ((o : Orphan) → Source l number q o → ⊥)
    → made procs number l q ≡ None
none_made procs number l q h = elim (cases_Option (made procs number l q)) [
  | inl none ↦ none
  | inr some ↦ absurd (h some.0 (made-source procs number l q some.0 some.1))
]

-- ---- loans

-- a number that no page is on loan by has no source
no_source : (number : Number) (l : Ledger) (q : Place) (o : Orphan)
    → ((p : Place) → of_number number (loan_at l p) ≡ None) → Source l number q o → ⊥
no_source number l q o h s = of_number-None number (loan_at l s.home) s.loan (h s.home) (loan_at-home l s.home s.page s.at ∙ s.lent) s.by

-- the step of such a number changes nothing
pub orphan_loan_nothing : (procs : ℕ) (number : Number) (l : Ledger)
    → ((p : Place) → of_number number (loan_at l p) ≡ None) → orphan_loan procs number l ≡ l
orphan_loan_nothing procs number l h = same_ledger (orphan_loan procs number l) l
    (λ p. orphan_loan_home procs number l p ∙ page_without-stays number (l.home p) (h p))
    (λ q. orphan_loan_kept procs number l q (none_made procs number l q (λ o s. no_source number l q o h s)))

-- the loans of every other number stay
pub orphan_loan_other : (procs capacity : ℕ) (number other : Number) (l : Ledger) → IsLawful procs capacity l
    → other ≢ number → SameOf other (loans l) (loans (orphan_loan procs number l))
unfolding loans
orphan_loan_other procs capacity number other l h ne = record {
  homes = λ p. ap (of_number other) (orphan_loan_loan procs number l p) ∙ of_number-without_other number other (loan_at l p) ne;
  orphans = λ q. by_made q (made procs number l q) refl;
}
  where
    -- at a place of a new orphan there was none
    by_made : (q : Place) (x : Option Orphan) → made procs number l q ≡ x
        → orphan_of_number other (option_map loan_of_orphan ((orphan_loan procs number l).orphan q)) ≡ orphan_of_number other (option_map loan_of_orphan (l.orphan q))
    by_made q None e = ap (λ o. orphan_of_number other (option_map loan_of_orphan o)) (orphan_loan_kept procs number l q e)
    by_made q (Some o) e =
        let s : Source l number q o = made-source procs number l q o e in
        let none : l.orphan q ≡ None =
        subst (λ r. l.orphan r ≡ None) s.held (h.holder_no_orphan s.home s.loan (loan_at-home l s.home s.page s.at ∙ s.lent)) in
        ap (λ x. orphan_of_number other (option_map loan_of_orphan x)) (orphan_loan_made procs number l q o e)
        ∙ (orphan_of_number-apart other (loan_of_orphan o) (λ f. ne (sym f ∙ s.same)) ∙ sym (ap (λ x. orphan_of_number other (option_map loan_of_orphan x)) none))

-- where a source lies: in the lender's run, and its holder place as far along in the holder's
source_in_run : (l : Ledger) (r : LoanRun) (from q : Place) (o : Orphan) → Stands (loans l) r → r.lender ≡ Some from
    → Source l r.number q o
    → (in_run from r.count (moved r.holder from q) ≡ true) × (in_run r.holder r.count q ≡ true) × (o.kind ≡ r.kind)
unfolding loans
source_in_run l r from q o stands e s = by_run (in_run from r.count s.home) refl
  where
    found : of_number r.number (loan_at l s.home) ≡ Some s.loan
    found = ap (of_number r.number) (loan_at-home l s.home s.page s.at ∙ s.lent) ∙ of_number-at r.number s.loan s.by

    by_run : (b : Bool) → in_run from r.count s.home ≡ b
        → (in_run from r.count (moved r.holder from q) ≡ true) × (in_run r.holder r.count q ≡ true) × (o.kind ≡ r.kind)
    by_run true t =
        let same : record { holder = moved from r.holder s.home; kind = r.kind; number = r.number } ≡ s.loan =
        same_Some (record { holder = moved from r.holder s.home; kind = r.kind; number = r.number }) s.loan (sym (loan_of_run-inside r from s.home e t) ∙ (sym (stands.homes s.home) ∙ found)) in
        let there : moved from r.holder s.home ≡ q = ap (λ (x : PageLoan). x.holder) same ∙ s.held in (
          subst (λ p. in_run from r.count p ≡ true) (sym (moved-back from r.holder s.home r.count t) ∙ ap (moved r.holder from) there) t,
          subst (λ p. in_run r.holder r.count p ≡ true) there (moved-in_run from r.holder s.home r.count t),
          s.kind ∙ sym (ap (λ (x : PageLoan). x.kind) same),
        )
    by_run false f = absurd (none-some s.loan (sym (loan_of_run-outside r from s.home e f) ∙ (sym (stands.homes s.home) ∙ found)))

-- the page on loan to a place of the holder's run
page_of_holder : (l : Ledger) (r : LoanRun) (from q : Place) → Stands (loans l) r → r.lender ≡ Some from
    → in_run r.holder r.count q ≡ true
    → (page : Page) × (loan : PageLoan) × (l.home (moved r.holder from q) ≡ Some page) × (page.loan ≡ Some loan) × (loan.holder ≡ q) × (loan.number ≡ r.number) × (loan.kind ≡ r.kind)
unfolding loans
page_of_holder l r from q stands e t =
    let inside : in_run from r.count (moved r.holder from q) ≡ true = moved-in_run r.holder from q r.count t in
    let loan : PageLoan =
    record { holder = moved from r.holder (moved r.holder from q); kind = r.kind; number = r.number } in
    let there : loan_at l (moved r.holder from q) ≡ Some loan =
    stands-home (loans l) r from (moved r.holder from q) stands e inside in
    let page : (page : Page) × (l.home (moved r.holder from q) ≡ Some page) × (page.loan ≡ Some loan) =
    loan_at-page l (moved r.holder from q) loan there in
    (page.0, loan, page.1, page.2, moved-back r.holder from q r.count t, refl, refl)

-- a loan that stands with a lender stands without one afterwards
pub orphan_loan_stands : (procs capacity : ℕ) (l : Ledger) (r : LoanRun) (from : Place) → IsLawful procs capacity l
    → Stands (loans l) r → r.lender ≡ Some from
    → Stands (loans (orphan_loan procs r.number l)) (without_lender r)
unfolding loans
orphan_loan_stands procs capacity l r from h stands e = record {
  homes = λ p. ap (of_number r.number) (orphan_loan_loan procs r.number l p) ∙ of_number-without r.number (loan_at l p);
  orphans = λ q. by_made q (made procs r.number l q) refl;
}
  where
    by_made : (q : Place) (x : Option Orphan) → made procs r.number l q ≡ x
        → orphan_of_number r.number (option_map loan_of_orphan ((orphan_loan procs r.number l).orphan q)) ≡ orphan_of_run (without_lender r) q
    by_made q None m = elim (cases_Bool (in_run r.holder r.count q)) [
      | inl t ↦
          let page : _ = page_of_holder l r from q stands e t in
          let o : _ =
          made-at procs capacity r.number l (moved r.holder from q) page.0 page.1 h page.2 page.3 page.5 in
          absurd (none-some o.0 (sym m ∙ (ap (made procs r.number l) (sym page.4) ∙ o.1)))
      | inr f ↦ ap (λ x. orphan_of_number r.number (option_map loan_of_orphan x)) (orphan_loan_kept procs r.number l q m)
          ∙ (stands.orphans q ∙ (orphan_of_run-lent r from q e ∙ sym (orphan_of_run-outside (without_lender r) q f)))
    ]
    by_made q (Some o) m =
        let s : Source l r.number q o = made-source procs r.number l q o m in
        let in' : _ = source_in_run l r from q o stands e s in
        ap (λ x. orphan_of_number r.number (option_map loan_of_orphan x)) (orphan_loan_made procs r.number l q o m)
        ∙ (orphan_of_number-at r.number (loan_of_orphan o) s.same
        ∙ (ap Some (λ i. record { kind = in'.2 i; number = s.same i }) ∙ sym (orphan_of_run-inside (without_lender r) q refl in'.1)))

-- ---- pages

-- a page on loan is counted
lent_counted : (procs capacity : ℕ) (l : Ledger) (p : Place) (page : Page) (loan : PageLoan)
    → IsLawful procs capacity l → l.home p ≡ Some page → page.loan ≡ Some loan → is_counted (l.home p) ≡ true
lent_counted procs capacity l p page loan h e f = ap is_counted e ∙ by_contents page.contents refl
  where
    by_contents : (c : Contents) → page.contents ≡ c → has_bytes page.contents ≡ true
    by_contents Console q = absurd (none-some loan (sym (h.console_no_loan p page e q) ∙ f))
    by_contents (Bytes bytes) q = ap has_bytes q

-- each page of the loan becomes one orphan: the number of pages stays
pub orphan_loan_pages_lent : (procs capacity : ℕ) (l : Ledger) (r : LoanRun) (from : Place)
    → IsLawful procs capacity l → Stands (loans l) r → r.lender ≡ Some from
    → pages procs (orphan_loan procs r.number l) ≡ pages procs l
unfolding pages loans
orphan_loan_pages_lent procs capacity l r from h stands e =
    let m : Ledger = orphan_loan procs r.number l in
    let homes : count_places procs (λ p. is_counted (l.home p)) ≡ count_places procs (λ p. is_counted ((orphan_loan procs r.number l).home p)) + r.count =
    count_places-run procs from r.count (λ p. is_counted (l.home p)) (λ p. is_counted ((orphan_loan procs r.number l).home p))
    (λ i b. let page : _ = page_at (place_after from i) (in_run-after from r.count i b) in h.home_lies (place_after from i) page.0 page.2)
    (λ p t. let page : _ = page_at p t in (
      lent_counted procs capacity l p page.0 page.1 h page.2 page.3,
      ap is_counted (orphan_loan_home procs r.number l p ∙ (ap (page_without r.number) page.2 ∙ page_without-gone r.number page.0 page.1 page.3 page.4)),
    ))
    (λ p f. sym (ap is_counted (orphan_loan_home procs r.number l p
    ∙ page_without-stays r.number (l.home p) (stands.homes p ∙ loan_of_run-outside r from p e f)))) in
    let orphans : count_places procs (λ q. is_some ((orphan_loan procs r.number l).orphan q)) ≡ count_places procs (λ q. is_some (l.orphan q)) + r.count =
    count_places-run procs r.holder r.count (λ q. is_some ((orphan_loan procs r.number l).orphan q)) (λ q. is_some (l.orphan q))
    (λ i b. let page : _ = page_of_holder l r from (place_after r.holder i) stands e (in_run-after r.holder r.count i b) in
    is_place_in-user procs Message (place_after r.holder i) (subst (λ q. is_place_in procs Message q ≡ true) page.4
    (h.holder_lies (moved r.holder from (place_after r.holder i)) page.1 (loan_at-home l (moved r.holder from (place_after r.holder i)) page.0 page.2 ∙ page.3))))
    (λ q t.
    let page : _ = page_of_holder l r from q stands e t in
    let o : _ =
    made-at procs capacity r.number l (moved r.holder from q) page.0 page.1 h page.2 page.3 page.5 in (
      ap is_some (orphan_loan_made procs r.number l q o.0 (ap (made procs r.number l) (sym page.4) ∙ o.1)),
      ap is_some (subst (λ p. l.orphan p ≡ None) page.4
          (h.holder_no_orphan (moved r.holder from q) page.1 (loan_at-home l (moved r.holder from q) page.0 page.2 ∙ page.3))),
    ))
    (λ q f. ap is_some (orphan_loan_kept procs r.number l q (none_made procs r.number l q
    (λ o s. let in' : _ = source_in_run l r from q o stands e s in both_ways (in_run r.holder r.count q) f in'.1)))) in
    omega arith
  where
    page_at : (p : Place) → in_run from r.count p ≡ true
        → (page : Page) × (loan : PageLoan) × (l.home p ≡ Some page) × (page.loan ≡ Some loan) × (loan.number ≡ r.number)
    page_at p t =
        let loan : PageLoan = record { holder = moved from r.holder p; kind = r.kind; number = r.number } in
        let page : (page : Page) × (l.home p ≡ Some page) × (page.loan ≡ Some loan) =
        loan_at-page l p loan (stands-home (loans l) r from p stands e t) in
        (page.0, loan, page.1, page.2, refl)

-- what the entries of a number are: no loan at a home, or a loan with a lender
lent_or_not : (l : Ledger) (number : Number) → IsOneRun l number
    → ((p : Place) → of_number number (loan_at l p) ≡ None) ⊎ ((r : LoanRun) × (from : Place) × (r.number ≡ number) × (r.lender ≡ Some from) × Stands (loans l) r)
unfolding loans
lent_or_not l number (inl fresh) = inl (λ p. fresh.homes p)
lent_or_not l number (inr (r, e, stands)) = elim (cases_Option r.lender) [
  | inl none ↦ inl (subst (λ n. (p : Place) → of_number n (loan_at l p) ≡ None) e (λ p. stands.homes p ∙ loan_of_run-None r p none))
  | inr some ↦ inr (r, some.0, e, some.1, stands)
]

pub orphan_loan_pages : (procs capacity : ℕ) (number : Number) (l : Ledger) → IsLawful procs capacity l
    → pages procs (orphan_loan procs number l) ≡ pages procs l
orphan_loan_pages procs capacity number l h = elim (lent_or_not l number (h.one_run number)) [
  | inl none ↦ ap (pages procs) (orphan_loan_nothing procs number l none)
  | inr r ↦ subst (λ n. pages procs (orphan_loan procs n l) ≡ pages procs l) r.2 (orphan_loan_pages_lent procs capacity l r.0 r.1 h r.4 r.3)
]

-- ---- lawful

orphan_loan_runs : (procs capacity : ℕ) (number other : Number) (l : Ledger) → IsLawful procs capacity l
    → IsOneRun (orphan_loan procs number l) other
orphan_loan_runs procs capacity number other l h = elim (lent_or_not l number (h.one_run number)) [
  | inl none ↦ subst (λ m. IsOneRun m other) (sym (orphan_loan_nothing procs number l none)) (h.one_run other)
  | inr r ↦ elim (cases_Bool (same_number other number)) [
    | inl t ↦
        let here : r.0.number ≡ other = r.2 ∙ sym (same_number-true other number t) in
        inr (without_lender r.0, here, subst (λ n. Stands (loans (orphan_loan procs n l)) (without_lender r.0)) r.2 (orphan_loan_stands procs capacity l r.0 r.1 h r.4 r.3))
    | inr f ↦ run_still l (orphan_loan procs number l) other (orphan_loan_other procs capacity number other l h (same_number-false other number f)) (h.one_run other)
  ]
]

pub orphan_loan_lawful : (procs capacity : ℕ) (number : Number) (l : Ledger) → IsLawful procs capacity l
    → IsLawful procs capacity (orphan_loan procs number l)
orphan_loan_lawful procs capacity number l h =
    let home : (p : Place) (b : Page) → (orphan_loan procs number l).home p ≡ Some b → l.home p ≡ Some b =
    old_home procs number l in
    let loan : (p : Place) (x : PageLoan) → loan_at (orphan_loan procs number l) p ≡ Some x → loan_at l p ≡ Some x =
    λ p x e. loan_without-old number (loan_at l p) x (sym (orphan_loan_loan procs number l p) ∙ e) in
    record {
      home_lies = λ p b e. h.home_lies p b (home p b e);
      holder_lies = λ p x e. h.holder_lies p x (loan p x e);
      orphan_lies = λ q o e. elim (made_or_old procs number l q o e) [
        | inl s ↦ subst (λ p. is_place_in procs Message p ≡ true) s.held (h.holder_lies s.home s.loan (loan_at-home l s.home s.page s.at ∙ s.lent))
        | inr old ↦ h.orphan_lies q o old.1
      ];
      holders_differ = λ p q x y e f s. h.holders_differ p q x y (loan p x e) (loan q y f) s;
      holder_no_home = λ p x e. no_new_home procs number l x.holder (h.holder_no_home p x (loan p x e));
      holder_no_orphan = λ p x e.
          orphan_loan_kept procs number l x.holder (none_made procs number l x.holder (λ o s.
          let there : loan_at l s.home ≡ Some s.loan = loan_at-home l s.home s.page s.at ∙ s.lent in
          let one : s.home ≡ p = h.holders_differ s.home p s.loan x there (loan p x e) s.held in
          let same : s.loan ≡ x = same_Some s.loan x (sym there ∙ (ap (loan_at l) one ∙ loan p x e)) in
          none-some x (sym (loan_without-at x (sym (ap (λ (y : PageLoan). y.number) same) ∙ s.by)) ∙ (ap (loan_without number) (sym (loan p x e)) ∙ (sym (orphan_loan_loan procs number l p) ∙ e)))))
          ∙ h.holder_no_orphan p x (loan p x e);
      orphan_no_home = λ q o e. no_new_home procs number l q (elim (made_or_old procs number l q o e) [
        | inl s ↦ subst (λ p. l.home p ≡ None) s.held (h.holder_no_home s.home s.loan (loan_at-home l s.home s.page s.at ∙ s.lent))
        | inr old ↦ h.orphan_no_home q o old.1
      ]);
      one_console = λ p q a b e f s t. h.one_console p q a b (home p a e) (home q b f) s t;
      console_lies = λ p b e s. h.console_lies p b (home p b e) s;
      console_no_loan = λ p b e s. h.console_no_loan p b (home p b e) s;
      console_no_fetch = λ p b e s. h.console_no_fetch p b (home p b e) s;
      within = let same : pages procs (orphan_loan procs number l) ≡ pages procs l = orphan_loan_pages procs capacity number l h in let room : pages procs l ≤ capacity = h.within in omega arith;
      one_run = λ other. orphan_loan_runs procs capacity number other l h;
      exclusive_writable = λ p b x e f k. h.exclusive_writable p b x (home p b e) f k;
    }
  where
    loan_without-at : (x : PageLoan) → x.number ≡ number → loan_without number (Some x) ≡ None
    loan_without-at x e = cond-true (same_number x.number number) None (Some x) (same_number-at x.number number e)
