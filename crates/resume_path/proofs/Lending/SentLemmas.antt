-- Pages that may be lent are those that a process may send; what a lend and an orphan leave is told by what was, but for bytes.
use Rattle.std.proofs.Common.{◌≡◌, ℕ, ◌<◌, Bool, true, false, ◌&&◌, Option, Some, None, Ok, refl, sym, ap, ◌∙◌}
use Rattle.std.specs.Prelude.{◌||◌, not, is_some, if◌then◌else◌, Err}
use Rattle.std.specs.Option.{option_and_then, option_map, option_or}
use Rattle.std.proofs.lemmas.Bool.{both_ways}
use Rattle.ledger_model.proofs.LedgerLemmas.{role_at-home}
use Rattle.ledger_model.proofs.PlaceLemmas.{in_run-after}
use Rattle.ledger_model.proofs.Pages.BareLemmas.{bare-lender}
use Rattle.ledger_model.proofs.Runs.RunTestLemmas.{none_passes}
use Rattle.ledger_model.proofs.Stepping.LendingLemmas.{IsMovable, may_lend-page}
use Rattle.ledger_model.specs.Conditions.{CanLend, is_console}
use Rattle.ledger_model.specs.Ledger.{Bytes, Console, Contents, Ledger, Orphan, Page, PageLoan, has_bytes}
use Rattle.ledger_model.specs.Loans.{bare, bare_contents, bare_orphan, bare_page, same_number}
use Rattle.ledger_model.specs.Places.{in_run, moved, place_after}
use Rattle.ledger_model.specs.Reach.{is_free, is_free_role, lender_of, role_at}
use Rattle.ledger_model.specs.RunTests.{any_console, any_free, any_lacks, any_on_loan, asks_more, is_on_loan}
use Rattle.ledger_model.specs.Steps.{has_number, lend, orphan_from, orphan_loan, orphan_with, page_without, with_loan}
use Rattle.loan_flags.specs.Sending.{mem_kind}
use Rattle.vm_memory.specs.Loaning.Sending.{IsFreeArrival, send_answer}
use Rattle.xk_base.specs.declared.errors.XousError.TheVariants.{BadAddress, ShareViolation}
use Rattle.xk_base.specs.declared.ids.Number.{Number}
use Rattle.xk_base.specs.declared.ids.Place.{Place}
use Rattle.xk_base.specs.declared.pages.LoanKind.{LoanKind}
use Rattle.xk_base.specs.declared.pages.LoanKind.TheVariants.{Exclusive, Shared}

-- ---- what may be lent may be sent

has_no_console : (page : Page) → has_bytes page.contents ≡ true → is_console (Some page) ≡ false
has_no_console page bytes = go page.contents bytes
  where
    go : (c : Contents) → has_bytes c ≡ true → not (has_bytes c) ≡ false
    go Console e = absurd (both_ways false refl e)
    go (Bytes bytes) e = refl

module _ (procs : ℕ) (l : Ledger) (from : Place) (n : ℕ) (to : Place) (kind : LoanKind) (number : Number) (can : CanLend procs l from n to kind number) where
  page_at : (i : ℕ) → i < n → (a : Page) × (l.home (place_after from i) ≡ Some a) × IsMovable a × (kind ≡ Exclusive → a.right.w ≡ true)
  page_at i low = may_lend-page kind (l.home (place_after from i)) (can.pages (place_after from i) (in_run-after from n i low))

  none_free : any_free procs l from n ≡ false
  unfolding any_free is_free
  none_free = none_passes (is_free procs l) from n (λ i low. (
      let page = page_at i low in ap is_free_role (role_at-home procs l (place_after from i) page.0 page.1)
      ))

  none_on_loan : any_on_loan procs l from n ≡ false
  unfolding any_on_loan
  none_on_loan = none_passes (λ p. is_on_loan (role_at procs l p)) from n (λ i low. (
      let page = page_at i low in
      ap is_on_loan (role_at-home procs l (place_after from i) page.0 page.1) ∙ ap is_some page.2.no_loan
      ))

  no_console : any_console l from n ≡ false
  unfolding any_console
  no_console = none_passes (λ p. is_console (l.home p)) from n (λ i low. (
      let page = page_at i low in ap is_console page.1 ∙ has_no_console page.0 page.2.bytes
      ))

  none_lacks : kind ≡ Exclusive → any_lacks (record { w = true; x = false }) l from n ≡ false
  unfolding any_lacks
  none_lacks exclusive = none_passes (λ p. asks_more (record { w = true; x = false }) (l.home p)) from n (λ i low. (
      let page = page_at i low in
      ap (asks_more (record { w = true; x = false })) page.1 ∙ ap (λ w. not ((not true || w) && true)) (page.3 exclusive)
      ))

  pub sent : send_answer procs l from n (mem_kind kind) ≡ Ok tt
  sent = go kind refl
    where
      go : (k : LoanKind) → kind ≡ k → send_answer procs l from n (mem_kind k) ≡ Ok tt
      go Shared e = λ i. if none_free i then Err BadAddress else (if none_on_loan i || no_console i || false then Err ShareViolation else Ok tt)
      go Exclusive e = λ i. if none_free i then Err BadAddress else (if none_on_loan i || no_console i || none_lacks e i then Err ShareViolation else Ok tt)

  pub arrives : IsFreeArrival procs l to n
  arrives = record { free = can.free; lies = can.lies }

-- ---- ledgers that are alike but for bytes stay so

lent_bare : (b : Bool) (loan : PageLoan) (o : Option Page) → option_map bare_page (if b then option_map (with_loan loan) o else o)
    ≡ (if b then option_map (with_loan loan) (option_map bare_page o) else option_map bare_page o)
lent_bare true loan None = refl
lent_bare true loan (Some page) = refl
lent_bare false loan o = refl

pub lend_bare : (from : Place) (n : ℕ) (to : Place) (kind : LoanKind) (number : Number) (a b : Ledger) → bare a ≡ bare b
    → bare (lend from n to kind number a) ≡ bare (lend from n to kind number b)
unfolding bare lend
lend_bare from n to kind number a b e = λ i. record {
  home = λ p. (lent_bare (in_run from n p) (loan_to p) (a.home p)
      ∙ (ap (λ (x : Ledger). if in_run from n p then option_map (with_loan (loan_to p)) (x.home p) else x.home p) e
      ∙ sym (lent_bare (in_run from n p) (loan_to p) (b.home p)))) i;
  orphan = λ p. (e i).orphan p;
}
  where
    loan_to : Place → PageLoan
    loan_to p = record { holder = moved from to p; kind = kind; number = number }

without_bare : (number : Number) (o : Option Page) → option_map bare_page (page_without number o) ≡ page_without number (option_map bare_page o)
without_bare number None = refl
without_bare number (Some page) = go (has_number number page.loan)
  where
    go : (b : Bool) → option_map bare_page (if b then None else Some page) ≡ (if b then None else Some (bare_page page))
    go true = refl
    go false = refl

from_bare : (number : Number) (page : Page) → option_map bare_orphan (orphan_from number page) ≡ orphan_from number (bare_page page)
from_bare number page = go page.loan page.contents
  where
    by_number : (b : Bool) (loan : PageLoan) (c : Contents) → option_map bare_orphan (if b then orphan_with loan c else None)
        ≡ (if b then orphan_with loan (bare_contents c) else None)
    by_number true loan Console = refl
    by_number true loan (Bytes bytes) = refl
    by_number false loan c = refl

    go : (o : Option PageLoan) (c : Contents) → option_map bare_orphan
        (option_and_then (λ loan. if same_number loan.number number then orphan_with loan c else None) o)
        ≡ option_and_then (λ loan. if same_number loan.number number then orphan_with loan (bare_contents c) else None) o
    go None c = refl
    go (Some loan) c = by_number (same_number loan.number number) loan c

-- what becomes an orphan at a place, and what stands there
made_bare : (number : Number) (page_of : Place → Option Page) (o : Option Place) (old : Option Orphan)
    → option_map bare_orphan (option_or (option_and_then (orphan_from number) (option_and_then page_of o)) old)
    ≡ option_or (option_and_then (orphan_from number) (option_and_then (λ p. option_map bare_page (page_of p)) o)) (option_map bare_orphan old)
made_bare number page_of None old = refl
made_bare number page_of (Some p) old = go (page_of p)
  where
    or_old : (o : Option Orphan) → option_map bare_orphan (option_or o old) ≡ option_or (option_map bare_orphan o) (option_map bare_orphan old)
    or_old None = refl
    or_old (Some orphan) = refl

    go : (o : Option Page) → option_map bare_orphan (option_or (option_and_then (orphan_from number) o) old)
        ≡ option_or (option_and_then (orphan_from number) (option_map bare_page o)) (option_map bare_orphan old)
    go None = refl
    go (Some page) = or_old (orphan_from number page) ∙ ap (λ o. option_or o (option_map bare_orphan old)) (from_bare number page)

pub orphan_bare : (procs : ℕ) (number : Number) (a b : Ledger) → bare a ≡ bare b → bare (orphan_loan procs number a) ≡ bare (orphan_loan procs number b)
unfolding bare orphan_loan
orphan_bare procs number a b e = λ i. record {
  home = λ p. (without_bare number (a.home p) ∙ (ap (λ (x : Ledger). page_without number (x.home p)) e ∙ sym (without_bare number (b.home p)))) i;
  orphan = λ q. (made_bare number a.home (lender_of procs a q) (a.orphan q)
      ∙ (ap (λ o. option_or (option_and_then (orphan_from number) (option_and_then (λ p. option_map bare_page (a.home p)) o))
      (option_map bare_orphan (a.orphan q)))
      (bare-lender procs b a q e)
      ∙ (ap (λ (x : Ledger). option_or (option_and_then (orphan_from number) (option_and_then x.home (lender_of procs b q))) (x.orphan q)) e
      ∙ sym (made_bare number b.home (lender_of procs b q) (b.orphan q))))) i;
}
