-- The pages of a loan that becomes orphans keep their bytes, in the order of its run; and a fresh number stays fresh.
use Rattle.std.proofs.Common.{◌≡◌, ℕ, ◌<◌, Bool, true, false, Option, Some, None, refl, sym, ap, ◌∙◌}
use Rattle.std.specs.Prelude.{if◌then◌else◌}
use Rattle.std.specs.Option.{option_and_then, option_map, option_or}
use Rattle.std.proofs.lemmas.Option.{none-some}
use Rattle.xk_base.specs.declared.ids.Number.{Number}
use Rattle.xk_base.specs.declared.ids.Place.{Place}
use Rattle.ledger_model.specs.Lawful.{IsLawful}
use Rattle.ledger_model.specs.Ledger.{Bytes, Console, Contents, Homed, Ledger, Orphan, Orphaned, Page, PageLoan, contents_of, loan_of}
use Rattle.ledger_model.specs.Loans.{IsFresh, LoanRun, Stands, loan_of_orphan, loans, of_number, orphan_of_number, same_number}
use Rattle.ledger_model.specs.Places.{place_after}
use Rattle.ledger_model.specs.Reach.{lender_of}
use Rattle.ledger_model.specs.Steps.{orphan_with}
use Rattle.ledger_model.proofs.LedgerLemmas.{lender_of-holder, loan_at-page}
use Rattle.ledger_model.proofs.OwnerLemmas.{stands_home_at}
use Rattle.machine_model.specs.Messaging.LoanSets.{is_lent_by, orphan_loans, orphan_of_page, page_but}

-- ---- what a page becomes

module _ (procs capacity : ℕ) (set : Number → Bool) (l : Ledger) (lawful : IsLawful procs capacity l) (a : LoanRun)
    (stands : Stands (loans l) a) (goes : set a.number ≡ true) (home : Place) (lender : a.lender ≡ Some home) (k : ℕ) (low : k < a.count) where
  abbrev loan : PageLoan
  loan = record { holder = place_after a.holder k; kind = a.kind; number = a.number }

  became : (page : Page) → l.home (place_after home k) ≡ Some page → page.loan ≡ Some loan → (c : Contents) → page.contents ≡ c
      → contents_of (orphan_loans procs set l) (Orphaned (place_after a.holder k)) ≡ Some c
  unfolding orphan_loans
  became page there lent Console e =
      absurd (none-some loan (sym (lawful.console_no_loan (place_after home k) page there e) ∙ lent))
  became page there lent (Bytes bytes) e =
      ap (λ o. option_map (λ (orphan : Orphan). Bytes orphan.bytes)
      (option_or (option_and_then (orphan_of_page set) (option_and_then l.home o)) (l.orphan (place_after a.holder k)))) found
      ∙ ap (λ o. option_map (λ (orphan : Orphan). Bytes orphan.bytes)
      (option_or (option_and_then (orphan_of_page set) o) (l.orphan (place_after a.holder k)))) there
      ∙ ap (λ o. option_map (λ (orphan : Orphan). Bytes orphan.bytes)
      (option_or (option_and_then (λ x. if set x.number then orphan_with x page.contents else None) o) (l.orphan (place_after a.holder k)))) lent
      ∙ ap (λ b. option_map (λ (orphan : Orphan). Bytes orphan.bytes)
      (option_or (if b then orphan_with loan page.contents else None) (l.orphan (place_after a.holder k)))) goes
      ∙ ap (λ c. option_map (λ (orphan : Orphan). Bytes orphan.bytes) (option_or (orphan_with loan c) (l.orphan (place_after a.holder k)))) e
    where
      found : lender_of procs l (place_after a.holder k) ≡ Some (place_after home k)
      found = lender_of-holder procs capacity l (place_after home k) loan lawful (stands_home_at l a home k stands lender low)

  pub orphan_contents : contents_of (orphan_loans procs set l) (Orphaned (place_after a.holder k)) ≡ contents_of l (Homed (place_after home k))
  orphan_contents =
      let page = loan_at-page l (place_after home k) loan (stands_home_at l a home k stands lender low) in
      became page.0 page.1 page.2 page.0.contents refl ∙ sym (ap (option_map (λ page. page.contents)) page.1)

-- ---- fresh numbers

module _ (procs : ℕ) (set : Number → Bool) (l : Ledger) (number : Number) (fresh : IsFresh (loans l) number) where
  page_fresh : (o : Option Page) → of_number number (loan_of o) ≡ None → of_number number (loan_of (page_but set o)) ≡ None
  page_fresh None e = refl
  page_fresh (Some page) e = go (is_lent_by set page.loan)
    where
      go : (b : Bool) → of_number number (loan_of (if b then None else Some page)) ≡ None
      go true = refl
      go false = e

  made_fresh : (page : Page) (o : Option PageLoan) → of_number number o ≡ None → (c : Contents) (y : Option Orphan)
      → orphan_of_number number (option_map loan_of_orphan y) ≡ None
      → orphan_of_number number (option_map loan_of_orphan
      (option_or (option_and_then (λ loan. if set loan.number then orphan_with loan c else None) o) y)) ≡ None
  made_fresh page None e c y none = none
  made_fresh page (Some x) e c y none = go (set x.number) c
    where
      apart : (b : Bool) → same_number x.number number ≡ b → b ≡ false
      apart false q = refl
      apart true q = absurd (none-some x (sym e ∙ ap (λ b. if b then Some x else None) q))

      go : (b : Bool) (c : Contents)
          → orphan_of_number number (option_map loan_of_orphan (option_or (if b then orphan_with x c else None) y)) ≡ None
      go false c = none
      go true Console = none
      go true (Bytes bytes) =
          by (record { kind = x.kind; bytes = bytes; number = x.number }) (apart (same_number x.number number) refl)
        where
          by : (z : Orphan) → same_number x.number number ≡ false → (if same_number x.number number then Some (loan_of_orphan z) else None) ≡ None
          by z q = ap (λ b. if b then Some (loan_of_orphan z) else None) q

  pub orphans_fresh : IsFresh (loans (orphan_loans procs set l)) number
  unfolding loans orphan_loans
  orphans_fresh = record {
    homes = λ p. page_fresh (l.home p) (fresh.homes p);
    orphans = λ q. at q (lender_of procs l q);
  }
    where
      from : (q : Place) (o : Option Page) → of_number number (loan_of o) ≡ None
          → orphan_of_number number (option_map loan_of_orphan (option_or (option_and_then (orphan_of_page set) o) (l.orphan q))) ≡ None
      from q None e = fresh.orphans q
      from q (Some page) e = made_fresh page page.loan e page.contents (l.orphan q) (fresh.orphans q)

      at : (q : Place) (o : Option Place)
          → orphan_of_number number (option_map loan_of_orphan
          (option_or (option_and_then (orphan_of_page set) (option_and_then l.home o)) (l.orphan q))) ≡ None
      at q None = fresh.orphans q
      at q (Some p) = from q (l.home p) (fresh.homes p)
