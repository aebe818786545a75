-- A loan whose pages became orphans stands without its lender.
use Rattle.std.proofs.Common.{◌≡◌, ℕ, Some, refl, sym, ap, subst, ◌∙◌, inl, inr}
use Rattle.std.specs.Option.{option_and_then, option_map}
use Rattle.std.proofs.lemmas.Bool.{cases_Bool, cond-true, cond-false}
use Rattle.std.proofs.lemmas.Option.{none-some}
use Rattle.xk_base.specs.declared.ids.Place.{Place}
use Rattle.ledger_model.specs.Ledger.{Bytes, Console, Contents, Ledger, Page, PageLoan, loan_at}
use Rattle.ledger_model.specs.Loans.{LoanRun, Stands, loan_of_orphan, loans, of_number, orphan_of_number, orphan_of_run, without_lender}
use Rattle.ledger_model.specs.Places.{in_run, moved}
use Rattle.ledger_model.specs.Steps.{orphan_loan, orphan_with}
use Rattle.ledger_model.proofs.LedgerLemmas.{loan_at-page}
use Rattle.ledger_model.proofs.Loans.OfNumberLemmas.{of_number-without, orphan_of_number-at, orphan_of_run-inside, orphan_of_run-lent, orphan_of_run-outside, stands-home}
use Rattle.ledger_model.proofs.PlaceLemmas.{moved-in_run}
use Rattle.ledger_model.proofs.Stepping.OrphaningLemmas.{orphan_loan_loan}
use Rattle.sv32_space.specs.EntryLedger.{IsWellPlaced}
use Rattle.sv32_space.specs.PageSteps.{orphan_of_page, orphan_run}
use Rattle.sv32_space.proofs.Agreeing.NumberRunLemmas.{orphan_lent}

module _ (procs : ℕ) (l : Ledger) (r : LoanRun) (h : Stands (loans l) r) (placed : IsWellPlaced procs l) (from : Place) (e : r.lender ≡ Some from) where
  -- the orphan that a page of the loan becomes
  orphan_made : (p : Place) (page : Page) (x : PageLoan) → l.home p ≡ Some page → page.loan ≡ Some x
      → option_map loan_of_orphan (orphan_of_page page) ≡ Some (record { kind = x.kind; number = x.number })
  orphan_made p page x at lent =
      ap (λ o. option_map loan_of_orphan (option_and_then (λ y. orphan_with y page.contents) o)) lent ∙ by_contents page.contents refl
    where
      by_contents : (c : Contents) → page.contents ≡ c
          → option_map loan_of_orphan (orphan_with x page.contents) ≡ Some (record { kind = x.kind; number = x.number })
      by_contents Console c = absurd (none-some x (sym (placed.console_no_loan p page at c) ∙ lent))
      by_contents (Bytes bytes) c = ap (λ k. option_map loan_of_orphan (orphan_with x k)) c

  orphans : (q : Place) → orphan_of_number r.number (option_map loan_of_orphan ((orphan_run from r.count r.holder l).orphan q)) ≡ orphan_of_run (without_lender r) q
  unfolding orphan_run loans
  orphans q = elim (cases_Bool (in_run r.holder r.count q)) [
    | inl t ↦
        let loan : PageLoan = record { holder = moved from r.holder (moved r.holder from q); kind = r.kind; number = r.number } in
        let page : (page : Page) × (l.home (moved r.holder from q) ≡ Some page) × (page.loan ≡ Some (record { holder = moved from r.holder (moved r.holder from q); kind = r.kind; number = r.number })) =
        loan_at-page l (moved r.holder from q) loan (stands-home (loans l) r from (moved r.holder from q) h e (moved-in_run r.holder from q r.count t)) in
        ap (λ o. orphan_of_number r.number (option_map loan_of_orphan o))
        (cond-true (in_run r.holder r.count q) (option_and_then orphan_of_page (l.home (moved r.holder from q))) (l.orphan q) t ∙ ap (option_and_then orphan_of_page) page.1)
        ∙ (ap (orphan_of_number r.number) (orphan_made (moved r.holder from q) page.0 loan page.1 page.2)
        ∙ (orphan_of_number-at r.number (record { kind = r.kind; number = r.number }) refl ∙ sym (orphan_of_run-inside (without_lender r) q refl t)))
    | inr f ↦ ap (λ o. orphan_of_number r.number (option_map loan_of_orphan o))
        (cond-false (in_run r.holder r.count q) (option_and_then orphan_of_page (l.home (moved r.holder from q))) (l.orphan q) f)
        ∙ (h.orphans q ∙ (orphan_of_run-lent r from q e ∙ sym (orphan_of_run-outside (without_lender r) q f)))
  ]

  pub orphaned_stands : Stands (loans (orphan_loan procs r.number l)) (without_lender r)
  unfolding loans
  orphaned_stands = record {
    homes = λ p. ap (of_number r.number) (orphan_loan_loan procs r.number l p) ∙ of_number-without r.number (loan_at l p);
    orphans = λ q. subst (λ m. orphan_of_number r.number (option_map loan_of_orphan (m.orphan q)) ≡ orphan_of_run (without_lender r) q)
        (orphan_lent l r h procs placed from e) (orphans q);
  }
