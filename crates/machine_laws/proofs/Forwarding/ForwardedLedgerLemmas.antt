-- The ledger after the loan of a message was passed on to another server's process: what is matched of it, and whose its loans are.
use Rattle.std.proofs.Common.{◌≡◌, ◌≢◌, Bool, true, false, Option, Some, None, refl, sym, ap, ◌∙◌}
use Rattle.std.specs.Prelude.{if◌then◌else◌}
use Rattle.std.specs.Option.{option_map}
use Rattle.std.proofs.lemmas.Bool.{eq-eqb, false≢true}
use Rattle.std.proofs.lemmas.Option.{none-some, same_Some}
use Rattle.xk_base.specs.declared.ids.Number.{Number}
use Rattle.xk_base.specs.declared.ids.Place.{Place}
use Rattle.xk_base.specs.declared.ids.ThreadId.{ThreadId}
use Rattle.xk_base.specs.declared.messages.Message.{Message}
use Rattle.xk_base.specs.declared.pages.LoanKind.{LoanKind}
use Rattle.ledger_model.specs.Conditions.{CanPass}
use Rattle.ledger_model.specs.Ledger.{Ledger, Page, PageLoan, loan_at}
use Rattle.ledger_model.specs.Loans.{LoanRun, OrphanLoan, Stands, loan_of_orphan, loans, same_number, with_holder}
use Rattle.ledger_model.specs.Places.{moved}
use Rattle.ledger_model.specs.Steps.{pass, passed, passed_loan}
use Rattle.ledger_model.proofs.Loans.OfNumberLemmas.{stands_still}
use Rattle.ledger_model.proofs.Stepping.PassingLemmas.{pass_home, pass_lawful, pass_loan, pass_orphan, pass_other, pass_stands, passed_loan-number}
use Rattle.machine_model.specs.Messaging.Messages.{is_of_number}
use Rattle.machine_model.specs.Runs.Matched.{AreHeapsMatched, IsLedgerMatched, IsLendMatched, IsMessageLent, IsOnLoan, Matched, is_living, lend_run}
use Rattle.machine_model.specs.State.Machine.{Machine, Server}

module _ (m : Machine) (h : Matched m) (r : LoanRun) (to : Place) (can : CanPass m.processes m.ledger r to) (lives : is_living m to.pid ≡ true) where
  abbrev pub passed_ledger : Ledger
  passed_ledger = pass r.number r.holder to m.ledger

  old_home : (p : Place) (page : Page) → passed_ledger.home p ≡ Some page → (old : Page) × (m.ledger.home p ≡ Some old)
  old_home p page e = go (m.ledger.home p) refl (sym (pass_home r.number r.holder to m.ledger p) ∙ e)
    where
      go : (o : Option Page) → m.ledger.home p ≡ o → option_map (passed r.number r.holder to) o ≡ Some page → (old : Page) × (m.ledger.home p ≡ Some old)
      go None q f = absurd (none-some page f)
      go (Some old) q f = (old, q)

  -- each loan comes from one of the same number
  old_loan : (p : Place) (loan : PageLoan) → loan_at passed_ledger p ≡ Some loan
      → (old : PageLoan) × (loan_at m.ledger p ≡ Some old) × (passed_loan r.number r.holder to old ≡ loan)
  old_loan p loan e = go (loan_at m.ledger p) refl (sym (pass_loan r.number r.holder to m.ledger p) ∙ e)
    where
      go : (o : Option PageLoan) → loan_at m.ledger p ≡ o → option_map (passed_loan r.number r.holder to) o ≡ Some loan
          → (old : PageLoan) × (loan_at m.ledger p ≡ Some old) × (passed_loan r.number r.holder to old ≡ loan)
      go None q f = absurd (none-some loan f)
      go (Some old) q f = (old, q, same_Some (passed_loan r.number r.holder to old) loan f)

  holder_lives : (p : Place) (loan : PageLoan) → loan_at passed_ledger p ≡ Some loan → is_living m loan.holder.pid ≡ true
  holder_lives p loan e =
      let old = old_loan p loan e in
      sym (ap (λ (x : PageLoan). is_living m x.holder.pid) old.2) ∙ go old.0 (same_number old.0.number r.number) (h.body.ledger.holders_live p old.0 old.1)
    where
      go : (x : PageLoan) (b : Bool) → is_living m x.holder.pid ≡ true
          → is_living m (if b then record x { holder = moved r.holder to x.holder } else x).holder.pid ≡ true
      go x true f = lives
      go x false f = f

  pub ledger_passed : IsLedgerMatched m.processes m.capacity m.process passed_ledger
  ledger_passed = record {
    lawful = pass_lawful m.processes m.ledger r to can m.capacity h.body.ledger.lawful;
    homes_live = λ p page e. let old = old_home p page e in h.body.ledger.homes_live p old.0 old.1;
    holders_live = holder_lives;
    orphans_live = λ p orphan e. h.body.ledger.orphans_live p orphan (sym (pass_orphan r.number r.holder to m.ledger p) ∙ e);
  }

  pub heaps_passed : AreHeapsMatched m.process passed_ledger
  heaps_passed = record {
    whole = h.body.heaps.whole;
    within = h.body.heaps.within;
    below = λ p page e. let old = old_home p page e in h.body.heaps.below p old.0 old.1;
  }

  -- ---- the loans

  pub loan_before : (p : Place) (loan : PageLoan) → (loans passed_ledger).home p ≡ Some loan
      → (old : PageLoan) × ((loans m.ledger).home p ≡ Some old) × (old.number ≡ loan.number)
  unfolding loans
  loan_before p loan e =
      let old = old_loan p loan e in
      (old.0, old.1, sym (passed_loan-number r.number r.holder to old.0) ∙ ap (λ (x : PageLoan). x.number) old.2)

  pub orphan_before : (p : Place) (orphan : OrphanLoan) → (loans passed_ledger).orphan p ≡ Some orphan → (loans m.ledger).orphan p ≡ Some orphan
  unfolding loans
  orphan_before p orphan e = sym (ap (option_map loan_of_orphan) (pass_orphan r.number r.holder to m.ledger p)) ∙ e

  pub run_passed : Stands (loans passed_ledger) (with_holder to r)
  run_passed = pass_stands m.processes m.ledger r to can

  -- messages of other numbers are lent as they were
  pub lent_still : (server : Server) (y : Message) → is_of_number r.number y ≡ false → IsMessageLent (loans m.ledger) server y
      → IsMessageLent (loans passed_ledger) server y
  lent_still server y other f kind q =
      let was : IsLendMatched (loans m.ledger) server y kind = f kind q in
      record { count = was.count; loan = on_loan kind y.sender was.loan }
    where
      apart : y.number ≢ r.number
      apart same = false≢true (sym other ∙ eq-eqb y.number.0 r.number.0 (ap (λ (k : Number). k.0) same))

      on_loan : (kind : LoanKind) (o : Option ThreadId) → IsOnLoan (loans m.ledger) server y kind o → IsOnLoan (loans passed_ledger) server y kind o
      on_loan kind None s =
          stands_still (loans m.ledger) (loans passed_ledger) (lend_run server y kind None) (pass_other r.number y.number r.holder to m.ledger apart) s
      on_loan kind (Some who) s = (
        s.0,
        s.1,
        stands_still (loans m.ledger) (loans passed_ledger) (lend_run server y kind (Some s.0))
            (pass_other r.number y.number r.holder to m.ledger apart) s.2,
      )
