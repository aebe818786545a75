-- The fate of a number where the loans of a set end: outside the set it is left, and a loan of the set closes and is given back.
use Rattle.std.proofs.Common.{◌≡◌, ℕ, ◌<◌, ◌≤◌, ◌⊎◌, inl, inr, Bool, true, false, Some, None, refl, sym, ap, ◌∙◌, subst}
use Rattle.std.specs.Prelude.{if◌then◌else◌}
use Rattle.std.specs.Option.{option_map}
use Rattle.xk_base.specs.declared.ids.Number.{Number}
use Rattle.xk_base.specs.declared.ids.Place.{Place}
use Rattle.ledger_model.specs.Ledger.{Ledger, Page, PageLoan, loan_of}
use Rattle.ledger_model.specs.Loans.{IsFresh, LoanRun, Stands, loans}
use Rattle.ledger_model.specs.Places.{place_after}
use Rattle.ledger_model.proofs.OwnerLemmas.{stands_home_at}
use Rattle.machine_model.specs.Messaging.LoanSets.{end_loans, freed_but, loan_but}
use Rattle.machine_model.specs.Runs.LoanSpan.{Closes, IsIn, IsOut, unlent}
use Rattle.machine_model.specs.Runs.Matched.{Matched}
use Rattle.machine_model.specs.Runs.Moments.{Moment}
use Rattle.machine_model.specs.State.Machine.{Machine}
use Rattle.machine_model.proofs.Ending.CloseManyLemmas.{ended_is_fresh}
use Rattle.machine_model.proofs.Runs.SpanLemmas.{out_or_in}
use Rattle.loan_laws.specs.Fates.{Fate, IsGivenBack}
use Rattle.loan_laws.specs.Leaving.{Leaves}
use Rattle.loan_laws.proofs.Fates.FateLemmas.{fate_ends, fate_in, fate_left}
use Rattle.loan_laws.proofs.Leaving.LedgerStepLemmas.{ends_leave}

-- a page of a loan that ends has no loan, with its right and its bytes
pub ended_home_page : (set : Number → Bool) (l : Ledger) (a : LoanRun) (home : Place) (k : ℕ) (page : Page) → Stands (loans l) a
    → set a.number ≡ true → a.lender ≡ Some home → k < a.count → l.home (place_after home k) ≡ Some page
    → (end_loans set l).home (place_after home k) ≡ Some (unlent page)
unfolding end_loans
ended_home_page set l a home k page stands e lender low there =
    ap (option_map (freed_but set)) there
    ∙ ap (λ o. Some (record page { loan = loan_but set o })) (sym (ap loan_of there) ∙ stands_home_at l a home k stands lender low)
    ∙ ap (λ b. Some (record page { loan = if b then None else Some loan })) e
  where
    loan : PageLoan
    loan = record { holder = place_after a.holder k; kind = a.kind; number = a.number }

module _ (number : Number) (m : Machine) (moment : Moment) (h : Matched m) (set : Number → Bool)
    (ended : moment.machine.ledger ≡ end_loans set m.ledger) (climbs : m.next_number ≤ moment.machine.next_number) where
  given_back : set number ≡ true → (a : LoanRun) → IsOut number m a → IsGivenBack m moment a
  given_back e a out home k page lender lives low there =
      ap (λ (l : Ledger). l.home (place_after home k)) ended
      ∙ ended_home_page set m.ledger a home k page out.stands (ap set out.numbered ∙ e) lender low there

  fresh_after : set number ≡ true → IsIn number moment.machine
  fresh_after e = subst (λ l. IsFresh (loans l) number) (sym ended) (ended_is_fresh set number m.ledger e)

  pub ended_fate : (set number ≡ true → (a : LoanRun) → IsOut number m a → Closes number a m moment) → Fate number m moment
  ended_fate closes = go (set number) refl
    where
      of_set : set number ≡ true → IsIn number m ⊎ ((loan : LoanRun) × IsOut number m loan) → Fate number m moment
      of_set e (inl fresh) = fate_in number m moment fresh (fresh_after e) climbs
      of_set e (inr (a, out)) = fate_ends number m moment a out (fresh_after e) (closes e a out) (given_back e a out) climbs

      go : (b : Bool) → set number ≡ b → Fate number m moment
      go true e = of_set e (out_or_in m number h)
      go false e = fate_left number m moment h (subst (λ l. Leaves number m.ledger l) (sym ended) (ends_leave number set e m.ledger)) climbs
