-- The loan of a number in one state: it is out or it is in, and never both.
use Rattle.std.proofs.Common.{◌≡◌, ℕ, zero, suc, ◌<◌, ◌≤◌, ◌⊎◌, inl, inr, Bool, true, false, ◌+◌, Option, Some, None, refl, sym, ap, subst, ◌∙◌, arith}
use Rattle.std.proofs.lemmas.Bool.{cond-true, cond-false, false_from_ne_true}
use Rattle.std.proofs.lemmas.Option.{none-some}
use Rattle.std.specs.Option.{option_and_then}
use Rattle.std.specs.Prelude.{◌&&◌, is_none, if◌then◌else◌}
use Rattle.xk_base.specs.declared.ids.Number.{Number}
use Rattle.xk_base.specs.declared.ids.Place.{Place}
use Rattle.ledger_model.specs.Lawful.{IsOneRun}
use Rattle.ledger_model.specs.Loans.{IsFresh, LoanRun, OrphanLoan, lent_from, loan_of_run, loans, of_number, orphan_of_number, orphan_of_run}
use Rattle.ledger_model.specs.Places.{in_run, moved}
use Rattle.ledger_model.proofs.PlaceLemmas.{IsInRun, in_run-from, in_run-true}
use Rattle.machine_model.specs.Runs.LoanSpan.{IsIn, IsOut}
use Rattle.machine_model.specs.Runs.Matched.{Matched}
use Rattle.machine_model.specs.State.Machine.{Machine}

-- ---- a run of no place has no loan

no_place : (first p : Place) (n : ℕ) → n ≡ 0 → in_run first n p ≡ false
no_place first p n e = false_from_ne_true (in_run first n p) (λ t. let h : IsInRun first n p = in_run-true first n p t in
    let from : first.vpn.0 ≤ p.vpn.0 = h.from in let to : p.vpn.0 < first.vpn.0 + n = h.to in absurd (omega arith))

no_home : (r : LoanRun) (p : Place) → r.count ≡ 0 → loan_of_run r p ≡ None
no_home r p e = go r.lender
  where
    go : (o : Option Place) → option_and_then (λ from. lent_from r from p) o ≡ None
    go None = refl
    go (Some from) =
        cond-false (in_run from r.count p) (Some (record { holder = moved from r.holder p; kind = r.kind; number = r.number })) None
        (no_place from p r.count e)

abbrev orphan_loan_of : LoanRun → Option OrphanLoan
orphan_loan_of r = Some (record { kind = r.kind; number = r.number })

no_orphan : (r : LoanRun) (p : Place) → r.count ≡ 0 → orphan_of_run r p ≡ None
no_orphan r p e = go (is_none r.lender)
  where
    go : (b : Bool) → (if b && in_run r.holder r.count p then orphan_loan_of r else None) ≡ None
    go true = cond-false (in_run r.holder r.count p) (orphan_loan_of r) None (no_place r.holder p r.count e)
    go false = refl

-- ---- out or in

here : (number : Number) (m : Machine) → IsOneRun m.ledger number → IsIn number m ⊎ ((loan : LoanRun) × IsOut number m loan)
here number m (inl fresh) = inl fresh
here number m (inr (r, numbered, stands)) = go r.count refl
  where
    go : (n : ℕ) → r.count ≡ n → IsIn number m ⊎ ((loan : LoanRun) × IsOut number m loan)
    go zero e =
        inl (subst (λ k. IsFresh (loans m.ledger) k) numbered
        (record { homes = λ p. stands.homes p ∙ no_home r p e; orphans = λ p. stands.orphans p ∙ no_orphan r p e }))
    go (suc n) e = inr (r, record { numbered = numbered; some = omega arith; stands = stands })

pub out_or_in : (m : Machine) (number : Number) → Matched m → IsIn number m ⊎ ((loan : LoanRun) × IsOut number m loan)
out_or_in m number h = here number m (h.body.ledger.lawful.one_run number)

-- ---- not both

first_in : (first : Place) (n : ℕ) → 1 ≤ n → in_run first n first ≡ true
first_in first n l = in_run-from first n first (record { pid = refl; from = omega arith; to = omega arith })

pub not_both : (m : Machine) (number : Number) (loan : LoanRun) → IsIn number m → IsOut number m loan → ⊥
not_both m number loan fresh out = go loan.lender refl
  where
    go : (o : Option Place) → loan.lender ≡ o → ⊥
    go (Some home) e =
        let there : loan_of_run loan home ≡ Some (record { holder = moved home loan.holder home; kind = loan.kind; number = loan.number }) =
        ap (λ o. option_and_then (λ from. lent_from loan from home) o) e
        ∙ cond-true (in_run home loan.count home) (Some (record { holder = moved home loan.holder home; kind = loan.kind; number = loan.number })) None
        (first_in home loan.count out.some) in
        none-some _ (sym (subst (λ k. of_number k ((loans m.ledger).home home) ≡ None) (sym out.numbered) (fresh.homes home)) ∙ (out.stands.homes home ∙ there))
    go None e =
        let there : orphan_of_run loan loan.holder ≡ orphan_loan_of loan =
        ap (λ o. if is_none o && in_run loan.holder loan.count loan.holder then orphan_loan_of loan else None) e
        ∙ cond-true (in_run loan.holder loan.count loan.holder) (orphan_loan_of loan) None
        (first_in loan.holder loan.count out.some) in
        none-some _ (sym (subst (λ k. orphan_of_number k ((loans m.ledger).orphan loan.holder) ≡ None) (sym out.numbered) (fresh.orphans loan.holder))
        ∙ (out.stands.orphans loan.holder ∙ there))
