-- What comes of a call changes no byte and moves no page onto another: refused and retried it leaves the ledger, and served it does what its plan does.
use Rattle.std.proofs.Common.{◌≡◌, ℕ, Bool, true, false, List, [], ◌∷◌, None, refl, sym}
use Rattle.std.specs.Bool.{⊤}
use Rattle.std.proofs.lemmas.Option.{none-some}
use Rattle.xk_base.specs.declared.errors.XousError.{XousError}
use Rattle.ledger_model.specs.Ledger.{Ledger}
use Rattle.machine_model.specs.Runs.Matched.{Matched}
use Rattle.machine_model.specs.State.Changes.{Call, Outcome, Refused, Retried, Served, call_settled, first_refusal, settled}
use Rattle.machine_model.specs.State.Machine.{Machine}
use Rattle.machine_model.specs.State.Order.{turn}
use Rattle.call_effects.specs.Effects.{run}
use Rattle.call_effects.specs.Verdicts.{Plan, Row}
use Rattle.call_effects.proofs.ServedLemmas.{OfPlan}
use Rattle.confidentiality_laws.specs.EmptyPlaces.{MovesToEmptyPlaces}

abbrev pub ledger_after : Machine → Outcome → Ledger
ledger_after m (Refused error) = m.ledger
ledger_after m Retried = m.ledger
ledger_after m (Served change) = change.machine.ledger

abbrev pub KeepsBytes : Machine → Outcome → Type 0
KeepsBytes m outcome = MovesToEmptyPlaces m.ledger (ledger_after m outcome)

abbrev pub CallKeepsBytes : Call → Type 0
CallKeepsBytes served = (m : Machine) (w : List ℕ) → Matched m → KeepsBytes m (served m w)

pub settled_ledger : (m : Machine) (outcome : Outcome) → (call_settled m outcome).machine.ledger ≡ ledger_after m outcome
unfolding call_settled settled turn
settled_ledger m (Refused error) = refl
settled_ledger m Retried = refl
settled_ledger m (Served change) = refl

-- what the plan does changes no byte
abbrev pub PlanKeeps : Machine → Plan → Type 0
PlanKeeps m plan = MovesToEmptyPlaces m.ledger (run plan.effects m).ledger

-- .. where the call of this row is served
abbrev pub RowKeeps : Row → Type 0
RowKeeps row = (m : Machine) (w : List ℕ) → OfPlan (PlanKeeps m) (row m w)

-- none of the tests of a list holds
abbrev pub NoneHold : List (Bool × XousError) → Type 0
NoneHold [] = ⊤
NoneHold (r ∷ rs) = (r.0 ≡ false) × NoneHold rs

pub none_hold : (refusals : List (Bool × XousError)) → first_refusal refusals ≡ None → NoneHold refusals
none_hold [] e = tt
none_hold ((test, error) ∷ rest) e = go (λ none. none_hold rest none) test e
  where
    go : (first_refusal rest ≡ None → NoneHold rest) → (b : Bool) → first_refusal ((b, error) ∷ rest) ≡ None
        → NoneHold ((b, error) ∷ rest)
    go later true f = absurd (none-some error (sym f))
    go later false f = (refl, later f)
