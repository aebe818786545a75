-- What is to be shown of each served call: of the plan of its verdict, where none of the tests before it holds.
use Rattle.std.proofs.Common.{◌≡◌, Bool, true, false, List, Option, Some, None, refl}
use Rattle.std.specs.Bool.{⊤}
use Rattle.xk_base.specs.declared.errors.XousError.{XousError}
use Rattle.machine_model.specs.State.Changes.{Change, Outcome, Refused, Retried, Served, first_refusal, refused_or, unless_refused, unless_retried}
use Rattle.machine_model.specs.State.Machine.{Machine}
use Rattle.call_effects.specs.Effects.{run}
use Rattle.call_effects.specs.Verdicts.{Does, Plan, RefusedIf, Refuses, RetriedIf, Verdict, meant}

-- this of the change, where the call is served
abbrev pub OfServed : (Change → Type 0) → Outcome → Type 0
OfServed P (Refused error) = ⊤
OfServed P Retried = ⊤
OfServed P (Served change) = P change

-- this of the plan, where none of the tests before it holds
abbrev pub OfPlan : (Plan → Type 0) → Verdict → Type 0
OfPlan P (Refuses error) = ⊤
OfPlan P (Does plan) = P plan
OfPlan P (RefusedIf refusals verdict) = first_refusal refusals ≡ None → OfPlan P verdict
OfPlan P (RetriedIf retried verdict) = retried ≡ false → OfPlan P verdict

-- what a plan makes of a machine
abbrev pub done : Machine → Plan → Change
done m plan = record { machine = run plan.effects m; answers = plan.answers; delivery = None; gone = plan.gone }

module _ (P : Change → Type 0) where
  unless_refused_served : (refusals : List (Bool × XousError)) (outcome : Outcome) → (first_refusal refusals ≡ None → OfServed P outcome)
      → OfServed P (unless_refused refusals outcome)
  unless_refused_served refusals outcome of = go (first_refusal refusals) refl
    where
      go : (o : Option XousError) → first_refusal refusals ≡ o → OfServed P (refused_or o outcome)
      go None e = of e
      go (Some error) e = tt

  unless_retried_served : (retried : Bool) (outcome : Outcome) → (retried ≡ false → OfServed P outcome)
      → OfServed P (unless_retried retried outcome)
  unless_retried_served true outcome of = tt
  unless_retried_served false outcome of = of refl

  -- what is shown of the plan holds of what the verdict means
  pub of_plan : (m : Machine) (verdict : Verdict) → OfPlan (λ plan. P (done m plan)) verdict → OfServed P (meant m verdict)
  of_plan m (Refuses error) of = tt
  of_plan m (Does plan) of = of
  of_plan m (RefusedIf refusals verdict) of = unless_refused_served refusals (meant m verdict) (λ none. of_plan m verdict (of none))
  of_plan m (RetriedIf retried verdict) of = unless_retried_served retried (meant m verdict) (λ passed. of_plan m verdict (of passed))

-- what is shown of a plan gives what follows from it
pub of_both : (P Q : Plan → Type 0) → ((plan : Plan) → P plan → Q plan) → (verdict : Verdict) → OfPlan P verdict → OfPlan Q verdict
of_both P Q then_ (Refuses error) of = tt
of_both P Q then_ (Does plan) of = then_ plan of
of_both P Q then_ (RefusedIf refusals verdict) of = λ none. of_both P Q then_ verdict (of none)
of_both P Q then_ (RetriedIf retried verdict) of = λ passed. of_both P Q then_ verdict (of passed)
