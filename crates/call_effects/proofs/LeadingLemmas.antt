-- Whatever relation of two machines each effect leads along, if it holds of a machine and itself and one after the other, each call
-- leads along. A test narrows this to the effects that pass it.
use Rattle.std.proofs.Common.{◌≡◌, ℕ, Bool, true, List, [], ◌∷◌, None, refl, subst, sym}
use Rattle.std.specs.List.{list_all}
use Rattle.std.proofs.lemmas.Bool.{and_parts}
use Rattle.machine_model.specs.State.Changes.{Change, Outcome}
use Rattle.machine_model.specs.State.Machine.{Machine}
use Rattle.machine_model.specs.Calling.Calls.{call}
use Rattle.call_effects.specs.Deciding.{decide}
use Rattle.call_effects.proofs.MeantLemmas.{calls_meant}
use Rattle.call_effects.specs.Effects.{Effect, apply, run}
use Rattle.call_effects.specs.Verdicts.{Does, RefusedIf, Refuses, RetriedIf, Verdict, all_effects, meant}
use Rattle.call_effects.proofs.ServedLemmas.{OfPlan, OfServed, done, of_plan}

-- the change leads along the relation, and delivers no interrupt
abbrev pub LeadsTo : (Machine → Machine → Type 0) → Machine → Change → Type 0
LeadsTo R m change = R m change.machine × (change.delivery ≡ None)

-- .. where the call is served
abbrev pub Leads : (Machine → Machine → Type 0) → Machine → Outcome → Type 0
Leads R m outcome = OfServed (LeadsTo R m) outcome

module _ (R : Machine → Machine → Type 0) (test : Effect → Bool) (same : (m : Machine) → R m m)
    (behind : (a b c : Machine) → R a b → R b c → R a c) (each : (effect : Effect) (m : Machine) → test effect ≡ true → R m (apply effect m)) where
  pub run_leads : (effects : List Effect) (m : Machine) → list_all test effects ≡ true → R m (run effects m)
  run_leads [] m passes = same m
  run_leads (effect ∷ effects) m passes =
      let each_passes = and_parts (test effect) (list_all test effects) passes in
      behind m (apply effect m) (run effects (apply effect m)) (each effect m each_passes.0)
      (run_leads effects (apply effect m) each_passes.1)

  plan_leads : (m : Machine) (verdict : Verdict) → all_effects test verdict ≡ true → OfPlan (λ plan. LeadsTo R m (done m plan)) verdict
  plan_leads m (Refuses error) passes = tt
  plan_leads m (Does plan) passes = (run_leads plan.effects m passes, refl)
  plan_leads m (RefusedIf refusals verdict) passes = λ none. plan_leads m verdict passes
  plan_leads m (RetriedIf retried verdict) passes = λ passed. plan_leads m verdict passes

  pub verdict_leads : (m : Machine) (verdict : Verdict) → all_effects test verdict ≡ true → Leads R m (meant m verdict)
  verdict_leads m verdict passes = of_plan (LeadsTo R m) m verdict (plan_leads m verdict passes)

-- ---- whatever the effects are

all_pass : (effects : List Effect) → list_all (λ effect. true) effects ≡ true
all_pass [] = refl
all_pass (effect ∷ effects) = all_pass effects

any_verdict : (verdict : Verdict) → all_effects (λ effect. true) verdict ≡ true
any_verdict (Refuses error) = refl
any_verdict (Does plan) = all_pass plan.effects
any_verdict (RefusedIf refusals verdict) = any_verdict verdict
any_verdict (RetriedIf retried verdict) = any_verdict verdict

-- a relation that every effect leads along every call leads along
pub call_leads : (R : Machine → Machine → Type 0) → ((m : Machine) → R m m) → ((a b c : Machine) → R a b → R b c → R a c)
    → ((effect : Effect) (m : Machine) → R m (apply effect m)) → (m : Machine) (w : List ℕ) → Leads R m (call m w)
call_leads R same behind each m w =
    subst (Leads R m) (sym (calls_meant m w))
    (verdict_leads R (λ effect. true) same behind (λ effect n passes. each effect n) m (decide m w) (any_verdict (decide m w)))
