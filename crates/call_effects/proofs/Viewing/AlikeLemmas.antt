-- One law for two machines: if a relation of machines is kept by each effect and leaves what calls depend on, then what comes of a call in
-- two related machines is alike: the same error, a retry in both, or the same answers and related machines.
use Rattle.std.proofs.Common.{◌≡◌, ℕ, Bool, true, false, List, [], ◌∷◌, Option, Some, None, refl, sym, ap, ◌∙◌, subst}
use Rattle.xk_base.specs.declared.errors.XousError.{XousError}
use Rattle.xk_base.specs.declared.ids.Pid.{Pid}
use Rattle.machine_model.specs.Calling.Calls.{call}
use Rattle.machine_model.specs.State.Changes.{Outcome, Refused, Retried, Served, first_refusal, refused_or, unless_retried}
use Rattle.machine_model.specs.State.Machine.{Machine}
use Rattle.machine_model.specs.State.Threads.{Answers}
use Rattle.call_effects.specs.Deciding.{decide}
use Rattle.call_effects.specs.Effects.{Effect, apply, run}
use Rattle.call_effects.specs.Verdicts.{Does, RefusedIf, Refuses, RetriedIf, Verdict, meant}
use Rattle.call_effects.proofs.MeantLemmas.{calls_meant}
use Rattle.call_effects.specs.CallViews.{call_view}
use Rattle.call_effects.proofs.Viewing.VerdictLemmas.{decide_same_view}

pub data OutcomesAlike (R : Machine → Machine → Type 0) : Outcome → Outcome → Type 0 where
  BothRefused : (error : XousError) → OutcomesAlike R (Refused error) (Refused error)
  BothRetried : OutcomesAlike R Retried Retried
  BothServed : (m n : Machine) (answers : Answers) (gone : Option Pid) → R m n
      → OutcomesAlike R (Served (record { machine = m; answers = answers; delivery = None; gone = gone }))
      (Served (record { machine = n; answers = answers; delivery = None; gone = gone }))

module _ (R : Machine → Machine → Type 0) (each : (effect : Effect) (m n : Machine) → R m n → R (apply effect m) (apply effect n))
    (seen : (m n : Machine) → R m n → call_view m ≡ call_view n) where
  run_alike : (effects : List Effect) (m n : Machine) → R m n → R (run effects m) (run effects n)
  run_alike [] m n r = r
  run_alike (effect ∷ effects) m n r = run_alike effects (apply effect m) (apply effect n) (each effect m n r)

  refused_alike : (o : Option XousError) (x y : Outcome) → OutcomesAlike R x y → OutcomesAlike R (refused_or o x) (refused_or o y)
  refused_alike None x y a = a
  refused_alike (Some error) x y a = BothRefused error

  retried_alike : (b : Bool) (x y : Outcome) → OutcomesAlike R x y → OutcomesAlike R (unless_retried b x) (unless_retried b y)
  retried_alike true x y a = BothRetried
  retried_alike false x y a = a

  meant_alike : (verdict : Verdict) (m n : Machine) → R m n → OutcomesAlike R (meant m verdict) (meant n verdict)
  meant_alike (Refuses error) m n r = BothRefused error
  meant_alike (Does plan) m n r = BothServed (run plan.effects m) (run plan.effects n) plan.answers plan.gone (run_alike plan.effects m n r)
  meant_alike (RefusedIf refusals verdict) m n r =
      refused_alike (first_refusal refusals) (meant m verdict) (meant n verdict) (meant_alike verdict m n r)
  meant_alike (RetriedIf b verdict) m n r = retried_alike b (meant m verdict) (meant n verdict) (meant_alike verdict m n r)

  pub call_alike : (m n : Machine) (w : List ℕ) → R m n → OutcomesAlike R (call m w) (call n w)
  call_alike m n w r =
      subst (λ x. OutcomesAlike R x (call n w)) (sym (calls_meant m w ∙ ap (meant m) (decide_same_view m n w (seen m n r))))
      (subst (OutcomesAlike R (meant m (decide n w))) (sym (calls_meant n w)) (meant_alike (decide n w) m n r))

-- ---- maps of machines

-- what comes of a call, with the machine that it leaves mapped
abbrev pub outcome_mapped : (Machine → Machine) → Outcome → Outcome
outcome_mapped f (Refused error) = Refused error
outcome_mapped f Retried = Retried
outcome_mapped f (Served change) = Served (record change { machine = f change.machine })

-- one is the other mapped
pub mapped_to : (f : Machine → Machine) (x y : Outcome) → OutcomesAlike (λ m n. f m ≡ n) x y → outcome_mapped f x ≡ y
mapped_to f _ _ (BothRefused error) = refl
mapped_to f _ _ BothRetried = refl
mapped_to f _ _ (BothServed m n answers gone r) = ap (λ z. Served (record { machine = z; answers = answers; delivery = None; gone = gone })) r

-- both are mapped to one
pub mapped_alike : (f : Machine → Machine) (x y : Outcome) → OutcomesAlike (λ m n. f m ≡ f n) x y → outcome_mapped f x ≡ outcome_mapped f y
mapped_alike f _ _ (BothRefused error) = refl
mapped_alike f _ _ BothRetried = refl
mapped_alike f _ _ (BothServed m n answers gone r) = ap (λ z. Served (record { machine = z; answers = answers; delivery = None; gone = gone })) r

-- a map that each effect carries, and that leaves what calls depend on, is carried by each call
module _ (f : Machine → Machine) (each : (effect : Effect) (m : Machine) → f (apply effect m) ≡ apply effect (f m))
    (seen : (m : Machine) → call_view m ≡ call_view (f m)) where
  pub call_mapped : (m : Machine) (w : List ℕ) → outcome_mapped f (call m w) ≡ call (f m) w
  call_mapped m w =
      mapped_to f (call m w) (call (f m) w)
      (call_alike (λ x y. f x ≡ y) (λ effect x y r. each effect x ∙ ap (apply effect) r) (λ x y r. seen x ∙ ap call_view r) m (f m) w refl)
