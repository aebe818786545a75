-- Whatever comes next is told alike, and leads to states whose outside is the same.
use Rattle.std.proofs.Common.{◌≡◌, Bool, true, false, [], Option, Some, None, refl, sym, ap, ◌∙◌}
use Rattle.xk_base.specs.declared.ids.ThreadId.{ThreadId}
use Rattle.machine_model.specs.Runs.Moments.{ByIrq, ByKill, ByPick, ByStep, ByTurn, Cause}
use Rattle.machine_model.specs.State.Machine.{Machine}
use Rattle.machine_model.specs.State.Order.{actor}
use Rattle.machine_model.specs.Stepping.Step.{step, step_by}
use Rattle.machine_model.proofs.StepLemmas.{no_step}
use Rattle.confidentiality_laws.proofs.Isolating.RunLemmas.{by_cause}
use Rattle.confidentiality_laws.proofs.Isolating.StepLemmas.{step_of}
use Rattle.noninterference_laws.specs.Acting.{ActsAlike}
use Rattle.noninterference_laws.specs.Inside.{Group, SameButInside}
use Rattle.noninterference_laws.proofs.Stepping.ShadeLemmas.{actor_shade, irq_shade, kill_shade, picked_shade, recorded_shade, shade}
use Rattle.noninterference_laws.proofs.Stepping.ShadeLemmas.{shaded, turn_shade}
use Rattle.noninterference_laws.proofs.Stepping.StepLemmas.{other_step, own_step}

module _ (group : Group) (m n : Machine) (same : SameButInside group m n) where
  e : shade group m ≡ shade group n
  e = shaded group m n same.outside

  stepped : ActsAlike group ByStep m n → (who : ThreadId) → actor m ≡ Some who → (b : Bool) → group who.pid.0 ≡ b
      → recorded_shade group (step_by who m) ≡ recorded_shade group (step_by who n)
  stepped acts who turn_of true own = own_step group who m n e own (acts who turn_of own).act
  stepped acts who turn_of false other = other_step group who m n e other same

  any_step : ActsAlike group ByStep m n → recorded_shade group (step m) ≡ recorded_shade group (step n)
  any_step acts = go (actor m) refl
    where
      go : (o : Option ThreadId) → actor m ≡ o → recorded_shade group (step m) ≡ recorded_shade group (step n)
      go None q =
          ap (recorded_shade group) (no_step m q)
          ∙ ((λ i. record { machine = e i; records = [] })
          ∙ ap (recorded_shade group) (sym (no_step n (sym (actor_shade group m n e) ∙ q))))
      go (Some who) q =
          ap (recorded_shade group) (step_of m who q)
          ∙ (stepped acts who q (group who.pid.0) refl
          ∙ ap (recorded_shade group) (sym (step_of n who (sym (actor_shade group m n e) ∙ q))))

  pub cause_shade : (cause : Cause) → ActsAlike group cause m n
      → recorded_shade group (by_cause cause m) ≡ recorded_shade group (by_cause cause n)
  cause_shade ByStep acts = any_step acts
  cause_shade (ByPick who) acts = picked_shade group who m n e
  cause_shade (ByIrq k) acts = irq_shade group k m n e
  cause_shade (ByKill pid) acts = kill_shade group pid m n e
  cause_shade ByTurn acts = λ i. record { machine = turn_shade group m n e i; records = [] }
