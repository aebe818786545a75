-- What the step of a thread does before the timer, and that the timer raises its interrupt in it if that is due.
use Rattle.std.proofs.Common.{◌≡◌, ℕ, ◌+◌, true, Option, Some, None, refl, ap, ◌∙◌}
use Rattle.std.specs.Prelude.{◌&&◌, is_some}
use Rattle.std.specs.Option.{option_map_or}
use Rattle.std.proofs.lemmas.Bool.{eqb-true, false≢true}
use Rattle.xk_base.specs.declared.ids.ThreadId.{ThreadId}
use Rattle.machine_model.specs.Runs.Moments.{ByStep}
use Rattle.machine_model.specs.State.Changes.{Told}
use Rattle.machine_model.specs.State.Machine.{Machine, Thread}
use Rattle.machine_model.specs.State.Order.{actor}
use Rattle.machine_model.specs.Stepping.Step.{acted, acted_if_there, counted}
use Rattle.machine_model.specs.Stepping.Timer.{is_due}
use Rattle.machine_laws.proofs.Threading.ThreadStepLemmas.{turned_to}
use Rattle.interrupt_laws.specs.Delivering.{timer_raises}
use Rattle.interrupt_laws.specs.Raising.{IsRaise, other_effects, other_effects_of}

due_value : (o : Option ℕ) (n : ℕ) → is_due o n ≡ true → o ≡ Some n
due_value None n e = absurd (false≢true e)
due_value (Some c) n e = ap Some (eqb-true c n e)

-- what the step of the thread does before the timer
abbrev pub before_timer : Machine → ThreadId → Thread → Told
before_timer m who t = counted (turned_to who m) (Some t) (acted (turned_to who m) t)

module _ (m : Machine) (who : ThreadId) (t : Thread) (acts : actor m ≡ Some who) (there : m.threads who ≡ Some t) where
  abbrev done : Machine
  done = (before_timer m who t).machine

  pub effects_are : other_effects m ≡ done
  unfolding other_effects
  effects_are =
      ap (λ o. option_map_or (other_effects_of m) o m) acts
      ∙ ap (λ o. (counted (turned_to who m) o (acted_if_there (turned_to who m) o)).machine) there

  pub raises_if_due : timer_raises m ≡ is_due done.compare done.steps
  raises_if_due =
      ap (λ o. is_some o && is_due (other_effects m).compare (other_effects m).steps) acts
      ∙ ap (λ (x : Machine). is_due x.compare x.steps) effects_are

  pub raise_of : is_due done.compare done.steps ≡ true → IsRaise m ByStep
  raise_of e = record {
    step = refl;
    acts = ap is_some acts;
    due = ap (λ (x : Machine). x.compare) effects_are ∙ due_value done.compare (m.steps + 1) e;
  }
