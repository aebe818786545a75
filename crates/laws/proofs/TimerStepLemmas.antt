-- Every step ends in the timer's raise, or is its other effects.
use Rattle.std.proofs.Common.{◌≡◌, ◌⊎◌, None, inl, inr}
use Rattle.machine_model.specs.Runs.Moments.{ByStep, caused}
use Rattle.interrupt_laws.specs.Raising.{IsRaise}
use Rattle.interrupt_laws.proofs.Runs.MomentLemmas.{effects_of}
use Rattle.interrupt_laws.proofs.Runs.RaiseLemmas.{decides, else_nothing, raise_is_event}
use Rattle.laws.specs.TimerSteps.{EndsInRaise, EndsWithout, TimerComesLast}

pub timer_comes_last : TimerComesLast
timer_comes_last m = go (decides ByStep m).decided
  where
    go : (IsRaise m ByStep × ((caused ByStep m).compare ≡ None)) ⊎ (¬ IsRaise m ByStep × (caused ByStep m ≡ effects_of ByStep m))
        → EndsInRaise m ⊎ EndsWithout m
    go (inl r) = inl (record { raise = r.0; event = raise_is_event m r.0 })
    go (inr r) = inr (record { none = r.0; same = else_nothing m r.0 })
