-- Every call leaves the compare value and the claim on the timer's interrupt, but ClaimInterrupt, which claims one that nobody has,
-- and FreeInterrupt and TerminateProcess.
use Rattle.std.proofs.Common.{ℕ, Bool, List, ap, ◌∙◌}
use Rattle.std.specs.Prelude.{◌||◌}
use Rattle.std.proofs.lemmas.Bool.{or_parts}
use Rattle.xk_base.specs.declared.limits.TheConstants.{TIMER_INTERRUPT}
use Rattle.syscall_codec.specs.CallWords.{call_number}
use Rattle.machine_model.specs.Calling.Calls.{call}
use Rattle.machine_model.specs.State.Changes.{Change, Outcome, Refused, Retried, Served}
use Rattle.machine_model.specs.State.Machine.{Machine}
use Rattle.call_effects.specs.Footprints.{ClaimsPart, ComparePart, Part, footprint, names}
use Rattle.call_effects.proofs.PartLemmas.{OfChanging, of_parts}
use Rattle.machine_model.proofs.Calling.TableLemmas.{◌also◌}
use Rattle.call_effects.proofs.ServedLemmas.{OfServed}
use Rattle.interrupt_laws.proofs.Fates.ClaimFateLemmas.{FateOf, Kept, OutcomeFate, as_before, claim_fate, free_fate, terminate_fate}

-- the law is about claims, and about the compare value
abbrev touches_timer : List Part → Bool
touches_timer parts = names parts ClaimsPart || names parts ComparePart

module _ (m : Machine) (w : List ℕ) where
  abbrev ChangeFate : Change → Type 0
  ChangeFate change = FateOf m change.machine

  -- the calls that can change them
  each : OfChanging touches_timer ChangeFate m w
  each =
      (λ e. claim_fate m w)
      also (λ e. free_fate m w)
      also (λ e. terminate_fate m w)
      also tt

  served_fate : OfServed ChangeFate (call m w)
  served_fate =
      of_parts touches_timer ChangeFate m w each
      (λ change rest untouched.
      let parts = or_parts (names (footprint (call_number w)) ClaimsPart) (names (footprint (call_number w)) ComparePart) untouched in
      Kept (rest.compare parts.1) (λ c claimed. ap (λ all. all TIMER_INTERRUPT) (rest.claims parts.0) ∙ claimed))

  pub call_fate : OutcomeFate m (call m w)
  call_fate = go (call m w) served_fate
    where
      go : (outcome : Outcome) → OfServed ChangeFate outcome → OutcomeFate m outcome
      go (Refused error) of = as_before m
      go Retried of = as_before m
      go (Served change) of = of
