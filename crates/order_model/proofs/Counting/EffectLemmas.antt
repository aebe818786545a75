-- Every effect of a call does the same with another count of steps and the timer not armed, and leaves both. So does every call.
use Rattle.std.proofs.Common.{◌≡◌, ℕ, true, false, List, None, refl}
use Rattle.machine_model.specs.Calling.Calls.{call}
use Rattle.machine_model.specs.Ending.Closing.{any_server, closed, senders_held_gone, senders_queued_gone}
use Rattle.machine_model.specs.Ending.Ends.{forgotten}
use Rattle.machine_model.specs.State.Changes.{Change, Outcome, Refused, Retried, Served, Told, call_settled, settled}
use Rattle.machine_model.specs.State.Machine.{Machine}
use Rattle.machine_model.specs.State.Order.{next_ready, turn}
use Rattle.call_effects.specs.Effects.{Effect, Pages, HasHeap, Starts, Waits, Awaits, EndsTurn, Founds, Connects, TakesNumber, Serves, ClosesServers, Unqueues, Orphans, Forgets, Claims, Frees, apply}
use Rattle.call_effects.proofs.Viewing.AlikeLemmas.{call_mapped, outcome_mapped}

-- the state with this count of steps, and the timer not armed
abbrev pub unarmed_with : ℕ → Machine → Machine
unarmed_with n m = record m { steps = n; compare = None }

module _ (n : ℕ) where
  abbrev pub change_with : Change → Change
  change_with change = record change { machine = unarmed_with n change.machine }

  abbrev pub outcome_with : Outcome → Outcome
  outcome_with outcome = outcome_mapped (unarmed_with n) outcome

  abbrev pub told_with : Told → Told
  told_with told = record told { machine = unarmed_with n told.machine }

  effect_with : (effect : Effect) (m : Machine) → unarmed_with n (apply effect m) ≡ apply effect (unarmed_with n m)
  unfolding turn next_ready closed any_server senders_queued_gone senders_held_gone forgotten
  effect_with (Pages step) m = refl
  effect_with (HasHeap size) m = refl
  effect_with (Starts who thread) m = refl
  effect_with (Waits who state) m = refl
  effect_with (Awaits true number) m = refl
  effect_with (Awaits false number) m = refl
  effect_with EndsTurn m = refl
  effect_with (Founds server) m = refl
  effect_with (Connects serial) m = refl
  effect_with TakesNumber m = refl
  effect_with (Serves serial step) m = refl
  effect_with (ClosesServers which) m = refl
  effect_with (Unqueues pid) m = refl
  effect_with (Orphans pid) m = refl
  effect_with (Forgets pid) m = refl
  effect_with (Claims k claim) m = refl
  effect_with (Frees k) m = refl

  pub call_with : (m : Machine) (w : List ℕ) → outcome_with (call m w) ≡ call (unarmed_with n m) w
  call_with = call_mapped (unarmed_with n) effect_with (λ m. refl)

  -- ---- settled

  pub settled_with : (change : Change) → told_with (settled change) ≡ settled (change_with change)
  unfolding settled
  settled_with change = refl

  pub call_settled_with : (m : Machine) (outcome : Outcome) → told_with (call_settled m outcome) ≡ call_settled (unarmed_with n m) (outcome_with outcome)
  unfolding call_settled settled turn next_ready
  call_settled_with m (Refused error) = refl
  call_settled_with m Retried = refl
  call_settled_with m (Served change) = refl
