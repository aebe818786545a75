-- Changes and outcomes with other bytes: what is told of them is the same, and so is what a call is refused for.
use Rattle.machine_model.specs.Runs.Isolation.{without_bytes}
use Rattle.call_effects.proofs.Viewing.AlikeLemmas.{outcome_mapped}
use Rattle.confidentiality_laws.proofs.Ledgers.OtherBytesLemmas.{machine_through, no_bytes}
use Rattle.std.proofs.Common.{◌≡◌, ℕ, List, refl}
use Rattle.ledger_model.specs.Ledger.{Ledger}
use Rattle.machine_model.specs.State.Changes.{Call, Change, Outcome, Refused, Retried, Served, Told, call_settled, settled}
use Rattle.machine_model.specs.State.Machine.{Machine}
use Rattle.machine_model.specs.State.Order.{turn, next_ready}

-- ---- with other bytes

abbrev pub change_through : (List ℕ → List ℕ) → Change → Change
change_through g change = record change { machine = machine_through g change.machine }

abbrev pub outcome_through : (List ℕ → List ℕ) → Outcome → Outcome
outcome_through g outcome = outcome_mapped (machine_through g) outcome

abbrev pub told_through : (List ℕ → List ℕ) → Told → Told
told_through g told = record told { machine = machine_through g told.machine }

-- the change with another ledger
abbrev pub with_left : Change → Ledger → Change
with_left change ledger = record change { machine = record change.machine { ledger = ledger } }

-- What comes of the call where pages hold other bytes is what comes of it, with other bytes in the same pages.
abbrev pub Carries : (List ℕ → List ℕ) → Call → Type 0
Carries g served = (m : Machine) (w : List ℕ) → outcome_through g (served m w) ≡ served (machine_through g m) w

-- What comes of the call is the same but for bytes from machines that are the same but for bytes.
abbrev pub IsBlind : Call → Type 0
IsBlind served =
    (m n : Machine) (w : List ℕ) → without_bytes m ≡ without_bytes n
    → outcome_through no_bytes (served m w) ≡ outcome_through no_bytes (served n w)

module _ (g : List ℕ → List ℕ) where
  -- ---- settled

  pub settled_through : (change : Change) → told_through g (settled change) ≡ settled (change_through g change)
  unfolding settled
  settled_through change = refl

  pub call_settled_through : (m : Machine) (outcome : Outcome)
      → told_through g (call_settled m outcome) ≡ call_settled (machine_through g m) (outcome_through g outcome)
  unfolding call_settled settled turn next_ready
  call_settled_through m (Refused error) = refl
  call_settled_through m Retried = refl
  call_settled_through m (Served change) = refl
