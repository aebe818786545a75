-- Every call carries bytes as they are, where zeros stay zeros: the verdict on it is the same, and its effects do. So every call is
-- blind: what comes of it is the same but for bytes from machines that are the same but for bytes.
use Rattle.std.proofs.Common.{◌≡◌, ℕ, List, refl, ap, ◌∙◌, sym}
use Rattle.ledger_model.specs.Steps.{zero_page}
use Rattle.machine_model.specs.Calling.Calls.{call}
use Rattle.machine_model.specs.State.Changes.{Outcome, Refused, Retried, Served}
use Rattle.machine_model.specs.State.Machine.{Machine}
use Rattle.call_effects.specs.CallViews.{call_view}
use Rattle.call_effects.proofs.Viewing.AlikeLemmas.{call_mapped}
use Rattle.confidentiality_laws.proofs.Carrying.ChangeLemmas.{Carries, IsBlind, outcome_through, with_left}
use Rattle.confidentiality_laws.proofs.Carrying.EffectLemmas.{effect_through}
use Rattle.confidentiality_laws.proofs.Ledgers.OtherBytesLemmas.{bare_through, machine_through, no_bytes, through_twice}
use Rattle.confidentiality_laws.proofs.Ledgers.PairLemmas.{both, first, first_zero_page, both_first, second, second_zero_page, both_second}

-- other bytes leave what calls depend on
view_through : (g : List ℕ → List ℕ) (m : Machine) → call_view m ≡ call_view (machine_through g m)
view_through g m = ap (λ l. record (call_view m) { ledger = l }) (sym (bare_through g m.ledger))

pub call_carries : (g : List ℕ → List ℕ) → g zero_page ≡ zero_page → Carries g call
call_carries g zeros = call_mapped (machine_through g) (effect_through g zeros) (view_through g)

-- ---- blind

outcome_twice : (g : List ℕ → List ℕ) (outcome : Outcome)
    → outcome_through no_bytes (outcome_through g outcome) ≡ outcome_through no_bytes outcome
outcome_twice g (Refused error) = refl
outcome_twice g Retried = refl
outcome_twice g (Served change) = ap (λ l. Served (with_left change l)) (through_twice g change.machine.ledger)

pub call_blind : IsBlind call
call_blind m n w e =
    by_part m first first_zero_page (both_first m n e) ∙ sym (by_part n second second_zero_page (both_second m n e))
  where
    -- what comes of the call from one of both, but for bytes, is what comes of it from both
    by_part : (x : Machine) (g : List ℕ → List ℕ) → g zero_page ≡ zero_page → machine_through g (both m n e) ≡ x
        → outcome_through no_bytes (call x w) ≡ outcome_through no_bytes (call (both m n e) w)
    by_part x g zeros is =
        ap (λ y. outcome_through no_bytes (call y w)) (sym is)
        ∙ (ap (outcome_through no_bytes) (sym (call_carries g zeros (both m n e) w)) ∙ outcome_twice g (call (both m n e) w))
