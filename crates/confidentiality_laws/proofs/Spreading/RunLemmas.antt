-- At each moment of two runs side by side, what differs differed at the start.
use Rattle.std.specs.Prelude.{map}
use Rattle.std.proofs.Common.{ℕ, zero, suc, List, [], ◌∷◌, sym, ap, ◌∙◌, inl, inr, subst}
use Rattle.ledger_model.specs.Ledger.{Ledger}
use Rattle.machine_laws.proofs.Stepping.EveryStepLemmas.{every_run_keeps}
use Rattle.machine_model.specs.Runs.Matched.{Matched}
use Rattle.machine_model.specs.Runs.Moments.{Moment, IsRun, caused, state_at}
use Rattle.machine_model.specs.State.Machine.{Machine}
use Rattle.confidentiality_laws.specs.Differences.{DifferencesComeFromTheStart, OnlyMovesDifferences}
use Rattle.confidentiality_laws.specs.TwoRuns.{IsSideBySide}
use Rattle.confidentiality_laws.proofs.Isolating.RunLemmas.{acts, head, no_cause, rest_side}
use Rattle.confidentiality_laws.proofs.Spreading.CauseLemmas.{cause_moves}
use Rattle.confidentiality_laws.proofs.Spreading.MovedPageLemmas.{stay_moves}

-- ---- one after the other

module _ (a b middle other after last : Ledger) (first : OnlyMovesDifferences a b middle other)
    (then_ : OnlyMovesDifferences middle other after last) where
  moves_then : OnlyMovesDifferences a b after last
  moves_then page = elim (then_ page) [
    | inl same ↦ inl same
    | inr was ↦ elim (first was.0) [
      | inl same ↦ inl (was.1.here ∙ (same ∙ sym was.1.there))
      | inr old ↦ inr (old.0, record { here = was.1.here ∙ old.1.here; there = was.1.there ∙ old.1.there })
    ]
  ]

-- ---- runs

module _ (m n : Machine) (moment other : Moment) (moments others : List Moment)
    (side : IsSideBySide m n (moment ∷ moments) (other ∷ others))
    (h : Matched m) where
  first_moves : OnlyMovesDifferences m.ledger n.ledger moment.machine.ledger other.machine.ledger
  unfolding IsRun
  first_moves =
      subst (λ (x : Machine). OnlyMovesDifferences m.ledger n.ledger x.ledger other.machine.ledger) (sym side.run.0)
      (subst (λ (x : Machine). OnlyMovesDifferences m.ledger n.ledger (caused moment.cause m).ledger x.ledger)
      (ap (λ c. caused c n) (head m n moment other moments others side) ∙ sym side.other.0)
      (cause_moves moment.cause m n h side.but_bytes (acts m n moment other moments others side)))

moves : (m n : Machine) (moments others : List Moment) → IsSideBySide m n moments others → ((i : ℕ) → Matched (state_at m moments i))
    → (i : ℕ) → OnlyMovesDifferences m.ledger n.ledger (state_at m moments i).ledger (state_at n others i).ledger
unfolding state_at
moves m n moments others side matched zero = stay_moves m.ledger n.ledger
moves m n [] [] side matched (suc i) = stay_moves m.ledger n.ledger
moves m n [] (other ∷ others) side matched (suc i) = absurd (no_cause other.cause (map (λ x. x.cause) others) side.causes)
moves m n (moment ∷ moments) [] side matched (suc i) =
    absurd (no_cause moment.cause (map (λ x. x.cause) moments) (sym side.causes))
moves m n (moment ∷ moments) (other ∷ others) side matched (suc i) =
    moves_then m.ledger n.ledger moment.machine.ledger other.machine.ledger (state_at moment.machine moments i).ledger
    (state_at other.machine others i).ledger (first_moves m n moment other moments others side (matched 0))
    (moves moment.machine other.machine moments others (rest_side m n moment other moments others side) (λ k. matched (suc k)) i)

pub run_moves : DifferencesComeFromTheStart
run_moves m n moments others side h = moves m n moments others side (every_run_keeps m moments h side.run)
