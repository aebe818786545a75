-- Two runs in which a group acts alike tell the same, and are the same but for its inside at each moment.
use Rattle.std.proofs.Common.{◌≡◌, zero, suc, ℕ, List, [], ◌∷◌, ◌++◌, map, refl, sym, ap, ◌∙◌, subst}
use Rattle.machine_model.specs.Runs.Matched.{Matched}
use Rattle.machine_model.specs.Runs.Moments.{Cause, IsRun, Moment, caused, state_at}
use Rattle.machine_model.specs.State.Machine.{Machine}
use Rattle.machine_laws.proofs.Stepping.EveryStepLemmas.{every_cause_keeps}
use Rattle.machine_laws.specs.Records.{records_by, records_of}
use Rattle.confidentiality_laws.proofs.Isolating.RunLemmas.{no_cause}
use Rattle.noninterference_laws.specs.Acting.{ActsAlike}
use Rattle.noninterference_laws.specs.Inside.{Group, SameButInside}
use Rattle.noninterference_laws.specs.TwoInsides.{RunsActAlike, RunsKeepInside, StaysInside}
use Rattle.noninterference_laws.proofs.Seeing.UnseenLemmas.{inside_unseen}

same_head : (a b : Cause) (rest others : List Cause) → a ∷ rest ≡ b ∷ others → a ≡ b
same_head a b rest others e = cc

same_tail : (a b : Cause) (rest others : List Cause) → a ∷ rest ≡ b ∷ others → rest ≡ others
same_tail a b rest others e = cc

module _ (group : Group) (m n : Machine) (moment other : Moment) (moments others : List Moment) (h : Matched m)
    (side : RunsActAlike group m n (moment ∷ moments) (other ∷ others)) where
  head : moment.cause ≡ other.cause
  head = same_head moment.cause other.cause (map (λ x. x.cause) moments) (map (λ x. x.cause) others) side.causes

  acts : ActsAlike group moment.cause m n
  unfolding state_at
  acts = side.acts 0 moment refl

  first : StaysInside group moment.cause m n
  first = inside_unseen group moment.cause m n h side.start acts

  first_records : records_by moment.cause m ≡ records_by other.cause n
  first_records = first.records ∙ ap (λ c. records_by c n) head

  first_states : SameButInside group moment.machine other.machine
  unfolding IsRun
  first_states =
      subst (λ (x : Machine). SameButInside group x other.machine) (sym side.run.0)
      (subst (λ (x : Machine). SameButInside group (caused moment.cause m) x) (ap (λ c. caused c n) head ∙ sym side.other.0) first.states)

  next_matched : Matched moment.machine
  unfolding IsRun
  next_matched = subst Matched (sym side.run.0) (every_cause_keeps moment.cause m h)

  rest_side : RunsActAlike group moment.machine other.machine moments others
  unfolding IsRun state_at
  rest_side = record {
    run = side.run.1;
    other = side.other.1;
    causes = same_tail moment.cause other.cause (map (λ x. x.cause) moments) (map (λ x. x.cause) others) side.causes;
    start = first_states;
    acts = λ i between there. side.acts (suc i) between there;
  }

module _ (group : Group) where
  tell : (m n : Machine) (moments others : List Moment) → Matched m → RunsActAlike group m n moments others
      → records_of m moments ≡ records_of n others
  unfolding records_of
  tell m n [] [] h side = refl
  tell m n [] (other ∷ others) h side = absurd (no_cause other.cause (map (λ x. x.cause) others) side.causes)
  tell m n (moment ∷ moments) [] h side = absurd (no_cause moment.cause (map (λ x. x.cause) moments) (sym side.causes))
  tell m n (moment ∷ moments) (other ∷ others) h side =
      λ i. first_records group m n moment other moments others h side i
      ++ tell moment.machine other.machine moments others (next_matched group m n moment other moments others h side)
      (rest_side group m n moment other moments others h side) i

  stay : (m n : Machine) (moments others : List Moment) → Matched m → RunsActAlike group m n moments others
      → (i : ℕ) → SameButInside group (state_at m moments i) (state_at n others i)
  unfolding state_at
  stay m n moments others h side zero = side.start
  stay m n [] [] h side (suc i) = side.start
  stay m n [] (other ∷ others) h side (suc i) = absurd (no_cause other.cause (map (λ x. x.cause) others) side.causes)
  stay m n (moment ∷ moments) [] h side (suc i) = absurd (no_cause moment.cause (map (λ x. x.cause) moments) (sym side.causes))
  stay m n (moment ∷ moments) (other ∷ others) h side (suc i) =
      stay moment.machine other.machine moments others (next_matched group m n moment other moments others h side)
      (rest_side group m n moment other moments others h side) i

pub runs_keep : RunsKeepInside
runs_keep group m n moments others h side = record {
  records = tell group m n moments others h side;
  states = stay group m n moments others h side;
}
