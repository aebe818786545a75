-- Two histories of one list of events in which a group acts alike.
use Rattle.std.proofs.Common.{◌≡◌, ◌==◌, ℕ, zero, suc, Bool, true, false, List, [], ◌∷◌, ◌++◌, map, slice_get, Some, length, is_some, refl, sym, ap, ◌∙◌, subst}
use Rattle.std.proofs.lemmas.Bool.{false≢true}
use Rattle.std.proofs.lemmas.List.{map-append}
use Rattle.std.specs.Prelude.{if◌then◌else◌}
use Rattle.xk_base.specs.declared.events.Event.{Event}
use Rattle.xk_base.specs.declared.events.Event.TheVariants.{Tick, Pick, Irq, Kill}
use Rattle.machine_model.specs.Runs.Matched.{Matched}
use Rattle.machine_model.specs.Runs.Moments.{Cause, ByStep, ByPick, ByIrq, ByKill, ByTurn, Moment, caused, state_at, moment_of}
use Rattle.machine_model.specs.State.Machine.{Machine}
use Rattle.machine_model.specs.State.Order.{actor, turn}
use Rattle.machine_model.specs.Stepping.Events.{nothing}
use Rattle.machine_model.specs.Stepping.Step.{step}
use Rattle.machine_laws.proofs.Stepping.EveryStepLemmas.{every_cause_keeps}
use Rattle.machine_laws.specs.History.{History, reached, stopped, behind, go_on, ticks, play, history}
use Rattle.machine_laws.specs.HistoryMoments.{tick_moments, event_moments, moments_of}
use Rattle.machine_laws.proofs.Histories.MomentLemmas.{history_is_run, history_last}
use Rattle.machine_laws.proofs.Histories.RecordLemmas.{history_tells}
use Rattle.confidentiality_laws.proofs.Isolating.RunLemmas.{by_cause}
use Rattle.noninterference_laws.specs.Acting.{ActsAlike}
use Rattle.noninterference_laws.specs.Inside.{Group, SameButInside}
use Rattle.noninterference_laws.specs.TwoInsides.{HistoriesActAlike, HistoriesKeepInside, RunsActAlike, RunsStayInside}
use Rattle.noninterference_laws.proofs.Running.RunLemmas.{runs_keep}
use Rattle.noninterference_laws.proofs.Seeing.UnseenLemmas.{inside_unseen}
use Rattle.noninterference_laws.proofs.Stepping.ShadeLemmas.{actor_shade, shaded}

abbrev causes_of : List Moment → List Cause
causes_of moments = map (λ (moment : Moment). moment.cause) moments

module _ (group : Group) where
  -- the two are the same but for the inside, and the first is matched
  record Beside (m n : Machine) : Type 0 where
    same : SameButInside group m n
    matched : Matched m

  -- at each moment of the first the group acts alike in both
  abbrev AllAlike : (m n : Machine) → (moments others : List Moment) → Type 0
  AllAlike m n moments others =
      (i : ℕ) (moment : Moment) → slice_get moments i ≡ Some moment
      → ActsAlike group moment.cause (state_at m moments i) (state_at n others i)

  -- Two parts of histories go alike: of one list of causes, with the limit met alike, to states that are the same but for the inside,
  -- and then on so
  record GoAlike (moments others : List Moment) (h k : History) (after others_after : List Moment) : Type 0 where
    causes : causes_of moments ≡ causes_of others
    met : h.met ≡ k.met
    last : Beside h.machine k.machine
    rest : AllAlike h.machine k.machine after others_after

  later_alike : (m n : Machine) (moment other : Moment) (after others_after : List Moment)
      → AllAlike m n (moment ∷ after) (other ∷ others_after) → AllAlike moment.machine other.machine after others_after
  unfolding state_at
  later_alike m n moment other after others_after steps = λ i between there. steps (suc i) between there

  first_alike : (m n : Machine) (moment other : Moment) (after others_after : List Moment)
      → AllAlike m n (moment ∷ after) (other ∷ others_after) → ActsAlike group moment.cause m n
  unfolding state_at
  first_alike m n moment other after others_after steps = steps 0 moment refl

  -- ---- one cause

  module _ (m n : Machine) (both : Beside m n) where
    caused_alike : (cause : Cause) → ActsAlike group cause m n → Beside (caused cause m) (caused cause n)
    caused_alike cause acts = record {
      same = (inside_unseen group cause m n both.matched both.same acts).states;
      matched = every_cause_keeps cause m both.matched;
    }

    someone_alike : is_some (actor m) ≡ is_some (actor n)
    someone_alike = ap is_some (actor_shade group m n (shaded group m n both.same.outside))

    steps_alike : m.steps ≡ n.steps
    steps_alike = ap (λ (x : Machine). x.steps) both.same.outside

    one_alike : (cause : Cause) (after others_after : List Moment) → AllAlike m n (moment_of cause m ∷ after) (moment_of cause n ∷ others_after)
        → GoAlike (moment_of cause m ∷ []) (moment_of cause n ∷ []) (reached (by_cause cause m)) (reached (by_cause cause n)) after others_after
    one_alike cause after others_after steps = record {
      causes = refl;
      met = refl;
      last = caused_alike cause (first_alike m n (moment_of cause m) (moment_of cause n) after others_after steps);
      rest = later_alike m n (moment_of cause m) (moment_of cause n) after others_after steps;
    }

  -- ---- `tick N`

  -- what a step brings, by whether a thread is Ready, and by whether the limit is met
  abbrev step_moments : Bool → Bool → ℕ → ℕ → Machine → List Moment
  step_moments a b k limit m =
      if a then (if b then [] else moment_of ByStep m ∷ tick_moments k limit (step m).machine) else moment_of ByTurn m ∷ []

  abbrev stepped : Bool → Bool → ℕ → ℕ → Machine → History
  stepped a b k limit m =
      if a then (if b then stopped m else behind (step m).records (ticks k limit (step m).machine)) else reached (nothing (turn m))

  TicksAlike : ℕ → ℕ → Type 0
  TicksAlike k limit =
      (m n : Machine) → Beside m n → (after others_after : List Moment)
      → AllAlike m n (tick_moments k limit m ++ after) (tick_moments k limit n ++ others_after)
      → GoAlike (tick_moments k limit m) (tick_moments k limit n) (ticks k limit m) (ticks k limit n) after others_after

  behind_alike : (m n : Machine) (moments others after others_after : List Moment) (h k : History)
      → GoAlike moments others h k after others_after
      → GoAlike (moment_of ByStep m ∷ moments) (moment_of ByStep n ∷ others) (behind (step m).records h) (behind (step n).records k) after others_after
  behind_alike m n moments others after others_after h k alike = record {
    causes = ap (λ (causes : List Cause). ByStep ∷ causes) alike.causes;
    met = alike.met;
    last = alike.last;
    rest = alike.rest;
  }

  module _ (k limit : ℕ) (later : TicksAlike k limit) (m n : Machine) (both : Beside m n) (after others_after : List Moment) where
    stepped_alike : (a b : Bool) → AllAlike m n (step_moments a b k limit m ++ after) (step_moments a b k limit n ++ others_after)
        → GoAlike (step_moments a b k limit m) (step_moments a b k limit n) (stepped a b k limit m) (stepped a b k limit n) after others_after
    unfolding TicksAlike
    stepped_alike false b steps = one_alike m n both ByTurn after others_after steps
    stepped_alike true true steps = record { causes = refl; met = refl; last = both; rest = steps }
    stepped_alike true false steps =
        let mine : List Moment = tick_moments k limit (step m).machine ++ after in
        let its : List Moment = tick_moments k limit (step n).machine ++ others_after in
        behind_alike m n (tick_moments k limit (step m).machine) (tick_moments k limit (step n).machine) after others_after
        (ticks k limit (step m).machine) (ticks k limit (step n).machine)
        (later (step m).machine (step n).machine
        (caused_alike m n both ByStep (first_alike m n (moment_of ByStep m) (moment_of ByStep n) mine its steps))
        after others_after (later_alike m n (moment_of ByStep m) (moment_of ByStep n) mine its steps))

    both_stepped_alike : (a b c d : Bool) → a ≡ c → b ≡ d → AllAlike m n (step_moments a b k limit m ++ after) (step_moments c d k limit n ++ others_after)
        → GoAlike (step_moments a b k limit m) (step_moments c d k limit n) (stepped a b k limit m) (stepped c d k limit n) after others_after
    both_stepped_alike true true true true p q steps = stepped_alike true true steps
    both_stepped_alike true false true false p q steps = stepped_alike true false steps
    both_stepped_alike false b false d p q steps = stepped_alike false b steps
    both_stepped_alike true b false d p q steps = absurd (false≢true (sym p))
    both_stepped_alike false b true d p q steps = absurd (false≢true p)
    both_stepped_alike true true true false p q steps = absurd (false≢true (sym q))
    both_stepped_alike true false true true p q steps = absurd (false≢true q)

  ticks_alike : (k limit : ℕ) → TicksAlike k limit
  unfolding TicksAlike tick_moments ticks
  ticks_alike zero limit m n both after others_after steps = one_alike m n both ByTurn after others_after steps
  ticks_alike (suc k) limit m n both after others_after steps =
      both_stepped_alike k limit (ticks_alike k limit) m n both after others_after (is_some (actor m)) (m.steps == limit)
      (is_some (actor n)) (n.steps == limit) (someone_alike m n both) (ap (λ (done : ℕ). done == limit) (steps_alike m n both)) steps

  -- ---- one event, and a list of events

  event_alike : (event : Event) (limit : ℕ) (m n : Machine) → Beside m n → (after others_after : List Moment)
      → AllAlike m n (event_moments event limit m ++ after) (event_moments event limit n ++ others_after)
      → GoAlike (event_moments event limit m) (event_moments event limit n) (play event limit m) (play event limit n) after others_after
  unfolding event_moments play TicksAlike
  event_alike (Tick k) limit m n both after others_after steps = ticks_alike k limit m n both after others_after steps
  event_alike (Pick pid tid) limit m n both after others_after steps =
      one_alike m n both (ByPick (record { pid = pid; tid = tid })) after others_after steps
  event_alike (Irq k) limit m n both after others_after steps = one_alike m n both (ByIrq k) after others_after steps
  event_alike (Kill pid) limit m n both after others_after steps = one_alike m n both (ByKill pid) after others_after steps

  causes_append : (moments others after others_after : List Moment) → causes_of moments ≡ causes_of others
      → causes_of after ≡ causes_of others_after → causes_of (moments ++ after) ≡ causes_of (others ++ others_after)
  causes_append moments others after others_after first second =
      map-append (λ (moment : Moment). moment.cause) moments after
      ∙ ((λ i. first i ++ second i) ∙ sym (map-append (λ (moment : Moment). moment.cause) others others_after))

  -- of one list of causes, with the limit met alike
  record OneList (moments others : List Moment) (h k : History) : Type 0 where
    causes : causes_of moments ≡ causes_of others
    met : h.met ≡ k.met

  AllHistories : List Event → ℕ → Type 0
  AllHistories events limit =
      (m n : Machine) → Beside m n → AllAlike m n (moments_of events limit m) (moments_of events limit n)
      → OneList (moments_of events limit m) (moments_of events limit n) (history events limit m) (history events limit n)

  histories_alike : (events : List Event) (limit : ℕ) → AllHistories events limit
  unfolding AllHistories moments_of history
  histories_alike [] limit m n both steps = record { causes = refl; met = refl }
  histories_alike (event ∷ events) limit m n both steps =
      go (histories_alike events limit) (play event limit m) (play event limit n)
      (play event limit m).met (play event limit n).met refl refl
      (event_alike event limit m n both
      (if (play event limit m).met then [] else moments_of events limit (play event limit m).machine)
      (if (play event limit n).met then [] else moments_of events limit (play event limit n).machine) steps)
    where
      go : AllHistories events limit → (h k : History) (a b : Bool) → h.met ≡ a → k.met ≡ b
          → GoAlike (event_moments event limit m) (event_moments event limit n) h k
          (if a then [] else moments_of events limit h.machine) (if b then [] else moments_of events limit k.machine)
          → OneList (event_moments event limit m ++ (if a then [] else moments_of events limit h.machine))
          (event_moments event limit n ++ (if b then [] else moments_of events limit k.machine))
          (go_on a h (history events limit)) (go_on b k (history events limit))
      go next h k true true p q alike = record {
        causes = causes_append (event_moments event limit m) (event_moments event limit n) [] [] alike.causes refl;
        met = alike.met;
      }
      go next h k false false p q alike =
          let mine : List Moment = moments_of events limit h.machine in
          let its : List Moment = moments_of events limit k.machine in
          let later : OneList mine its (history events limit h.machine) (history events limit k.machine) =
          next h.machine k.machine alike.last alike.rest in
          record {
            causes = causes_append (event_moments event limit m) (event_moments event limit n) mine its alike.causes later.causes;
            met = later.met;
          }
      go next h k true false p q alike = absurd (false≢true (sym q ∙ (sym alike.met ∙ p)))
      go next h k false true p q alike = absurd (false≢true (sym p ∙ (alike.met ∙ q)))

-- ---- the law

length_map : (moments : List Moment) → length (causes_of moments) ≡ length moments
length_map [] = refl
length_map (moment ∷ moments) = ap suc (length_map moments)

module _ (group : Group) (events : List Event) (limit : ℕ) (m n : Machine) (h : Matched m) (starts : HistoriesActAlike group events limit m n) where
  abbrev mine : List Moment
  mine = moments_of events limit m

  abbrev its : List Moment
  its = moments_of events limit n

  one_list : OneList group mine its (history events limit m) (history events limit n)
  unfolding AllHistories
  one_list = histories_alike group events limit m n (record { same = starts.start; matched = h }) starts.acts

  beside : RunsActAlike group m n mine its
  beside = record {
    run = history_is_run events limit m;
    other = history_is_run events limit n;
    causes = one_list.causes;
    start = starts.start;
    acts = starts.acts;
  }

  stays : RunsStayInside group m n mine its
  stays = runs_keep group m n mine its h beside

  last_same : SameButInside group (history events limit m).machine (history events limit n).machine
  last_same =
      subst (λ (x : Machine). SameButInside group x (history events limit n).machine) (history_last events limit m)
      (subst (λ (x : Machine). SameButInside group (state_at m mine (length mine)) x)
      (ap (state_at n its) (sym (length_map mine) ∙ (ap length one_list.causes ∙ length_map its)) ∙ history_last events limit n)
      (stays.states (length mine)))

pub histories_keep : HistoriesKeepInside
histories_keep group events limit m n h starts = record {
  records =
      history_tells events limit m
      ∙ ((stays group events limit m n h starts).records ∙ sym (history_tells events limit n));
  met = (one_list group events limit m n h starts).met;
  last = last_same group events limit m n h starts;
}
