-- Along two histories from related states the group acts alike.
use Rattle.std.proofs.Common.{◌≡◌, ◌==◌, ℕ, zero, suc, Bool, true, false, List, [], ◌∷◌, ◌++◌, slice_get, Some, is_some, refl, sym, ap, ◌∙◌, subst}
use Rattle.std.specs.Prelude.{if◌then◌else◌}
use Rattle.std.proofs.lemmas.Bool.{false≢true}
use Rattle.std.proofs.lemmas.Option.{none-some, same_Some}
use Rattle.xk_base.specs.declared.events.Event.{Event}
use Rattle.xk_base.specs.declared.events.Event.TheVariants.{Irq, Kill, Pick, Tick}
use Rattle.machine_model.specs.Runs.Matched.{Matched}
use Rattle.machine_model.specs.Runs.Moments.{ByIrq, ByKill, ByPick, ByStep, ByTurn, Cause, Moment, caused, moment_of, state_at}
use Rattle.machine_model.specs.State.Machine.{Machine}
use Rattle.machine_model.specs.State.Order.{actor, turn}
use Rattle.machine_model.specs.Stepping.Events.{nothing}
use Rattle.machine_model.specs.Stepping.Step.{step}
use Rattle.machine_laws.proofs.Stepping.EveryStepLemmas.{every_cause_keeps}
use Rattle.machine_laws.specs.History.{History, behind, history, play, reached, stopped, ticks}
use Rattle.machine_laws.specs.HistoryMoments.{event_moments, moments_of, tick_moments}
use Rattle.confidentiality_laws.proofs.Isolating.RunLemmas.{by_cause}
use Rattle.noninterference_laws.specs.Acting.{ActsAlike}
use Rattle.noninterference_laws.specs.Inside.{Group, SameButInside}
use Rattle.noninterference_laws.specs.TwoInsides.{ActAlong, TellTheSameOutside}
use Rattle.noninterference_laws.specs.Unwinding.{IsUnwinding}
use Rattle.noninterference_laws.proofs.Running.HistoryLemmas.{histories_keep}
use Rattle.noninterference_laws.proofs.Seeing.UnseenLemmas.{inside_unseen}
use Rattle.noninterference_laws.proofs.Stepping.ShadeLemmas.{actor_shade, shaded}

module _ (group : Group) (related : Machine → Machine → Type 0) (unwinding : IsUnwinding group related) where
  -- related states that are the same but for the inside, of which the first is matched
  record Beside (m n : Machine) : Type 0 where
    same : SameButInside group m n
    matched : Matched m
    relates : related m n

  -- at each moment of the first list the group acts alike in both
  abbrev AllAlike : Machine → Machine → List Moment → List Moment → Type 0
  AllAlike m n moments others =
      (i : ℕ) (moment : Moment) → slice_get moments i ≡ Some moment → ActsAlike group moment.cause (state_at m moments i) (state_at n others i)

  none_alike : (m n : Machine) (others : List Moment) → AllAlike m n [] others
  none_alike m n others i moment there = absurd (none-some moment there)

  more_alike : (m n : Machine) (moment other : Moment) (after others_after : List Moment) → ActsAlike group moment.cause m n
      → AllAlike moment.machine other.machine after others_after → AllAlike m n (moment ∷ after) (other ∷ others_after)
  unfolding state_at
  more_alike m n moment other after others_after acts rest zero first there =
      subst (λ (x : Moment). ActsAlike group x.cause m n) (same_Some moment first there) acts
  more_alike m n moment other after others_after acts rest (suc i) between there = rest i between there

  -- Two parts of histories go alike: the limit is met alike, they lead to states that are beside each other, and what goes alike from there
  -- goes alike behind them.
  record GoAlike (m n : Machine) (moments others : List Moment) (h k : History) : Type 0 where
    met : h.met ≡ k.met
    last : Beside h.machine k.machine
    acts : (after others_after : List Moment) → AllAlike h.machine k.machine after others_after
        → AllAlike m n (moments ++ after) (others ++ others_after)

  -- ---- one cause

  module _ (m n : Machine) (both : Beside m n) where
    acts_alike : (cause : Cause) → ActsAlike group cause m n
    acts_alike cause = unwinding.acts cause m n both.matched both.same both.relates

    caused_beside : (cause : Cause) → Beside (caused cause m) (caused cause n)
    caused_beside cause = record {
      same = (inside_unseen group cause m n both.matched both.same (acts_alike cause)).states;
      matched = every_cause_keeps cause m both.matched;
      relates = unwinding.kept cause m n both.matched both.same both.relates;
    }

    someone_alike : is_some (actor m) ≡ is_some (actor n)
    someone_alike = ap is_some (actor_shade group m n (shaded group m n both.same.outside))

    steps_alike : m.steps ≡ n.steps
    steps_alike = ap (λ (x : Machine). x.steps) both.same.outside

    one_alike : (cause : Cause)
        → GoAlike m n (moment_of cause m ∷ []) (moment_of cause n ∷ []) (reached (by_cause cause m)) (reached (by_cause cause n))
    one_alike cause = record {
      met = refl;
      last = caused_beside cause;
      acts = λ after others_after rest.
          more_alike m n (moment_of cause m) (moment_of cause n) after others_after (acts_alike cause) rest;
    }

    stopped_alike : GoAlike m n [] [] (stopped m) (stopped n)
    stopped_alike = record { met = refl; last = both; acts = λ after others_after rest. rest }

    behind_alike : (moments others : List Moment) (h k : History) → GoAlike (step m).machine (step n).machine moments others h k
        → GoAlike m n (moment_of ByStep m ∷ moments) (moment_of ByStep n ∷ others) (behind (step m).records h) (behind (step n).records k)
    behind_alike moments others h k alike = record {
      met = alike.met;
      last = alike.last;
      acts = λ after others_after rest.
          more_alike m n (moment_of ByStep m) (moment_of ByStep n) (moments ++ after) (others ++ others_after) (acts_alike ByStep)
          (alike.acts after others_after rest);
    }

  -- ---- `tick N`

  -- what a step brings, by whether a thread is Ready, and by whether the limit is met
  abbrev step_moments : Bool → Bool → ℕ → ℕ → Machine → List Moment
  step_moments a b k limit m =
      if a then (if b then [] else moment_of ByStep m ∷ tick_moments k limit (step m).machine) else moment_of ByTurn m ∷ []

  abbrev stepped : Bool → Bool → ℕ → ℕ → Machine → History
  stepped a b k limit m =
      if a then (if b then stopped m else behind (step m).records (ticks k limit (step m).machine)) else reached (nothing (turn m))

  abbrev TicksAlike : ℕ → ℕ → Type 0
  TicksAlike k limit = (m n : Machine) → Beside m n → GoAlike m n (tick_moments k limit m) (tick_moments k limit n) (ticks k limit m) (ticks k limit n)

  both_stepped_alike : (k limit : ℕ) → TicksAlike k limit → (m n : Machine) → Beside m n → (a b c d : Bool) → a ≡ c → b ≡ d
      → GoAlike m n (step_moments a b k limit m) (step_moments c d k limit n) (stepped a b k limit m) (stepped c d k limit n)
  both_stepped_alike k limit later m n both true true true true p q = stopped_alike m n both
  both_stepped_alike k limit later m n both true false true false p q =
      behind_alike m n both (tick_moments k limit (step m).machine) (tick_moments k limit (step n).machine) (ticks k limit (step m).machine)
      (ticks k limit (step n).machine) (later (step m).machine (step n).machine (caused_beside m n both ByStep))
  both_stepped_alike k limit later m n both false b false d p q = one_alike m n both ByTurn
  both_stepped_alike k limit later m n both true b false d p q = absurd (false≢true (sym p))
  both_stepped_alike k limit later m n both false b true d p q = absurd (false≢true p)
  both_stepped_alike k limit later m n both true true true false p q = absurd (false≢true (sym q))
  both_stepped_alike k limit later m n both true false true true p q = absurd (false≢true q)

  ticks_alike : (k limit : ℕ) → TicksAlike k limit
  unfolding tick_moments ticks
  ticks_alike zero limit m n both = one_alike m n both ByTurn
  ticks_alike (suc k) limit m n both =
      both_stepped_alike k limit (ticks_alike k limit) m n both (is_some (actor m)) (m.steps == limit) (is_some (actor n)) (n.steps == limit)
      (someone_alike m n both) (ap (λ (done : ℕ). done == limit) (steps_alike m n both))

  -- ---- one event, and a list of events

  event_alike : (event : Event) (limit : ℕ) (m n : Machine) → Beside m n
      → GoAlike m n (event_moments event limit m) (event_moments event limit n) (play event limit m) (play event limit n)
  unfolding event_moments play
  event_alike (Tick k) limit m n both = ticks_alike k limit m n both
  event_alike (Pick pid tid) limit m n both = one_alike m n both (ByPick (record { pid = pid; tid = tid }))
  event_alike (Irq k) limit m n both = one_alike m n both (ByIrq k)
  event_alike (Kill pid) limit m n both = one_alike m n both (ByKill pid)

  histories_act : (events : List Event) (limit : ℕ) (m n : Machine) → Beside m n → AllAlike m n (moments_of events limit m) (moments_of events limit n)
  unfolding moments_of
  histories_act [] limit m n both = none_alike m n []
  histories_act (event ∷ events) limit m n both =
      go (λ x y beside. histories_act events limit x y beside) (play event limit m) (play event limit n) (play event limit m).met (play event limit n).met refl refl
      (event_alike event limit m n both)
    where
      go : ((x y : Machine) → Beside x y → AllAlike x y (moments_of events limit x) (moments_of events limit y)) → (h k : History) (a b : Bool)
          → h.met ≡ a → k.met ≡ b → GoAlike m n (event_moments event limit m) (event_moments event limit n) h k
          → AllAlike m n (event_moments event limit m ++ (if a then [] else moments_of events limit h.machine))
          (event_moments event limit n ++ (if b then [] else moments_of events limit k.machine))
      go next h k true true p q alike = alike.acts [] [] (none_alike h.machine k.machine [])
      go next h k false false p q alike =
          alike.acts (moments_of events limit h.machine) (moments_of events limit k.machine) (next h.machine k.machine alike.last)
      go next h k true false p q alike = absurd (false≢true (sym q ∙ (sym alike.met ∙ p)))
      go next h k false true p q alike = absurd (false≢true (sym p ∙ (alike.met ∙ q)))

-- ---- the laws

pub unwound_act : (group : Group) (related : Machine → Machine → Type 0) (events : List Event) (limit : ℕ) (m n : Machine)
    → IsUnwinding group related → Matched m → SameButInside group m n → related m n → ActAlong group events limit m n
unwound_act group related events limit m n unwinding h same relates =
    histories_act group related unwinding events limit m n (record { same = same; matched = h; relates = relates })

pub unwound_histories : (group : Group) (related : Machine → Machine → Type 0) (events : List Event) (limit : ℕ) (m n : Machine)
    → IsUnwinding group related → Matched m → SameButInside group m n → related m n
    → TellTheSameOutside group (history events limit m) (history events limit n)
unwound_histories group related events limit m n unwinding h same relates =
    histories_keep group events limit m n h
    (record { start = same; acts = unwound_act group related events limit m n unwinding h same relates })
