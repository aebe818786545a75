-- States of a run with more pages than there are frames for.
use Rattle.std.proofs.Common.{◌≡◌, ◌≢◌, ◌≤◌, ◌-◌, ◌==◌, ◌∙◌, ℕ, zero, suc, Bool, true, false, List, [], ◌∷◌, ◌++◌, length, is_some, sym, ap, subst, arith}
use Rattle.std.specs.Prelude.{if◌then◌else◌}
use Rattle.std.proofs.lemmas.Bool.Decides.{nat_tests}
use Rattle.xk_base.specs.declared.events.Event.{Event}
use Rattle.xk_base.specs.declared.events.Event.TheVariants.{Tick}
use Rattle.machine_model.specs.Runs.Moments.{ByStep, ByTurn, Moment, state_at, moment_of}
use Rattle.machine_model.specs.State.Machine.{Machine}
use Rattle.machine_model.specs.State.Order.{actor}
use Rattle.machine_model.specs.Stepping.Step.{step}
use Rattle.machine_laws.specs.History.{history}
use Rattle.machine_laws.specs.HistoryMoments.{event_moments, moments_of, tick_moments}
use Rattle.machine_laws.proofs.Histories.MomentLemmas.{history_last, moments_append}
use Rattle.event_player.specs.Rooms.{ComesFull, IsFull, Room}

-- the start is a state of the run
pub full_start : (room : Room) (start : Machine) (moments : List Moment) → IsFull room start → ComesFull room start moments
unfolding state_at
full_start room start moments full = (0, full)

-- a run that goes on has the same states
pub full_front : (room : Room) (start : Machine) (before after : List Moment) → ComesFull room start before → ComesFull room start (before ++ after)
unfolding state_at
full_front room start [] after (i, full) = (0, go i full)
  where
    go : (i : ℕ) → IsFull room (state_at start [] i) → IsFull room start
    go zero full = full
    go (suc i) full = full
full_front room start (moment ∷ before) after (zero, full) = (0, full)
full_front room start (moment ∷ before) after (suc i, full) =
    let later = full_front room moment.machine before after (i, full) in (suc later.0, later.1)

-- .. and those that come later
pub full_later : (room : Room) (start : Machine) (before after : List Moment) → ComesFull room (state_at start before (length before)) after
    → ComesFull room start (before ++ after)
unfolding state_at
full_later room start [] after full = full
full_later room start (moment ∷ before) after full =
    let later = full_later room moment.machine before after full in (suc later.0, later.1)

-- ---- of events in order

pub events_full_front : (room : Room) (limit : ℕ) (start : Machine) (before after : List Event) → ComesFull room start (moments_of before limit start)
    → ComesFull room start (moments_of (before ++ after) limit start)
events_full_front room limit start before after full =
    subst (ComesFull room start) (sym (moments_append before after limit start)) (full_front room start (moments_of before limit start) _ full)

pub events_full_later : (room : Room) (limit : ℕ) (start m : Machine) (before after : List Event) → (history before limit start).met ≡ false
    → (history before limit start).machine ≡ m → ComesFull room m (moments_of after limit m)
    → ComesFull room start (moments_of (before ++ after) limit start)
events_full_later room limit start m before after unmet there full =
    let rest : Bool → List Moment = λ b. if b then [] else moments_of after limit (history before limit start).machine in
    let A : Machine → Type 0 = λ x. ComesFull room x (moments_of after limit x) in
    let B : Bool → Type 0 = λ b. ComesFull room (history before limit start).machine (rest b) in
    let C : Machine → Type 0 = λ x. ComesFull room x (rest (history before limit start).met) in
    subst (ComesFull room start) (sym (moments_append before after limit start))
    (full_later room start (moments_of before limit start) (rest (history before limit start).met)
    (subst C (sym (history_last before limit start)) (subst B (sym unmet) (subst A (sym there) full))))

-- the states of the first event
pub first_event_full : (room : Room) (limit : ℕ) (m : Machine) (event : Event) (events : List Event) → ComesFull room m (event_moments event limit m)
    → ComesFull room m (moments_of (event ∷ events) limit m)
unfolding moments_of
first_event_full room limit m event events full = full_front room m (event_moments event limit m) _ full

-- ---- of a tick

pub tick_is : (n limit : ℕ) (m : Machine) → 1 ≤ n → is_some (actor m) ≡ true → m.steps ≢ limit
    → event_moments (Tick n) limit m ≡ moment_of ByStep m ∷ event_moments (Tick (n - 1)) limit (step m).machine
unfolding event_moments tick_moments
tick_is zero limit m some ready more = absurd (omega (arith, some))
tick_is (suc n) limit m some ready more =
    let test : (m.steps == limit) ≡ false = grind (arith, nat_tests) in
    let less : n ≡ suc n - 1 = omega arith in
    ap (λ (a : Bool). if a then (if m.steps == limit then [] else moment_of ByStep m ∷ tick_moments n limit (step m).machine) else moment_of ByTurn m ∷ []) ready
    ∙ (ap (λ (b : Bool). if b then [] else moment_of ByStep m ∷ tick_moments n limit (step m).machine) test
    ∙ ap (λ (k : ℕ). moment_of ByStep m ∷ tick_moments k limit (step m).machine) less)

-- the states of its first step and of the rest
pub tick_full : (room : Room) (n limit : ℕ) (m : Machine) → 1 ≤ n → is_some (actor m) ≡ true → m.steps ≢ limit
    → ComesFull room (step m).machine (event_moments (Tick (n - 1)) limit (step m).machine) → ComesFull room m (event_moments (Tick n) limit m)
unfolding state_at
tick_full room n limit m some ready more full =
    subst (ComesFull room m) (sym (tick_is n limit m some ready more)) (suc full.0, full.1)

-- the state after its first step is one of them
pub step_full : (room : Room) (n limit : ℕ) (m : Machine) → 1 ≤ n → is_some (actor m) ≡ true → m.steps ≢ limit → IsFull room (step m).machine
    → ComesFull room m (event_moments (Tick n) limit m)
step_full room n limit m some ready more crowd =
    tick_full room n limit m some ready more (full_start room (step m).machine (event_moments (Tick (n - 1)) limit (step m).machine) crowd)

-- the states of the rest, on the machine to which the step leads
pub step_on_full : (room later : Room) (n limit : ℕ) (m next : Machine) → 1 ≤ n → is_some (actor m) ≡ true → m.steps ≢ limit → later ≡ room → next ≡ (step m).machine
    → ComesFull later next (event_moments (Tick (n - 1)) limit next) → ComesFull room m (event_moments (Tick n) limit m)
step_on_full room later n limit m next some ready more same there full =
    let A : Machine → Type 0 = λ x. ComesFull later x (event_moments (Tick (n - 1)) limit x) in
    let B : Room → Type 0 = λ r. ComesFull r (step m).machine (event_moments (Tick (n - 1)) limit (step m).machine) in
    tick_full room n limit m some ready more (subst B same (subst A there full))
