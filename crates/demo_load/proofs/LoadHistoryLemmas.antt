-- The history of the events of a load: it doesn't meet the limit, and a step tells little.
use Rattle.std.proofs.Common.{◌≡◌, ◌==◌, ◌+◌, ◌*◌, ◌≤◌, ℕ, zero, suc, Bool, true, false, List, [], ◌∷◌, ◌++◌, length, map, Option, Some, None, is_some, refl, ap, subst, ◌∙◌, arith, ◌-◌, sym}
use Rattle.std.specs.Prelude.{if◌then◌else◌}
use Rattle.std.proofs.lemmas.Bool.Decides.{nat_tests}
use Rattle.std.proofs.lemmas.List.{length-map}
use Rattle.std.proofs.lemmas.List.FromFn.{map-range_with_len_more}
use Rattle.xk_base.specs.declared.events.Event.{Event}
use Rattle.xk_base.specs.declared.events.Event.TheVariants.{Tick}
use Rattle.machine_model.specs.State.Changes.{Delivery, Told}
use Rattle.machine_model.specs.State.Machine.{Machine}
use Rattle.machine_model.specs.State.Order.{actor, turn}
use Rattle.machine_model.specs.Stepping.Events.{nothing}
use Rattle.machine_model.specs.Stepping.Step.{acted_if_there, counted, record_of, step, step_by, step_by_if}
use Rattle.machine_model.specs.Stepping.Timer.{is_due, stands_after_irq, timed, timed_if, timer_change, with_irq, with_irq_if}
use Rattle.machine_model.proofs.Runs.TimerLemmas.{timed_raised}
use Rattle.xk_base.specs.Tables.Circle.{thread_ids}
use Rattle.xk_base.specs.declared.ids.ThreadId.{ThreadId}
use Rattle.xk_base.specs.declared.records.What.{What}
use Rattle.xk_base.specs.declared.records.What.TheVariants.{Irq}
use Rattle.machine_laws.specs.History.{History, behind, history, play, reached, stopped, ticks}
use Rattle.xk_kernel.proofs.Ringing.FewLemmas.{few_acted}
use Rattle.machine_laws.proofs.Histories.HistoryLemmas.{history_none}
use Rattle.machine_laws.proofs.Histories.LimitLemmas.{step_steps, turn_steps}
use Rattle.xk_base.specs.declared.limits.TheConstants.{DEFAULT_STEPS}
use Rattle.xk_kernel.specs.Start.{start}
use Rattle.machine_laws.specs.HistoryMoments.{event_moments, moments_of}
use Rattle.event_player.specs.Rooms.{ComesFull, Room}
use Rattle.event_player.proofs.Playing.FullLemmas.{events_full_front, events_full_later, first_event_full}
use Rattle.demo_load.specs.Events.{first_events, load_history, load_machine, tick_at}
use Rattle.event_player.proofs.Playing.HistoryLemmas.{history_after, history_one}
use Rattle.event_player.proofs.Playing.StoodLemmas.{through_event, through_events, through_no_events}
use Rattle.xk_kernel.specs.Moments.{Throughout}

-- ---- a step tells little

irq_more : (d : Delivery) (told : List What) → length (with_irq d told) ≡ length told + 1
irq_more d [] = refl
irq_more d (what ∷ told) = go (stands_after_irq d.pid what) (irq_more d told)
  where
    go : (b : Bool) → length (with_irq d told) ≡ length told + 1
        → length (if b then Irq d.pid d.number ∷ what ∷ told else what ∷ with_irq d told) ≡ length (what ∷ told) + 1
    go true later = omega arith
    go false later = omega (arith, later)

few_timed : (b : Bool) (done : Told) → length (timed_if b done).told ≤ length done.told + 1
few_timed false done = omega arith
few_timed true done = go (timer_change done.machine).delivery
  where
    go : (o : Option Delivery) → length (with_irq_if o done.told) ≤ length done.told + 1
    go None = omega arith
    go (Some d) = omega (arith, irq_more d done.told)

few_by : (who : ThreadId) (m : Machine) → length (step_by who m).records ≤ thread_ids (step_by who m).machine.processes + 4
unfolding step_by
few_by who m =
    let turned : Machine = record m { cursor = who } in
    let acted : Told = acted_if_there turned (m.threads who) in
    let done : Told = counted turned (m.threads who) acted in
    let few : length acted.told ≤ thread_ids acted.machine.processes + 3 = few_acted turned (m.threads who) in
    let more : length (timed done).told ≤ length done.told + 1 = few_timed (is_due done.machine.compare done.machine.steps) done in
    let same : (timed done).machine.processes ≡ acted.machine.processes = ap (λ (x : Machine). x.processes) (timed_raised done).is in
    let long : length (map (record_of (m.steps + 1)) (timed done).told) ≡ length (timed done).told = length-map (timed done).told (record_of (m.steps + 1)) in
    omega (arith, few, more, same, long)

-- of each thread an answer, and four records more
pub few_stepped : (m : Machine) → length (step m).records ≤ thread_ids (step m).machine.processes + 4
unfolding step
few_stepped m = go (actor m)
  where
    go : (o : Option ThreadId) → length (step_by_if o m).records ≤ thread_ids (step_by_if o m).machine.processes + 4
    go None = omega arith
    go (Some who) = few_by who m

-- ---- the limit isn't met

ticks_unmet : (n limit : ℕ) (m : Machine) → m.steps + n ≤ limit → ((ticks n limit m).met ≡ false) × ((ticks n limit m).machine.steps ≤ m.steps + n)
unfolding ticks
ticks_unmet zero limit m room = (refl, rw turn_steps (omega arith))
ticks_unmet (suc n) limit m room =
    go (is_some (actor m)) refl (m.steps == limit) refl (λ h. ticks_unmet n limit (step m).machine h)
  where
    abbreviated : Bool → Bool → History
    abbreviated a b = if a then (if b then stopped m else behind (step m).records (ticks n limit (step m).machine)) else reached (nothing (turn m))

    go : (a : Bool) → is_some (actor m) ≡ a → (b : Bool) → (m.steps == limit) ≡ b
        → ((step m).machine.steps + n ≤ limit → ((ticks n limit (step m).machine).met ≡ false) × ((ticks n limit (step m).machine).machine.steps ≤ (step m).machine.steps + n))
        → ((abbreviated a b).met ≡ false) × ((abbreviated a b).machine.steps ≤ m.steps + suc n)
    go false ready b test later = (refl, rw turn_steps (omega arith))
    go true ready true test later =
        let met : m.steps ≡ limit = grind (arith, nat_tests) in
        absurd (omega (arith, met))
    go true ready false test later =
        let one = step_steps m ready in
        let rest = later (omega (arith, one)) in
        (rest.0, omega (arith, one, rest.1))

pub tick_unmet : (n limit : ℕ) (m : Machine) → m.steps + n ≤ limit
    → ((play (Tick n) limit m).met ≡ false) × ((play (Tick n) limit m).machine.steps ≤ m.steps + n)
unfolding play
tick_unmet n limit m room = ticks_unmet n limit m room

-- one event more
events_more : (k : ℕ) → first_events (k + 1) ≡ first_events k ++ Tick (tick_at k) ∷ []
unfolding first_events
events_more k = map-range_with_len_more (λ i. Tick (tick_at i)) 0 k k (omega arith)

-- no event
pub events_none : (limit : ℕ) (m : Machine) → history (first_events 0) limit m ≡ reached (nothing m)
unfolding first_events
events_none limit m = history_none limit m

pub history_more : (k limit : ℕ) (m last : Machine) → (history (first_events k) limit m).met ≡ false → (history (first_events k) limit m).machine ≡ last
    → (play (Tick (tick_at k)) limit last).met ≡ false
    → history (first_events (k + 1)) limit m ≡ behind (history (first_events k) limit m).records (behind (play (Tick (tick_at k)) limit last).records (reached (nothing (play (Tick (tick_at k)) limit last).machine)))
history_more k limit m last unmet there over =
    ap (λ (events : List Event). history events limit m) (events_more k)
    ∙ (history_after (first_events k) (Tick (tick_at k) ∷ []) limit m unmet
    ∙ (ap (λ (x : Machine). behind (history (first_events k) limit m).records (history (Tick (tick_at k) ∷ []) limit x)) there
    ∙ ap (behind (history (first_events k) limit m).records) (history_one (Tick (tick_at k)) limit last over)))

pub few_ticks : (k : ℕ) → tick_at k ≤ 13
few_ticks k = omega arith

-- so many events fit
pub history_unmet : (k limit : ℕ) (m : Machine) → m.steps + 13 * k ≤ limit
    → ((history (first_events k) limit m).met ≡ false) × ((history (first_events k) limit m).machine.steps ≤ m.steps + 13 * k)
history_unmet zero limit m room = rw events_none (refl, omega arith)
history_unmet (suc k) limit m room =
    let before = history_unmet k limit m (omega arith) in
    let last : Machine = (history (first_events k) limit m).machine in
    let steps : last.steps ≤ m.steps + 13 * k = before.1 in
    let few = few_ticks k in
    let tick = tick_unmet (tick_at k) limit last (omega (arith, steps, few)) in
    let more = history_more k limit m last before.0 refl tick.0 in
    let next : k + 1 ≡ suc k = omega arith in
    let P : ℕ → Type 0 = λ n. ((history (first_events n) limit m).met ≡ false) × ((history (first_events n) limit m).machine.steps ≤ m.steps + 13 * suc k) in
    subst P next (rw more (refl, omega (arith, tick.1, steps, few)))

pub load_meets_no_limit : (clients : ℕ) → clients ≤ 31 → (load_history clients).met ≡ false
unfolding start
load_meets_no_limit clients few = (history_unmet (1000 * clients) DEFAULT_STEPS (load_machine clients) (omega arith)).0

-- ---- for each state there stood a kernel

pub none_stood : (P : Machine → Type 0) (limit : ℕ) (m : Machine) → P m → Throughout P m (moments_of (first_events 0) limit m)
unfolding first_events
none_stood P limit m here = through_no_events P limit m here

pub more_stood : (P : Machine → Type 0) (k limit : ℕ) (start m : Machine) → (history (first_events k) limit start).met ≡ false
    → (history (first_events k) limit start).machine ≡ m → Throughout P start (moments_of (first_events k) limit start)
    → Throughout P m (event_moments (Tick (tick_at k)) limit m) → Throughout P start (moments_of (first_events (k + 1)) limit start)
more_stood P k limit start m unmet there first second =
    let E : List Event → Type 0 = λ events. Throughout P start (moments_of events limit start) in
    subst E (sym (events_more k))
    (through_events P limit start m (first_events k) (Tick (tick_at k) ∷ []) unmet there first (through_event P limit m (Tick (tick_at k)) second))

-- ---- a state with more pages than there are frames for

-- a history of more events has the same states
more_events_full : (d k : ℕ) (room : Room) (limit : ℕ) (m : Machine) → ComesFull room m (moments_of (first_events k) limit m)
    → ComesFull room m (moments_of (first_events (k + d)) limit m)
more_events_full zero k room limit m full =
    let same : k ≡ k + 0 = omega arith in
    let F : ℕ → Type 0 = λ n. ComesFull room m (moments_of (first_events n) limit m) in
    subst F same full
more_events_full (suc d) k room limit m full =
    let next : (k + d) + 1 ≡ k + suc d = omega arith in
    let E : List Event → Type 0 = λ events. ComesFull room m (moments_of events limit m) in
    let F : ℕ → Type 0 = λ n. ComesFull room m (moments_of (first_events n) limit m) in
    subst F next
    (subst E (sym (events_more (k + d)))
    (events_full_front room limit m (first_events (k + d)) (Tick (tick_at (k + d)) ∷ []) (more_events_full d k room limit m full)))

-- the states of a tick are among those of the load
pub load_full : (room later : Room) (k count limit n : ℕ) (start m : Machine) → k + 1 ≤ count → (history (first_events k) limit start).met ≡ false
    → (history (first_events k) limit start).machine ≡ m → later ≡ room → n ≡ tick_at k → ComesFull later m (event_moments (Tick n) limit m)
    → ComesFull room start (moments_of (first_events count) limit start)
load_full room later k count limit n start m inside unmet there same tick full =
    let all : (k + 1) + (count - (k + 1)) ≡ count = omega arith in
    let T : ℕ → Type 0 = λ x. ComesFull later m (event_moments (Tick x) limit m) in
    let R : Room → Type 0 = λ r. ComesFull r m (event_moments (Tick (tick_at k)) limit m) in
    let E : List Event → Type 0 = λ events. ComesFull room start (moments_of events limit start) in
    let F : ℕ → Type 0 = λ x. ComesFull room start (moments_of (first_events x) limit start) in
    subst F all
    (more_events_full (count - (k + 1)) (k + 1) room limit start
    (subst E (sym (events_more k))
    (events_full_later room limit start m (first_events k) (Tick (tick_at k) ∷ []) unmet there
    (first_event_full room limit m (Tick (tick_at k)) [] (subst R same (subst T tick full))))))
