-- Histories of the same events up to different step limits.
use Rattle.std.proofs.Common.{◌≡◌, ◌≢◌, ◌==◌, ◌≤◌, ◌∙◌, ℕ, zero, suc, Bool, true, false, List, [], ◌∷◌, ◌++◌, is_some, refl, sym, ap, subst, arith, append_assoc}
use Rattle.std.specs.Prelude.{if◌then◌else◌}
use Rattle.std.proofs.lemmas.Bool.{false≢true}
use Rattle.std.proofs.lemmas.Bool.Decides.{nat_tests}
use Rattle.xk_base.specs.declared.events.Event.{Event}
use Rattle.xk_base.specs.declared.events.Event.TheVariants.{Tick, Pick, Irq, Kill}
use Rattle.machine_model.specs.Stepping.Events.{nothing}
use Rattle.machine_model.specs.Runs.Moments.{ByStep, ByTurn, Moment, moment_of}
use Rattle.machine_model.specs.State.Machine.{Machine}
use Rattle.machine_model.specs.State.Order.{actor, turn}
use Rattle.machine_model.specs.Stepping.Step.{step}
use Rattle.xk_base.specs.declared.records.Rec.{Rec}
use Rattle.machine_laws.specs.History.{History, reached, stopped, behind, go_on, ticks, play, history}
use Rattle.machine_laws.specs.HistoryMoments.{event_moments, moments_of, tick_moments}
use Rattle.machine_laws.proofs.Histories.LimitLemmas.{history_met, irq_steps, kill_steps, pick_steps, step_steps, turn_steps}

-- a tick by whether there is who does a step, and whether the limit is met
by_tests : Bool → Bool → ℕ → ℕ → Machine → History
by_tests a b n limit m = if a then (if b then stopped m else behind (step m).records (ticks n limit (step m).machine)) else reached (nothing (turn m))

-- ---- steps only grow

ticks_grow : (n limit : ℕ) (m : Machine) → m.steps ≤ (ticks n limit m).machine.steps
unfolding ticks
ticks_grow zero limit m = rw turn_steps (omega arith)
ticks_grow (suc n) limit m = go (is_some (actor m)) refl (m.steps == limit) (ticks_grow n limit (step m).machine)
  where
    go : (a : Bool) → is_some (actor m) ≡ a → (b : Bool) → (step m).machine.steps ≤ (ticks n limit (step m).machine).machine.steps
        → m.steps ≤ (if a then (if b then stopped m else behind (step m).records (ticks n limit (step m).machine)) else reached (nothing (turn m))).machine.steps
    go false ready b later = rw turn_steps (omega arith)
    go true ready true later = omega arith
    go true ready false later = omega (arith, step_steps m ready, later)

pub play_grows : (event : Event) (limit : ℕ) (m : Machine) → m.steps ≤ (play event limit m).machine.steps
unfolding play
play_grows (Tick n) limit m = ticks_grow n limit m
play_grows (Pick pid tid) limit m = rw pick_steps (omega arith)
play_grows (Irq k) limit m = rw irq_steps (omega arith)
play_grows (Kill pid) limit m = rw kill_steps (omega arith)

pub history_grows : (events : List Event) (limit : ℕ) (m : Machine) → m.steps ≤ (history events limit m).machine.steps
unfolding history
history_grows [] limit m = omega arith
history_grows (event ∷ events) limit m =
    go (play event limit m).met (play_grows event limit m) (history_grows events limit (play event limit m).machine)
  where
    go : (b : Bool) → m.steps ≤ (play event limit m).machine.steps
        → (play event limit m).machine.steps ≤ (history events limit (play event limit m).machine).machine.steps
        → m.steps ≤ (go_on b (play event limit m) (history events limit)).machine.steps
    go true first later = first
    go false first later = omega (arith, first, later)

-- ---- a limit that isn't met, and any other that the steps don't pass

ticks_same : (n one other : ℕ) (m : Machine) → (ticks n one m).met ≡ false → (ticks n one m).machine.steps ≤ other → ticks n other m ≡ ticks n one m
unfolding ticks
ticks_same zero one other m unmet within = refl
ticks_same (suc n) one other m unmet within =
    go (is_some (actor m)) refl (m.steps == one) (m.steps == other) refl
    (ticks_grow n one (step m).machine) (λ met most. ticks_same n one other (step m).machine met most) unmet within
  where
    go : (a : Bool) → is_some (actor m) ≡ a → (b c : Bool) → (m.steps == other) ≡ c
        → (step m).machine.steps ≤ (ticks n one (step m).machine).machine.steps
        → ((ticks n one (step m).machine).met ≡ false → (ticks n one (step m).machine).machine.steps ≤ other
        → ticks n other (step m).machine ≡ ticks n one (step m).machine)
        → (if a then (if b then stopped m else behind (step m).records (ticks n one (step m).machine)) else reached (nothing (turn m))).met ≡ false
        → (if a then (if b then stopped m else behind (step m).records (ticks n one (step m).machine)) else reached (nothing (turn m))).machine.steps ≤ other
        → (if a then (if c then stopped m else behind (step m).records (ticks n other (step m).machine)) else reached (nothing (turn m)))
        ≡ (if a then (if b then stopped m else behind (step m).records (ticks n one (step m).machine)) else reached (nothing (turn m)))
    go false ready b c test grown later met most = refl
    go true ready true c test grown later met most = cc
    go true ready false true test grown later met most =
        let same : m.steps ≡ other = grind (arith, nat_tests) in
        absurd (omega (arith, same, grown, most, step_steps m ready))
    go true ready false false test grown later met most = ap (behind (step m).records) (later met most)

pub play_same : (event : Event) (one other : ℕ) (m : Machine) → (play event one m).met ≡ false → (play event one m).machine.steps ≤ other
    → play event other m ≡ play event one m
unfolding play
play_same (Tick n) one other m unmet within = ticks_same n one other m unmet within
play_same (Pick pid tid) one other m unmet within = refl
play_same (Irq k) one other m unmet within = refl
play_same (Kill pid) one other m unmet within = refl

pub history_same : (events : List Event) (one other : ℕ) (m : Machine) → (history events one m).met ≡ false
    → (history events one m).machine.steps ≤ other → history events other m ≡ history events one m
unfolding history
history_same [] one other m unmet within = refl
history_same (event ∷ events) one other m unmet within =
    go (play event one m).met refl (history_grows events one (play event one m).machine)
    (λ met most. play_same event one other m met most) (λ met most. history_same events one other (play event one m).machine met most) unmet within
  where
    go : (b : Bool) → (play event one m).met ≡ b
        → (play event one m).machine.steps ≤ (history events one (play event one m).machine).machine.steps
        → ((play event one m).met ≡ false → (play event one m).machine.steps ≤ other → play event other m ≡ play event one m)
        → ((history events one (play event one m).machine).met ≡ false → (history events one (play event one m).machine).machine.steps ≤ other
        → history events other (play event one m).machine ≡ history events one (play event one m).machine)
        → (go_on b (play event one m) (history events one)).met ≡ false
        → (go_on b (play event one m) (history events one)).machine.steps ≤ other
        → go_on (play event other m).met (play event other m) (history events other) ≡ go_on b (play event one m) (history events one)
    go true is grown first later met most = absurd (false≢true (sym met ∙ is))
    go false is grown first later met most =
        let same : play event other m ≡ play event one m = first is (omega (arith, grown, most)) in
        ap (λ (h : History). go_on h.met h (history events other)) same
        ∙ (ap (λ (b : Bool). go_on b (play event one m) (history events other)) is
        ∙ ap (behind (play event one m).records) (later met most))

-- .. goes through the same moments
ticks_through : (n one other : ℕ) (m : Machine) → (ticks n one m).met ≡ false → (ticks n one m).machine.steps ≤ other → tick_moments n other m ≡ tick_moments n one m
unfolding ticks tick_moments
ticks_through zero one other m unmet within = refl
ticks_through (suc n) one other m unmet within =
    go (is_some (actor m)) refl (m.steps == one) (m.steps == other) refl
    (ticks_grow n one (step m).machine) (λ met most. ticks_through n one other (step m).machine met most) unmet within
  where
    go : (a : Bool) → is_some (actor m) ≡ a → (b c : Bool) → (m.steps == other) ≡ c
        → (step m).machine.steps ≤ (ticks n one (step m).machine).machine.steps
        → ((ticks n one (step m).machine).met ≡ false → (ticks n one (step m).machine).machine.steps ≤ other
        → tick_moments n other (step m).machine ≡ tick_moments n one (step m).machine)
        → (if a then (if b then stopped m else behind (step m).records (ticks n one (step m).machine)) else reached (nothing (turn m))).met ≡ false
        → (if a then (if b then stopped m else behind (step m).records (ticks n one (step m).machine)) else reached (nothing (turn m))).machine.steps ≤ other
        → (if a then (if c then [] else moment_of ByStep m ∷ tick_moments n other (step m).machine) else moment_of ByTurn m ∷ [])
        ≡ (if a then (if b then [] else moment_of ByStep m ∷ tick_moments n one (step m).machine) else moment_of ByTurn m ∷ [])
    go false ready b c test grown later met most = refl
    go true ready true c test grown later met most = cc
    go true ready false true test grown later met most =
        let same : m.steps ≡ other = grind (arith, nat_tests) in
        absurd (omega (arith, same, grown, most, step_steps m ready))
    go true ready false false test grown later met most = ap (λ (ms : List Moment). moment_of ByStep m ∷ ms) (later met most)

event_through : (event : Event) (one other : ℕ) (m : Machine) → (play event one m).met ≡ false → (play event one m).machine.steps ≤ other
    → event_moments event other m ≡ event_moments event one m
unfolding play event_moments
event_through (Tick n) one other m unmet within = ticks_through n one other m unmet within
event_through (Pick pid tid) one other m unmet within = refl
event_through (Irq k) one other m unmet within = refl
event_through (Kill pid) one other m unmet within = refl

pub moments_same : (events : List Event) (one other : ℕ) (m : Machine) → (history events one m).met ≡ false
    → (history events one m).machine.steps ≤ other → moments_of events other m ≡ moments_of events one m
unfolding history moments_of
moments_same [] one other m unmet within = refl
moments_same (event ∷ events) one other m unmet within =
    go (play event one m).met refl (history_grows events one (play event one m).machine)
    (λ met most. play_same event one other m met most) (λ met most. event_through event one other m met most)
    (λ met most. moments_same events one other (play event one m).machine met most) unmet within
  where
    go : (b : Bool) → (play event one m).met ≡ b
        → (play event one m).machine.steps ≤ (history events one (play event one m).machine).machine.steps
        → ((play event one m).met ≡ false → (play event one m).machine.steps ≤ other → play event other m ≡ play event one m)
        → ((play event one m).met ≡ false → (play event one m).machine.steps ≤ other → event_moments event other m ≡ event_moments event one m)
        → ((history events one (play event one m).machine).met ≡ false → (history events one (play event one m).machine).machine.steps ≤ other
        → moments_of events other (play event one m).machine ≡ moments_of events one (play event one m).machine)
        → (go_on b (play event one m) (history events one)).met ≡ false
        → (go_on b (play event one m) (history events one)).machine.steps ≤ other
        → event_moments event other m ++ (if (play event other m).met then [] else moments_of events other (play event other m).machine)
        ≡ event_moments event one m ++ (if b then [] else moments_of events one (play event one m).machine)
    go true is grown first through later met most = absurd (false≢true (sym met ∙ is))
    go false is grown first through later met most =
        let same : play event other m ≡ play event one m = first is (omega (arith, grown, most)) in
        ap (λ (ms : List Moment). ms ++ (if (play event other m).met then [] else moments_of events other (play event other m).machine)) (through is (omega (arith, grown, most)))
        ∙ (ap (λ (h : History). event_moments event one m ++ (if h.met then [] else moments_of events other h.machine)) same
        ∙ (ap (λ (b : Bool). event_moments event one m ++ (if b then [] else moments_of events other (play event one m).machine)) is
        ∙ ap (λ (ms : List Moment). event_moments event one m ++ ms) (later met most)))

-- ---- a limit that is met, and a higher one

-- the records up to the lower limit come first
abbrev pub ComeFirst : History → History → Type 0
ComeFirst some all = (rest : List Rec) × (all.records ≡ some.records ++ rest)

first_behind : (records : List Rec) (some all : History) → ComeFirst some all → ComeFirst (behind records some) (behind records all)
first_behind records some all first =
    (first.0, ap (λ (l : List Rec). records ++ l) first.1 ∙ sym (append_assoc records some.records first.0))

ticks_first : (n done limit : ℕ) (m : Machine) → done ≤ limit → (ticks n done m).met ≡ true → m.steps ≤ done → ComeFirst (ticks n done m) (ticks n limit m)
unfolding ticks
ticks_first zero done limit m within met most = absurd (false≢true met)
ticks_first (suc n) done limit m within met most =
    go (is_some (actor m)) refl (m.steps == done) refl (m.steps == limit) refl
    (λ is far. ticks_first n done limit (step m).machine within is far) met
  where
    go : (a : Bool) → is_some (actor m) ≡ a → (b : Bool) → (m.steps == done) ≡ b → (c : Bool) → (m.steps == limit) ≡ c
        → ((ticks n done (step m).machine).met ≡ true → (step m).machine.steps ≤ done → ComeFirst (ticks n done (step m).machine) (ticks n limit (step m).machine))
        → (if a then (if b then stopped m else behind (step m).records (ticks n done (step m).machine)) else reached (nothing (turn m))).met ≡ true
        → ComeFirst (if a then (if b then stopped m else behind (step m).records (ticks n done (step m).machine)) else reached (nothing (turn m)))
        (if a then (if c then stopped m else behind (step m).records (ticks n limit (step m).machine)) else reached (nothing (turn m)))
    go false ready b test c other later is = absurd (false≢true is)
    go true ready true test c other later is = (_, refl)
    go true ready false test true other later is =
        let more : m.steps ≢ done = grind (arith, nat_tests) in
        let same : m.steps ≡ limit = grind (arith, nat_tests) in
        absurd (omega (arith, more, same, most, within))
    go true ready false test false other later is =
        let more : m.steps ≢ done = grind (arith, nat_tests) in
        first_behind (step m).records (ticks n done (step m).machine) (ticks n limit (step m).machine)
        (later is (omega (arith, more, most, step_steps m ready)))

play_first : (event : Event) (done limit : ℕ) (m : Machine) → done ≤ limit → (play event done m).met ≡ true → m.steps ≤ done
    → ComeFirst (play event done m) (play event limit m)
unfolding play
play_first (Tick n) done limit m within met most = ticks_first n done limit m within met most
play_first (Pick pid tid) done limit m within met most = absurd (false≢true met)
play_first (Irq k) done limit m within met most = absurd (false≢true met)
play_first (Kill pid) done limit m within met most = absurd (false≢true met)

-- what follows an event only adds to its records
first_followed : (some all : History) (next : Machine → History) → ComeFirst some all → ComeFirst some (go_on all.met all next)
first_followed some all next first = go all.met
  where
    go : (b : Bool) → ComeFirst some (go_on b all next)
    go true = first
    go false = (
      first.0 ++ (next all.machine).records,
      ap (λ (l : List Rec). l ++ (next all.machine).records) first.1 ∙ append_assoc some.records first.0 (next all.machine).records,
    )

history_first_by : (events : List Event) (done limit : ℕ) (m : Machine) → done ≤ limit → (history events done m).met ≡ true → m.steps ≤ done
    → ComeFirst (history events done m) (history events limit m)
unfolding history
history_first_by [] done limit m within met most = absurd (false≢true met)
history_first_by (event ∷ events) done limit m within met most =
    go (play event done m).met refl (λ is. play_first event done limit m within is most)
    (λ is far. play_same event done limit m is far)
    (λ is far. history_first_by events done limit (play event done m).machine within is far) met
  where
    go : (b : Bool) → (play event done m).met ≡ b
        → ((play event done m).met ≡ true → ComeFirst (play event done m) (play event limit m))
        → ((play event done m).met ≡ false → (play event done m).machine.steps ≤ limit → play event limit m ≡ play event done m)
        → ((history events done (play event done m).machine).met ≡ true → (play event done m).machine.steps ≤ done
        → ComeFirst (history events done (play event done m).machine) (history events limit (play event done m).machine))
        → (go_on b (play event done m) (history events done)).met ≡ true
        → ComeFirst (go_on b (play event done m) (history events done)) (go_on (play event limit m).met (play event limit m) (history events limit))
    go true is first same later met = first_followed (play event done m) (play event limit m) (history events limit) (first is)
    go false is first same later met =
        let grown = history_grows events done (play event done m).machine in
        let ends = history_met events done (play event done m).machine met in
        let far : (play event done m).machine.steps ≤ done = omega (arith, grown, ends) in
        let alike : play event limit m ≡ play event done m = same is (omega (arith, far, within)) in
        let A : History → Type 0 = λ h. ComeFirst (behind (play event done m).records (history events done (play event done m).machine)) (go_on h.met h (history events limit)) in
        let B : Bool → Type 0 = λ b. ComeFirst (behind (play event done m).records (history events done (play event done m).machine)) (go_on b (play event done m) (history events limit)) in
        subst A (sym alike)
        (subst B (sym is)
        (first_behind (play event done m).records (history events done (play event done m).machine) (history events limit (play event done m).machine)
        (later met far)))

-- the records of a history up to a limit that it meets are the first records of the same up to a higher limit
pub met_records_first : (events : List Event) (done limit : ℕ) (m : Machine) → done ≤ limit → (history events done m).met ≡ true
    → (rest : List Rec) × ((history events limit m).records ≡ (history events done m).records ++ rest)
met_records_first events done limit m within met =
    let grown = history_grows events done m in
    let ends = history_met events done m met in
    history_first_by events done limit m within met (omega (arith, grown, ends))
