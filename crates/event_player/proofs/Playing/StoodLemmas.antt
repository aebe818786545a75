-- The kernels of a run, from one of its parts to the next: there was one at each state.
use Rattle.xk_ports.specs.declared.store.SwapStore.{Ghosts as SwapStore}
use Rattle.std.proofs.Common.{◌≡◌, ◌≢◌, ◌+◌, ◌-◌, ◌==◌, ◌≤◌, ℕ, zero, suc, Bool, true, false, List, [], ◌∷◌, ◌++◌, length, is_some, refl, sym, subst, append-nil, arith}
use Rattle.std.specs.Prelude.{if◌then◌else◌}
use Rattle.std.proofs.lemmas.Bool.Decides.{nat_tests}
use Rattle.xk_base.specs.declared.events.Event.{Event}
use Rattle.xk_base.specs.declared.events.Event.TheVariants.{Tick, Pick, Irq, Kill}
use Rattle.xk_base.specs.declared.ids.Pid.{Pid}
use Rattle.xk_base.specs.declared.ids.Tid.{Tid}
use Rattle.machine_model.specs.Runs.Moments.{ByIrq, ByKill, ByPick, ByStep, ByTurn, Moment, state_at, moment_of}
use Rattle.machine_model.specs.State.Machine.{Machine}
use Rattle.machine_model.specs.State.Order.{actor, turn}
use Rattle.machine_model.specs.Stepping.Step.{step}
use Rattle.machine_laws.specs.History.{history, play}
use Rattle.machine_laws.specs.HistoryMoments.{event_moments, moments_of, tick_moments}
use Rattle.machine_laws.proofs.Histories.LimitLemmas.{step_steps}
use Rattle.machine_laws.proofs.Histories.MomentLemmas.{history_last, moments_append}
use Rattle.vm_memory.proofs.Changing.SoundMemoryLemmas.{sound-tied}
use Rattle.xk_kernel.specs.Moments.{Stood, Throughout}
use Rattle.xk_kernel.specs.Quiet.{GoesQuietly}
use Rattle.xk_kernel.specs.Sound.{IsSound, IsUsable, Keeps}
use Rattle.xk_kernel.specs.State.{machine_of}
use Rattle.xk_kernel.specs.Stepping.{event_done}
use Rattle.xk_kernel.specs.declared.kernel.Kernel.{Kernel}
use Rattle.event_player.proofs.Playing.FullLemmas.{tick_is}
use Rattle.event_player.proofs.Playing.KeptLemmas.{kept_after, kept_same}
use Rattle.event_player.proofs.Playing.QuietLemmas.{quiet_silent}

-- ---- a kernel

-- a sound kernel stands at its machine
pub stood_there : {W : Type 0} {S : SwapStore W} {first k : Kernel W} (machine : Machine) → Keeps S first k → IsSound S k → IsUsable k
    → machine_of S.held k ≡ machine → Stood S first machine
stood_there {S = S} {k = k} machine keeps sound usable is = record {
  kernel = k;
  keeps = keeps;
  sound = sound;
  usable = usable;
  is = is;
  tied = sound-tied S k.mem sound.whole.mem;
}

pub stood_here : {W : Type 0} {S : SwapStore W} {k : Kernel W} → IsSound S k → IsUsable k → Stood S k (machine_of S.held k)
stood_here {S = S} {k = k} sound usable = stood_there (machine_of S.held k) (kept_same k) sound usable refl

-- one that stood since a later kernel did so since the first
pub stood_since : {W : Type 0} {S : SwapStore W} {first mid : Kernel W} → Keeps S first mid → (machine : Machine) → Stood S mid machine → Stood S first machine
stood_since keeps machine stood = record {
  kernel = stood.kernel;
  keeps = kept_after keeps stood.keeps;
  sound = stood.sound;
  usable = stood.usable;
  is = stood.is;
  tied = stood.tied;
}

-- ---- the moments of a tick without a step

met_moments : (n limit : ℕ) (m : Machine) → 1 ≤ n → is_some (actor m) ≡ true → m.steps ≡ limit → event_moments (Tick n) limit m ≡ []
unfolding event_moments tick_moments
met_moments zero limit m some ready met = absurd (omega (arith, some))
met_moments (suc n) limit m some ready met =
    let same : (m.steps == limit) ≡ true = grind (arith, nat_tests) in rw (ready, same) refl

pub over_moments : (n limit : ℕ) (m : Machine) → n ≡ 0 → event_moments (Tick n) limit m ≡ moment_of ByTurn m ∷ []
unfolding event_moments tick_moments
over_moments zero limit m none = refl
over_moments (suc n) limit m none = absurd (omega (arith, none))

pub idle_turn : (n limit : ℕ) (m : Machine) → is_some (actor m) ≡ false → event_moments (Tick n) limit m ≡ moment_of ByTurn m ∷ []
unfolding event_moments tick_moments
idle_turn zero limit m idle = refl
idle_turn (suc n) limit m idle = rw idle refl

-- ---- throughout a list of moments

module _ (P : Machine → Type 0) where
  pub through_none : (start : Machine) → P start → Throughout P start []
  unfolding state_at
  through_none start here zero = here
  through_none start here (suc i) = here

  pub through_first : (start : Machine) (moment : Moment) (moments : List Moment) → P start → Throughout P moment.machine moments → Throughout P start (moment ∷ moments)
  unfolding state_at
  through_first start moment moments here later zero = here
  through_first start moment moments here later (suc i) = later i

  pub through_one : (start : Machine) (moment : Moment) → P start → P moment.machine → Throughout P start (moment ∷ [])
  through_one start moment here next = through_first start moment [] here (through_none moment.machine next)

  pub through_start : (start : Machine) (moments : List Moment) → Throughout P start moments → P start
  unfolding state_at
  through_start start moments through = through 0

  pub through_append : (start : Machine) (before after : List Moment) → Throughout P start before → Throughout P (state_at start before (length before)) after
      → Throughout P start (before ++ after)
  unfolding state_at
  through_append start [] after first second i = second i
  through_append start (moment ∷ before) after first second zero = first 0
  through_append start (moment ∷ before) after first second (suc i) =
      through_append moment.machine before after (λ j. first (suc j)) second i

  -- ---- a tick

  -- where a step of it is done
  pub through_step : (n limit : ℕ) (m : Machine) → 1 ≤ n → is_some (actor m) ≡ true → m.steps ≢ limit → P m
      → Throughout P (step m).machine (event_moments (Tick (n - 1)) limit (step m).machine) → Throughout P m (event_moments (Tick n) limit m)
  through_step n limit m some ready more here later =
      subst (Throughout P m) (sym (tick_is n limit m some ready more))
      (through_first m (moment_of ByStep m) (event_moments (Tick (n - 1)) limit (step m).machine) here later)

  -- .. and leads to this machine
  pub through_step_to : (n limit : ℕ) (m next : Machine) → 1 ≤ n → is_some (actor m) ≡ true → m.steps ≢ limit → P m → next ≡ (step m).machine
      → Throughout P next (event_moments (Tick (n - 1)) limit next) → Throughout P m (event_moments (Tick n) limit m)
  through_step_to n limit m next some ready more here there later =
      let A : Machine → Type 0 = λ x. Throughout P x (event_moments (Tick (n - 1)) limit x) in
      through_step n limit m some ready more here (subst A there later)

  -- where the limit is met
  pub through_met : (n limit : ℕ) (m : Machine) → 1 ≤ n → is_some (actor m) ≡ true → m.steps ≡ limit → P m → Throughout P m (event_moments (Tick n) limit m)
  through_met n limit m some ready met here = subst (Throughout P m) (sym (met_moments n limit m some ready met)) (through_none m here)

  -- where its turn ends
  pub through_turn : (n limit : ℕ) (m next : Machine) → event_moments (Tick n) limit m ≡ moment_of ByTurn m ∷ [] → P m → next ≡ turn m → P next
      → Throughout P m (event_moments (Tick n) limit m)
  through_turn n limit m next is here turned there =
      subst (Throughout P m) (sym is) (through_one m (moment_of ByTurn m) here (subst P turned there))

  -- quiet steps below the limit, and what is left of the tick
  pub through_quiet : (done n limit : ℕ) (m new : Machine) → GoesQuietly done m new → done ≤ n → m.steps + done ≤ limit
      → ((k : ℕ) (x : Machine) → k ≤ done → GoesQuietly k m x → P x)
      → Throughout P new (event_moments (Tick (n - done)) limit new) → Throughout P m (event_moments (Tick n) limit m)
  through_quiet zero n limit m new goes within below stood later =
      let all : n - 0 ≡ n = omega arith in
      let A : ℕ → Type 0 = λ k. Throughout P new (event_moments (Tick k) limit new) in
      let B : Machine → Type 0 = λ x. Throughout P x (event_moments (Tick n) limit x) in
      subst B goes (subst A all later)
  through_quiet (suc done) n limit m new goes within below stood later =
      let silent = quiet_silent m goes.0 in
      let some : 1 ≤ n = omega (arith, within) in
      let more : m.steps ≢ limit = λ e. absurd (omega (arith, e, below)) in
      let one : (step m).machine.steps ≡ m.steps + 1 = step_steps m silent.actor in
      let left : n - suc done ≡ (n - 1) - done = omega arith in
      let A : ℕ → Type 0 = λ k. Throughout P new (event_moments (Tick k) limit new) in
      through_step n limit m some silent.actor more (stood 0 m (omega arith) refl)
      (through_quiet done (n - 1) limit (step m).machine new goes.1 (omega (arith, within)) (omega (arith, below, one))
      (λ k x few steps. stood (suc k) x (omega (arith, few)) (goes.0, steps)) (subst A left later))

  -- ---- an event without steps

  pub through_pick : (pid : Pid) (tid : Tid) (limit : ℕ) (m next : Machine) → P m → next ≡ (event_done (Pick pid tid) m).machine → P next
      → Throughout P m (event_moments (Pick pid tid) limit m)
  unfolding event_moments
  through_pick pid tid limit m next here is there = through_one m (moment_of (ByPick (record { pid = pid; tid = tid })) m) here (subst P is there)

  pub through_irq : (k limit : ℕ) (m next : Machine) → P m → next ≡ (event_done (Irq k) m).machine → P next → Throughout P m (event_moments (Irq k) limit m)
  unfolding event_moments
  through_irq k limit m next here is there = through_one m (moment_of (ByIrq k) m) here (subst P is there)

  pub through_kill : (pid : Pid) (limit : ℕ) (m next : Machine) → P m → next ≡ (event_done (Kill pid) m).machine → P next
      → Throughout P m (event_moments (Kill pid) limit m)
  unfolding event_moments
  through_kill pid limit m next here is there = through_one m (moment_of (ByKill pid) m) here (subst P is there)

  -- ---- events in order

  pub through_events : (limit : ℕ) (start m : Machine) (before after : List Event) → (history before limit start).met ≡ false
      → (history before limit start).machine ≡ m → Throughout P start (moments_of before limit start) → Throughout P m (moments_of after limit m)
      → Throughout P start (moments_of (before ++ after) limit start)
  through_events limit start m before after unmet there first second =
      let rest : Bool → List Moment = λ b. if b then [] else moments_of after limit (history before limit start).machine in
      let A : Machine → Type 0 = λ x. Throughout P x (moments_of after limit x) in
      let B : Bool → Type 0 = λ b. Throughout P (history before limit start).machine (rest b) in
      let C : Machine → Type 0 = λ x. Throughout P x (rest (history before limit start).met) in
      subst (Throughout P start) (sym (moments_append before after limit start))
      (through_append start (moments_of before limit start) (rest (history before limit start).met) first
      (subst C (sym (history_last before limit start)) (subst B (sym unmet) (subst A (sym there) second))))

  pub through_no_events : (limit : ℕ) (start : Machine) → P start → Throughout P start (moments_of [] limit start)
  unfolding moments_of
  through_no_events limit start here = through_none start here

  -- an event at which the history ends
  pub through_last : (limit : ℕ) (m : Machine) (event : Event) (events : List Event) → (play event limit m).met ≡ true
      → Throughout P m (event_moments event limit m) → Throughout P m (moments_of (event ∷ events) limit m)
  unfolding moments_of
  through_last limit m event events met through =
      let rest : Bool → List Moment = λ b. if b then [] else moments_of events limit (play event limit m).machine in
      let A : Bool → Type 0 = λ b. Throughout P m (event_moments event limit m ++ rest b) in
      subst A (sym met) (subst (Throughout P m) (sym (append-nil (event_moments event limit m))) through)

  -- .. and one without more behind it
  pub through_event : (limit : ℕ) (m : Machine) (event : Event) → Throughout P m (event_moments event limit m) → Throughout P m (moments_of (event ∷ []) limit m)
  unfolding moments_of
  through_event limit m event through = go (play event limit m).met
    where
      go : (b : Bool) → Throughout P m (event_moments event limit m ++ (if b then [] else []))
      go true = subst (Throughout P m) (sym (append-nil (event_moments event limit m))) through
      go false = subst (Throughout P m) (sym (append-nil (event_moments event limit m))) through
