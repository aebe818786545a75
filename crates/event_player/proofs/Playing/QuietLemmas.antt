-- Quiet steps of a tick: its history and its states are those of what is left of it after them.
use Rattle.std.proofs.Common.{◌≡◌, ◌≢◌, ◌+◌, ◌-◌, ◌≤◌, ◌∙◌, ℕ, zero, suc, Bool, true, false, List, [], Option, Some, None, is_some, refl, sym, ap, subst, arith}
use Rattle.std.specs.Prelude.{◌&&◌, if◌then◌else◌}
use Rattle.std.specs.Option.{option_map_or}
use Rattle.std.proofs.lemmas.Bool.{and_parts, false≢true}
use Rattle.xk_base.specs.declared.events.Event.TheVariants.{Tick}
use Rattle.machine_model.specs.State.Machine.{Machine, Thread}
use Rattle.machine_model.specs.State.Order.{actor, next_ready, ready_at}
use Rattle.machine_model.specs.Stepping.Step.{Recorded, step}
use Rattle.xk_base.specs.declared.records.Rec.{Rec}
use Rattle.machine_laws.specs.History as kernel
use Rattle.machine_laws.specs.History.{play}
use Rattle.machine_laws.specs.HistoryMoments.{event_moments}
use Rattle.xk_kernel.specs.Quiet.{GoesQuietly, is_quiet, thread_goes_on, timer_rests}
use Rattle.xk_kernel.proofs.Quieting.QuietStepLemmas.{quiet_parts, quiet_step_is}
use Rattle.machine_laws.proofs.Histories.HistoryLemmas.{tick_steps}
use Rattle.machine_laws.proofs.Histories.LimitLemmas.{step_steps}
use Rattle.event_player.specs.Rooms.{ComesFull, Room}
use Rattle.event_player.proofs.Playing.FullLemmas.{tick_full}

-- ---- the machine

-- a quiet step is a step, and leaves no record
pub record IsSilent (m : Machine) : Type 0 where
  pub actor : is_some (actor m) ≡ true
  pub records : (step m).records ≡ []

pub quiet_silent : (m : Machine) → is_quiet m ≡ true → IsSilent m
unfolding is_quiet actor
quiet_silent m quiet = go (m.threads m.cursor) refl
  where
    whole : (ready_at m m.cursor ≡ true) × ((timer_rests m && option_map_or (thread_goes_on m) (m.threads m.cursor) false) ≡ true)
    whole = and_parts (ready_at m m.cursor) (timer_rests m && option_map_or (thread_goes_on m) (m.threads m.cursor) false) quiet

    acts : is_some (if ready_at m m.cursor then Some m.cursor else next_ready m m.cursor) ≡ true
    acts = ap (λ (b : Bool). is_some (if b then Some m.cursor else next_ready m m.cursor)) whole.0

    go : (o : Option Thread) → m.threads m.cursor ≡ o → IsSilent m
    go None none =
        let rest = and_parts (timer_rests m) (option_map_or (thread_goes_on m) (m.threads m.cursor) false) whole.1 in
        absurd (false≢true (sym (ap (λ (o : Option Thread). option_map_or (thread_goes_on m) o false) none) ∙ rest.1))
    go (Some t) there = record {
      actor = acts;
      records = ap (λ (s : Recorded). s.records) (quiet_step_is m t there (quiet_parts m t there quiet));
    }

-- each counts one
pub quiet_counts : (done : ℕ) (m new : Machine) → GoesQuietly done m new → new.steps ≡ m.steps + done
quiet_counts zero m new goes =
    let same : new.steps ≡ m.steps = ap (λ (x : Machine). x.steps) goes in omega (arith, same)
quiet_counts (suc done) m new goes =
    let one : (step m).machine.steps ≡ m.steps + 1 = step_steps m (quiet_silent m goes.0).actor in
    let rest = quiet_counts done (step m).machine new goes.1 in
    omega (arith, one, rest)

-- ---- the history of the tick

-- after quiet steps below the limit, what is left of the tick is all that is told of it
pub quiet_tick : (done n limit : ℕ) (m new : Machine) → GoesQuietly done m new → done ≤ n → m.steps + done ≤ limit
    → play (Tick n) limit m ≡ play (Tick (n - done)) limit new
quiet_tick zero n limit m new goes within below =
    let all : n ≡ n - 0 = omega arith in
    ap (λ (x : Machine). play (Tick n) limit x) (sym goes) ∙ ap (λ (k : ℕ). play (Tick k) limit new) all
quiet_tick (suc done) n limit m new goes within below =
    let silent = quiet_silent m goes.0 in
    let some : 1 ≤ n = omega (arith, within) in
    let more : m.steps ≢ limit = λ e. absurd (omega (arith, e, below)) in
    let one : (step m).machine.steps ≡ m.steps + 1 = step_steps m silent.actor in
    let left : (n - 1) - done ≡ n - suc done = omega arith in
    tick_steps n limit m some silent.actor more
    ∙ (ap (λ (rs : List Rec). kernel.behind rs (play (Tick (n - 1)) limit (step m).machine)) silent.records
    ∙ (quiet_tick done (n - 1) limit (step m).machine new goes.1 (omega (arith, within)) (omega (arith, below, one))
    ∙ ap (λ (k : ℕ). play (Tick k) limit new) left))

-- ---- its states

-- those of what is left are among those of the tick
pub quiet_full : (room : Room) (done n limit : ℕ) (m new : Machine) → GoesQuietly done m new → done ≤ n → m.steps + done ≤ limit
    → ComesFull room new (event_moments (Tick (n - done)) limit new) → ComesFull room m (event_moments (Tick n) limit m)
quiet_full room zero n limit m new goes within below full =
    let all : n - 0 ≡ n = omega arith in
    let A : ℕ → Type 0 = λ k. ComesFull room new (event_moments (Tick k) limit new) in
    let B : Machine → Type 0 = λ x. ComesFull room x (event_moments (Tick n) limit x) in
    subst B goes (subst A all full)
quiet_full room (suc done) n limit m new goes within below full =
    let silent = quiet_silent m goes.0 in
    let some : 1 ≤ n = omega (arith, within) in
    let more : m.steps ≢ limit = λ e. absurd (omega (arith, e, below)) in
    let one : (step m).machine.steps ≡ m.steps + 1 = step_steps m silent.actor in
    let left : n - suc done ≡ (n - 1) - done = omega arith in
    let A : ℕ → Type 0 = λ k. ComesFull room new (event_moments (Tick k) limit new) in
    tick_full room n limit m some silent.actor more
    (quiet_full room done (n - 1) limit (step m).machine new goes.1 (omega (arith, within)) (omega (arith, below, one)) (subst A left full))
