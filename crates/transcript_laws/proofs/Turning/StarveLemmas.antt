-- A thread that spins is picked again and again, and another never has a turn.
use Rattle.std.proofs.Common.{◌≡◌, ℕ, zero, suc, ◌+◌, ◌≤◌, Bool, true, false, List, [], ◌∷◌, ◌++◌, replicate, Option, Some, None, refl, sym, ap, ◌∙◌, subst, arith}
use Rattle.std.specs.Prelude.{◌==◌, if◌then◌else◌, is_some, slice_get}
use Rattle.std.specs.Option.{option_map, option_map_or}
use Rattle.std.proofs.lemmas.Bool.{eqb-true}
use Rattle.std.proofs.lemmas.Option.{none-some, same_Some, slice_get_past}
use Rattle.xk_base.specs.declared.events.Event.TheVariants.{Pick, Tick}
use Rattle.xk_base.specs.declared.ids.ThreadId.{ThreadId}
use Rattle.machine_laws.specs.History.{History, behind, followed_by, history, play, reached, stopped, ticks}
use Rattle.machine_laws.specs.HistoryMoments.{event_moments, moments_of, tick_moments}
use Rattle.machine_laws.specs.Interleaving.{picks_and_ticks}
use Rattle.machine_laws.proofs.Histories.HistoryLemmas.{history_first}
use Rattle.machine_model.specs.Hart.Atomics.{execute_at}
use Rattle.machine_model.specs.Hart.Instructions.{Next}
use Rattle.machine_model.specs.Runs.Moments.{ByPick, ByStep, ByTurn, Moment, moment_of, state_at}
use Rattle.machine_model.specs.State.Changes.{Told}
use Rattle.machine_model.specs.State.Machine.{Machine, Thread}
use Rattle.machine_model.specs.State.Order.{actor, is_ready, ready_at, turn}
use Rattle.machine_model.specs.State.Threads.{change_thread, with_registers}
use Rattle.machine_model.specs.State.Views.{memory_of}
use Rattle.machine_model.specs.Stepping.Acts.{executes}
use Rattle.machine_model.specs.Stepping.Events.{nothing, picked}
use Rattle.machine_model.specs.Stepping.Reservations.{reserved_by}
use Rattle.machine_model.specs.Stepping.Step.{Recorded, counted, performed, reservation_left, step}
use Rattle.machine_model.specs.Stepping.Timer.{timed}
use Rattle.machine_model.proofs.Runs.TimerLemmas.{timed_unarmed}
use Rattle.machine_laws.proofs.Stepping.StepKindLemmas.{acted_as_executed}
use Rattle.machine_laws.proofs.Threading.ThreadAnswerLemmas.{same_thread-self}
use Rattle.machine_laws.proofs.Threading.ThreadStepLemmas.{step_of_thread, turned_to}
use Rattle.transcript_laws.specs.Turns.{HasTurn, IsAtRisk, IsStarvedBy, picks_of}

-- ---- one step

module _ (who other : ThreadId) (m : Machine) (risk : IsAtRisk who other m) where
  abbrev t : Thread
  t = risk.spins.thread

  pub spinner_ready : ready_at m who ≡ true
  spinner_ready =
      ap (λ o. option_map_or (λ (x : Thread). is_ready x.state) o false) risk.spins.there ∙ ap is_ready risk.spins.ready

  abbrev at : Machine
  at = turned_to who m

  pub has_turn : actor at ≡ Some who
  unfolding actor
  has_turn = rw spinner_ready refl

  spins_on : executes m who t ≡ Some (Next t.regs t.pc)
  spins_on =
      (λ i. if risk.spins.thread_goes_on i then None else (if risk.spins.handler_goes_on i then None else Some (performed m who t).executed))
      ∙ ap Some (risk.spins.jumps (reserved_by who m.reserved) m.steps)

  -- what the step leaves
  abbrev left : Machine
  left = record (change_thread who (with_registers t.regs t.pc) at) { steps = m.steps + 1; reserved = reservation_left at t }

  stepped : (step at).machine ≡ left
  stepped =
      step_of_thread at who t has_turn risk.spins.there
      ∙ (ap (λ (done : Told). (timed (counted at (Some t) done)).machine) (acted_as_executed m who t (Next t.regs t.pc) spins_on)
      ∙ ap (λ (done : Told). done.machine)
      (timed_unarmed (record { machine = left; told = [] }) risk.unarmed))

  left_itself : left.threads who ≡ Some t
  left_itself =
      ap (λ b. if b then option_map (with_registers t.regs t.pc) (m.threads who) else m.threads who) (same_thread-self who)
      ∙ ap (option_map (with_registers t.regs t.pc)) risk.spins.there

  left_other : left.threads other ≡ m.threads other
  left_other = ap (λ b. if b then option_map (with_registers t.regs t.pc) (m.threads who) else m.threads other) risk.apart

  same_memory : (steps : ℕ) → memory_of (record left { steps = steps }) who.pid ≡ memory_of (record m { steps = steps }) who.pid
  unfolding memory_of
  same_memory steps = refl

  -- so it goes on
  left_risk : IsAtRisk who other left
  left_risk = record {
    spins = record {
      thread = t;
      there = left_itself;
      ready = risk.spins.ready;
      thread_goes_on = risk.spins.thread_goes_on;
      handler_goes_on = risk.spins.handler_goes_on;
      jumps = λ reserved steps.
          ap (λ memory. (execute_at t.regs t.pc reserved memory).executed) (same_memory steps) ∙ risk.spins.jumps reserved steps;
    };
    unarmed = risk.unarmed;
    ready = ap (λ o. option_map_or (λ (x : Thread). is_ready x.state) o false) left_other ∙ risk.ready;
    apart = risk.apart;
  }

  pub step_risk : IsAtRisk who other (step at).machine
  step_risk = subst (IsAtRisk who other) (sym stepped) left_risk

  pub step_counts : (step at).machine.steps ≡ m.steps + 1
  step_counts = ap (λ (x : Machine). x.steps) stepped

-- where the cursor stands makes no difference
turned_risk : (who other c : ThreadId) (m : Machine) → IsAtRisk who other m → IsAtRisk who other (turned_to c m)
unfolding memory_of
turned_risk who other c m risk = record {
  spins = record {
    thread = risk.spins.thread;
    there = risk.spins.there;
    ready = risk.spins.ready;
    thread_goes_on = risk.spins.thread_goes_on;
    handler_goes_on = risk.spins.handler_goes_on;
    jumps = risk.spins.jumps;
  };
  unarmed = risk.unarmed;
  ready = risk.ready;
  apart = risk.apart;
}

turn_risk : (who other : ThreadId) (m : Machine) → IsAtRisk who other m → IsAtRisk who other (turn m)
unfolding turn
turn_risk who other m risk = turned_risk who other _ m risk

-- ---- the moments of a pick and its tick

abbrev after : ThreadId → Machine → Machine
after who m = turn (step (turned_to who m)).machine

module _ (who : ThreadId) (later : List ThreadId) (limit : ℕ) (m : Machine) (ready : ready_at m who ≡ true) (acts : actor (turned_to who m) ≡ Some who)
    (more : (m.steps == limit) ≡ false) where
  abbrev at_who : Machine
  at_who = turned_to who m

  picked_is : picked who m ≡ nothing at_who
  unfolding picked
  picked_is = rw ready refl

  tick_is : play (Tick 1) limit at_who ≡ behind (step at_who).records (reached (nothing (after who m)))
  unfolding play ticks
  tick_is =
      ap (λ (a : Option ThreadId). if is_some a then (if m.steps == limit then stopped at_who else behind (step at_who).records (ticks 0 limit (step at_who).machine)) else reached (nothing (turn at_who))) acts
      ∙ ap (λ b. if b then stopped at_who else behind (step at_who).records (ticks 0 limit (step at_who).machine)) more

  tick_moments_are : event_moments (Tick 1) limit at_who ≡ moment_of ByStep at_who ∷ moment_of ByTurn (step at_who).machine ∷ []
  unfolding event_moments tick_moments
  tick_moments_are =
      ap (λ (a : Option ThreadId). if is_some a then (if m.steps == limit then [] else moment_of ByStep at_who ∷ tick_moments 0 limit (step at_who).machine) else moment_of ByTurn at_who ∷ []) acts
      ∙ ap (λ b. if b then [] else moment_of ByStep at_who ∷ tick_moments 0 limit (step at_who).machine) more

  rest_of : moments_of (Tick 1 ∷ picks_and_ticks later) limit at_who
      ≡ moment_of ByStep at_who ∷ moment_of ByTurn (step at_who).machine ∷ moments_of (picks_and_ticks later) limit (after who m)
  unfolding moments_of
  rest_of =
      ap (λ xs. xs ++ (if (play (Tick 1) limit at_who).met then [] else moments_of (picks_and_ticks later) limit (play (Tick 1) limit at_who).machine)) tick_moments_are
      ∙ ap (λ (h : History). moment_of ByStep at_who ∷ moment_of ByTurn (step at_who).machine ∷ (if h.met then [] else moments_of (picks_and_ticks later) limit h.machine)) tick_is

  pub turn_moments : moments_of (picks_and_ticks (who ∷ later)) limit m
      ≡ moment_of (ByPick who) m ∷ moment_of ByStep at_who ∷ moment_of ByTurn (step at_who).machine ∷ moments_of (picks_and_ticks later) limit (after who m)
  unfolding moments_of picks_and_ticks event_moments play
  turn_moments =
      ap (λ (p : Recorded). moment_of (ByPick who) m ∷ moments_of (Tick 1 ∷ picks_and_ticks later) limit p.machine) picked_is
      ∙ ap (λ xs. moment_of (ByPick who) m ∷ xs) rest_of

  pub turn_history : (history (picks_and_ticks (who ∷ later)) limit m).machine.steps ≡ (history (picks_and_ticks later) limit (after who m)).machine.steps
  unfolding picks_and_ticks play
  turn_history =
      ap (λ (h : History). h.machine.steps) (history_first (Pick who.pid who.tid) (Tick 1 ∷ picks_and_ticks later) limit m)
      ∙ (ap (λ (p : Recorded). (history (Tick 1 ∷ picks_and_ticks later) limit p.machine).machine.steps) picked_is
      ∙ (ap (λ (h : History). h.machine.steps) (history_first (Tick 1) (picks_and_ticks later) limit at_who)
      ∙ ap (λ (h : History). (followed_by h (history (picks_and_ticks later) limit)).machine.steps) tick_is))

-- ---- all

module _ (who other : ThreadId) where
  starved_none : (m : Machine) → ready_at m other ≡ true → IsStarvedBy who other m []
  unfolding state_at
  starved_none m ready = record {
    ready = λ i. at i;
    steps = λ i moment there cause. absurd (none-some moment (sym (slice_get_past [] i (omega arith)) ∙ there));
  }
    where
      at : (i : ℕ) → ready_at (state_at m [] i) other ≡ true
      at zero = ready
      at (suc i) = ready

  starved_first : (m : Machine) (moment : Moment) (moments : List Moment) → ready_at m other ≡ true → (moment.cause ≡ ByStep → HasTurn who m)
      → IsStarvedBy who other moment.machine moments → IsStarvedBy who other m (moment ∷ moments)
  unfolding state_at
  starved_first m moment moments ready own later = record { ready = at; steps = steps }
    where
      at : (i : ℕ) → ready_at (state_at m (moment ∷ moments) i) other ≡ true
      at zero = ready
      at (suc i) = later.ready i

      steps : (i : ℕ) (this : Moment) → slice_get (moment ∷ moments) i ≡ Some this → this.cause ≡ ByStep → HasTurn who (state_at m (moment ∷ moments) i)
      steps zero this there cause = own (ap (λ (x : Moment). x.cause) (same_Some moment this there) ∙ cause)
      steps (suc i) this there cause = later.steps i this there cause

  pub starve : (n limit : ℕ) (m : Machine) → IsAtRisk who other m → m.steps + n ≤ limit → IsStarvedBy who other m (moments_of (picks_and_ticks (replicate n who)) limit m)
  unfolding moments_of picks_and_ticks picked
  starve zero limit m risk within = starved_none m risk.ready
  starve (suc n) limit m risk within =
      subst (IsStarvedBy who other m) (sym (turn_moments who (replicate n who) limit m (spinner_ready who other m risk) (has_turn who other m risk) more))
      (starved_first m (moment_of (ByPick who) m) _ risk.ready (λ e. absurd (let q : ByPick who ≡ ByStep = e in cc))
      (subst (λ (x : Machine). IsStarvedBy who other x (moment_of ByStep (turned_to who m) ∷ moment_of ByTurn (step (turned_to who m)).machine ∷ moments_of (picks_and_ticks (replicate n who)) limit (after who m))) (sym (ap (λ (p : Recorded). p.machine) (picked_is who (replicate n who) limit m (spinner_ready who other m risk) (has_turn who other m risk) more)))
      (starved_first (turned_to who m) (moment_of ByStep (turned_to who m)) _ risk.ready (λ e. has_turn who other m risk)
      (starved_first (step (turned_to who m)).machine (moment_of ByTurn (step (turned_to who m)).machine) _ (step_risk who other m risk).ready
      (λ e. absurd (let q : ByTurn ≡ ByStep = e in cc))
      (starve n limit (after who m) (turn_risk who other (step (turned_to who m)).machine (step_risk who other m risk)) rest)))))
    where
      more : (m.steps == limit) ≡ false
      more = go (m.steps == limit) refl
        where
          go : (b : Bool) → (m.steps == limit) ≡ b → b ≡ false
          go false e = refl
          go true e = let same : m.steps ≡ limit = eqb-true m.steps limit e in absurd (omega (arith, within, same))

      rest : (after who m).steps + n ≤ limit
      rest = unfold turn in (let same : (step (turned_to who m)).machine.steps ≡ m.steps + 1 = step_counts who other m risk in omega (arith, within, same))

  pub starve_steps : (n limit : ℕ) (m : Machine) → IsAtRisk who other m → m.steps + n ≤ limit
      → (history (picks_and_ticks (replicate n who)) limit m).machine.steps ≡ m.steps + n
  unfolding picks_and_ticks history
  starve_steps zero limit m risk within = omega arith
  starve_steps (suc n) limit m risk within =
      let same : (step (turned_to who m)).machine.steps ≡ m.steps + 1 = step_counts who other m risk in
      let later : (history (picks_and_ticks (replicate n who)) limit (after who m)).machine.steps ≡ (after who m).steps + n =
      starve_steps n limit (after who m) (turn_risk who other (step (turned_to who m)).machine (step_risk who other m risk)) rest in
      let first : (history (picks_and_ticks (who ∷ replicate n who)) limit m).machine.steps ≡ (history (picks_and_ticks (replicate n who)) limit (after who m)).machine.steps =
      turn_history who (replicate n who) limit m (spinner_ready who other m risk) (has_turn who other m risk) more in
      first ∙ (later ∙ counts same)
    where
      more : (m.steps == limit) ≡ false
      more = go (m.steps == limit) refl
        where
          go : (b : Bool) → (m.steps == limit) ≡ b → b ≡ false
          go false e = refl
          go true e = let same : m.steps ≡ limit = eqb-true m.steps limit e in absurd (omega (arith, within, same))

      after_steps : (after who m).steps ≡ (step (turned_to who m)).machine.steps
      after_steps = unfold turn in refl

      rest : (after who m).steps + n ≤ limit
      rest = let same : (step (turned_to who m)).machine.steps ≡ m.steps + 1 = step_counts who other m risk in omega (arith, within, same, after_steps)

      counts : (step (turned_to who m)).machine.steps ≡ m.steps + 1 → (after who m).steps + n ≡ m.steps + suc n
      counts same = omega (arith, same, after_steps)

pub picks_starve : (n limit : ℕ) (m : Machine) (who other : ThreadId) → IsAtRisk who other m → m.steps + n ≤ limit
    → IsStarvedBy who other m (moments_of (picks_of who n) limit m)
picks_starve n limit m who other risk within = starve who other n limit m risk within

pub starving_steps : (n limit : ℕ) (m : Machine) (who other : ThreadId) → IsAtRisk who other m → m.steps + n ≤ limit
    → (history (picks_of who n) limit m).machine.steps ≡ m.steps + n
starving_steps n limit m who other risk within = starve_steps who other n limit m risk within
