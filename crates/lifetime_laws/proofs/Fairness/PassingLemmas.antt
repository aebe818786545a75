-- By ticks of one step, a thread whose call is retried passes over another that is Ready, again and again.
use Rattle.std.proofs.Common.{◌≡◌, ℕ, zero, suc, ◌+◌, ◌≤◌, Bool, true, false, List, [], ◌∷◌, ◌++◌, Option, Some, None, refl, sym, ap, ◌∙◌, subst, arith}
use Rattle.std.specs.Prelude.{◌==◌, if◌then◌else◌, is_some, slice_get, unwrap_or}
use Rattle.std.specs.Option.{option_map_or}
use Rattle.std.proofs.lemmas.Bool.{eqb-true}
use Rattle.std.proofs.lemmas.Option.{none-some, same_Some, slice_get_past}
use Rattle.xk_base.specs.declared.events.Event.{Event}
use Rattle.xk_base.specs.declared.events.Event.TheVariants.{Tick}
use Rattle.xk_base.specs.declared.ids.ThreadId.{ThreadId}
use Rattle.xk_base.specs.declared.records.What.TheVariants.{Call}
use Rattle.xk_base.specs.Calls.Registers.{arguments_of}
use Rattle.machine_laws.specs.History.{History, behind, followed_by, history, play, reached, stopped, ticks}
use Rattle.machine_laws.specs.HistoryMoments.{event_moments, moments_of, tick_moments}
use Rattle.machine_laws.proofs.Histories.HistoryLemmas.{history_first}
use Rattle.machine_laws.proofs.Stepping.StepKindLemmas.{acted_as_executed}
use Rattle.machine_laws.proofs.Threading.ThreadStepLemmas.{step_of_thread, turned_to}
use Rattle.machine_model.specs.Calling.Calls.{call}
use Rattle.machine_model.specs.Hart.Instructions.{CallsKernel}
use Rattle.machine_model.specs.Runs.Moments.{ByStep, ByTurn, Moment, moment_of, state_at}
use Rattle.machine_model.specs.State.Changes.{Outcome, Told, call_settled}
use Rattle.machine_model.specs.State.Machine.{Machine, Thread}
use Rattle.machine_model.specs.State.Order.{actor, is_ready, next_ready, ready_at, turn}
use Rattle.machine_model.specs.State.Views.{memory_of}
use Rattle.machine_model.specs.Stepping.Acts.{executes}
use Rattle.machine_model.specs.Stepping.Events.{nothing}
use Rattle.machine_model.specs.Stepping.Reservations.{reserved_by}
use Rattle.machine_model.specs.Stepping.Step.{after, counted, performed, reservation_left, step}
use Rattle.machine_model.specs.Stepping.Timer.{timed}
use Rattle.machine_model.proofs.Runs.TimerLemmas.{timed_unarmed}
use Rattle.transcript_laws.specs.Turns.{HasTurn, IsStarvedBy}
use Rattle.transcript_laws.proofs.Turning.NearingLemmas.{cursor_acts}
use Rattle.lifetime_laws.specs.Passing.{IsPassedOver, ticks_of_one}

-- ---- one step and the end of its tick

module _ (who other : ThreadId) (m : Machine) (passed : IsPassedOver who other m) where
  abbrev t : Thread
  t = passed.retries.thread

  who_ready : ready_at m who ≡ true
  who_ready =
      ap (λ o. option_map_or (λ (x : Thread). is_ready x.state) o false) passed.retries.there ∙ ap is_ready passed.retries.ready

  pub has_turn : actor m ≡ Some who
  has_turn = cursor_acts m who who_ready passed.turn

  calls_on : executes m who t ≡ Some CallsKernel
  calls_on =
      (λ i. if passed.retries.thread_goes_on i then None else (if passed.retries.handler_goes_on i then None else Some (performed m who t).executed))
      ∙ ap Some (passed.retries.calls (reserved_by who m.reserved) m.steps)

  abbrev turned : Machine
  turned = turned_to who m

  abbrev left_by : ThreadId → Machine
  left_by cursor = record m { cursor = cursor; steps = m.steps + 1; reserved = reservation_left turned t }

  -- a retry ends the turn, and the other thread is next
  abbrev done_by : Outcome → Told
  done_by outcome = counted turned (Some t) (after (Call who (arguments_of t.regs)) (call_settled turned outcome))

  retry_turns : (done_by (call turned (arguments_of t.regs))).machine ≡ left_by other
  unfolding call_settled turn next_ready
  retry_turns =
      ap (λ (o : Outcome). (done_by o).machine) (passed.retries.retried m.reserved m.steps)
      ∙ ap (λ o. left_by (unwrap_or o who)) passed.next

  stepped : (step m).machine ≡ left_by other
  stepped =
      step_of_thread m who t has_turn passed.retries.there
      ∙ (ap (λ (done : Told). (timed (counted turned (Some t) done)).machine) (acted_as_executed m who t CallsKernel calls_on)
      ∙ (ap (λ (done : Told). done.machine) (timed_unarmed (done_by (call turned (arguments_of t.regs))) unarmed)
      ∙ retry_turns))
    where
      unarmed : (done_by (call turned (arguments_of t.regs))).machine.compare ≡ None
      unarmed = ap (λ (x : Machine). x.compare) retry_turns ∙ passed.unarmed

  -- .. and the end of the tick passes it over
  abbrev later : Machine
  later = left_by who

  turned_back : turn (step m).machine ≡ later
  unfolding turn next_ready
  turned_back = ap turn stepped ∙ ap (λ o. left_by (unwrap_or o other)) passed.back

  still_ready : ready_at (step m).machine other ≡ true
  still_ready = ap (λ (x : Machine). ready_at x other) stepped ∙ passed.ready

  later_passed : IsPassedOver who other later
  unfolding memory_of next_ready
  later_passed = record {
    retries = record {
      thread = t;
      there = passed.retries.there;
      ready = passed.retries.ready;
      thread_goes_on = passed.retries.thread_goes_on;
      handler_goes_on = passed.retries.handler_goes_on;
      calls = passed.retries.calls;
      retried = passed.retries.retried;
    };
    unarmed = passed.unarmed;
    turn = refl;
    ready = passed.ready;
    next = passed.next;
    back = passed.back;
  }

  pub tick_passed : IsPassedOver who other (turn (step m).machine)
  tick_passed = subst (IsPassedOver who other) (sym turned_back) later_passed

  pub tick_counts : (turn (step m).machine).steps ≡ m.steps + 1
  tick_counts = ap (λ (x : Machine). x.steps) turned_back

  -- ---- its moments

  module _ (limit : ℕ) (more : (m.steps == limit) ≡ false) where
    tick_is : play (Tick 1) limit m ≡ behind (step m).records (reached (nothing (turn (step m).machine)))
    unfolding play ticks
    tick_is =
        ap (λ (a : Option ThreadId). if is_some a then (if m.steps == limit then stopped m else behind (step m).records (ticks 0 limit (step m).machine)) else reached (nothing (turn m))) has_turn
        ∙ ap (λ b. if b then stopped m else behind (step m).records (ticks 0 limit (step m).machine)) more

    tick_moments_are : event_moments (Tick 1) limit m ≡ moment_of ByStep m ∷ moment_of ByTurn (step m).machine ∷ []
    unfolding event_moments tick_moments
    tick_moments_are =
        ap (λ (a : Option ThreadId). if is_some a then (if m.steps == limit then [] else moment_of ByStep m ∷ tick_moments 0 limit (step m).machine) else moment_of ByTurn m ∷ []) has_turn
        ∙ ap (λ b. if b then [] else moment_of ByStep m ∷ tick_moments 0 limit (step m).machine) more

    pub first_moments : (events : List Event) → moments_of (Tick 1 ∷ events) limit m
        ≡ moment_of ByStep m ∷ moment_of ByTurn (step m).machine ∷ moments_of events limit (turn (step m).machine)
    unfolding moments_of
    first_moments events =
        ap (λ xs. xs ++ (if (play (Tick 1) limit m).met then [] else moments_of events limit (play (Tick 1) limit m).machine)) tick_moments_are
        ∙ ap (λ (h : History). moment_of ByStep m ∷ moment_of ByTurn (step m).machine ∷ (if h.met then [] else moments_of events limit h.machine)) tick_is

    pub first_history : (events : List Event)
        → (history (Tick 1 ∷ events) limit m).machine.steps ≡ (history events limit (turn (step m).machine)).machine.steps
    first_history events =
        ap (λ (h : History). h.machine.steps) (history_first (Tick 1) events limit m)
        ∙ ap (λ (h : History). (followed_by h (history events limit)).machine.steps) tick_is

-- ---- all

module _ (who other : ThreadId) where
  starved_none : (m : Machine) → ready_at m other ≡ true → IsStarvedBy who other m []
  unfolding state_at
  starved_none m ready = record {
    ready = λ i. at i;
    steps = λ i moment there cause. absurd (none-some moment (sym (slice_get_past [] i (omega arith)) ∙ there));
  }
    where
      at : (i : ℕ) → ready_at (state_at m [] i) other ≡ true
      at zero = ready
      at (suc i) = ready

  starved_first : (m : Machine) (moment : Moment) (moments : List Moment) → ready_at m other ≡ true
      → (moment.cause ≡ ByStep → HasTurn who m)
      → IsStarvedBy who other moment.machine moments → IsStarvedBy who other m (moment ∷ moments)
  unfolding state_at
  starved_first m moment moments ready own starved = record { ready = at; steps = steps }
    where
      at : (i : ℕ) → ready_at (state_at m (moment ∷ moments) i) other ≡ true
      at zero = ready
      at (suc i) = starved.ready i

      steps : (i : ℕ) (this : Moment) → slice_get (moment ∷ moments) i ≡ Some this → this.cause ≡ ByStep
          → HasTurn who (state_at m (moment ∷ moments) i)
      steps zero this there cause = own (ap (λ (x : Moment). x.cause) (same_Some moment this there) ∙ cause)
      steps (suc i) this there cause = starved.steps i this there cause

  below : (n limit : ℕ) (m : Machine) → m.steps + suc n ≤ limit → (m.steps == limit) ≡ false
  below n limit m within = go (m.steps == limit) refl
    where
      go : (b : Bool) → (m.steps == limit) ≡ b → b ≡ false
      go false e = refl
      go true e = let same : m.steps ≡ limit = eqb-true m.steps limit e in absurd (omega (arith, within, same))

  pub retries_starve : (n limit : ℕ) (m : Machine) → IsPassedOver who other m → m.steps + n ≤ limit
      → IsStarvedBy who other m (moments_of (ticks_of_one n) limit m)
  unfolding moments_of
  retries_starve zero limit m passed within = starved_none m passed.ready
  retries_starve (suc n) limit m passed within =
      let counts : (turn (step m).machine).steps ≡ m.steps + 1 = tick_counts who other m passed in
      subst (IsStarvedBy who other m) (sym (first_moments who other m passed limit (below n limit m within) (ticks_of_one n)))
      (starved_first m (moment_of ByStep m) _ passed.ready (λ e. has_turn who other m passed)
      (starved_first (step m).machine (moment_of ByTurn (step m).machine) _ (still_ready who other m passed)
      (λ e. absurd (let q : ByTurn ≡ ByStep = e in cc))
      (retries_starve n limit (turn (step m).machine) (tick_passed who other m passed) (omega (arith, within, counts)))))

  pub retries_count : (n limit : ℕ) (m : Machine) → IsPassedOver who other m → m.steps + n ≤ limit
      → (history (ticks_of_one n) limit m).machine.steps ≡ m.steps + n
  unfolding history
  retries_count zero limit m passed within = omega arith
  retries_count (suc n) limit m passed within =
      let counts : (turn (step m).machine).steps ≡ m.steps + 1 = tick_counts who other m passed in
      let first : (history (Tick 1 ∷ ticks_of_one n) limit m).machine.steps ≡ (history (ticks_of_one n) limit (turn (step m).machine)).machine.steps =
      first_history who other m passed limit (below n limit m within) (ticks_of_one n) in
      let rest : (history (ticks_of_one n) limit (turn (step m).machine)).machine.steps ≡ (turn (step m).machine).steps + n =
      retries_count n limit (turn (step m).machine) (tick_passed who other m passed) (omega (arith, within, counts)) in
      first ∙ (rest ∙ omega (arith, counts))
