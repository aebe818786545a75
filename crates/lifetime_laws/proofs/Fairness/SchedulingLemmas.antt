-- While nothing comes but ticks, a Ready thread does its next step within a bound: each tick brings the cursor nearer to it.
use Rattle.std.proofs.Common.{◌≡◌, ◌≢◌, ℕ, zero, suc, ◌+◌, ◌-◌, ◌*◌, ◌%◌, ◌<◌, ◌≤◌, ◌⊎◌, inl, inr, Bool, true, false, List, [], ◌∷◌, Option, Some, None, refl, sym, ap, ◌∙◌, subst, arith}
use Rattle.std.specs.Prelude.{IsTrue, is_some}
use Rattle.std.proofs.Math.Nat.{mod-lt, mod_self, mul-le-mul_left, mul-suc}
use Rattle.std.proofs.lemmas.Bool.{and_parts, false≢true}
use Rattle.std.proofs.lemmas.Option.{none-some, same_Some}
use Rattle.xk_base.specs.declared.events.Event.{Event}
use Rattle.xk_base.specs.declared.ids.ThreadId.{ThreadId}
use Rattle.xk_base.specs.Tables.Circle.{is_thread_id, place_of, thread_ids}
use Rattle.xk_base.proofs.CircleLemmas.{place_of-bound}
use Rattle.machine_laws.specs.HistoryMoments.{moments_of}
use Rattle.machine_laws.proofs.Histories.HistoryLemmas.{ready_has_actor}
use Rattle.machine_laws.proofs.Histories.LimitLemmas.{turn_steps}
use Rattle.machine_laws.proofs.Histories.MomentLemmas.{history_is_run}
use Rattle.machine_laws.proofs.Stepping.CursorStepLemmas.{every_cause_keeps_cursor}
use Rattle.machine_laws.proofs.Stepping.EveryStepLemmas.{every_cause_keeps}
use Rattle.machine_model.specs.Runs.Matched.{Matched}
use Rattle.machine_model.specs.Runs.Moments.{Cause, ByStep, ByPick, ByIrq, ByKill, ByTurn, Moment, IsRun, caused, state_at}
use Rattle.machine_model.specs.State.Machine.{Machine}
use Rattle.machine_model.specs.State.Order.{actor, ready_at, turn}
use Rattle.machine_model.specs.Stepping.Step.{step}
use Rattle.machine_model.proofs.StepLemmas.{one_step}
use Rattle.transcript_laws.specs.Turns.{DoesStep, KeepsOrder}
use Rattle.transcript_laws.proofs.Turning.FairLemmas.{IsSound}
use Rattle.transcript_laws.proofs.Turning.NearingLemmas.{actor_nearer, cursor_acts, one_or_other, processes_stay, ready_known, step_nearer}
use Rattle.transcript_laws.proofs.Turning.RoundLemmas.{far, next_nearer, same_far}
use Rattle.lifetime_laws.specs.Scheduling.{AreStepsFair, AreTicksUpTo, IsInLine, IsTickEnd, StepsWithin, steps_ahead}
use Rattle.lifetime_laws.proofs.Fairness.TickedLemmas.{ByKind, Ticked, history_ticked}

-- ---- how far the cursor is

far_below : (n : ℕ) (d c : ThreadId) → is_thread_id n d ≡ true → far n d c < thread_ids n
unfolding far
far_below n d c h =
    let low : place_of d < thread_ids n = place_of-bound n d h in
    mod-lt (place_of d + thread_ids n - place_of c) (omega arith)

far_itself : (n : ℕ) (d : ThreadId) → is_thread_id n d ≡ true → far n d d ≡ 0
unfolding far
far_itself n d h =
    let low : place_of d < thread_ids n = place_of-bound n d h in
    let whole : place_of d + thread_ids n - place_of d ≡ thread_ids n = omega arith in
    ap (λ x. x % thread_ids n) whole ∙ mod_self (thread_ids n)

far_off : (n : ℕ) (d c : ThreadId) → is_thread_id n d ≡ true → is_thread_id n c ≡ true → c ≢ d → 1 ≤ far n d c
far_off n d c h p apart = go (far n d c) refl
  where
    go : (k : ℕ) → far n d c ≡ k → 1 ≤ k
    go zero e = absurd (apart (same_far n d c d h p h (e ∙ sym (far_itself n d h))))
    go (suc k) e = omega arith

-- the end of a tick brings the cursor nearer
turn_nearer : (m : Machine) (d : ThreadId) → Matched m → is_thread_id m.processes m.cursor ≡ true → ready_at m d ≡ true → m.cursor ≢ d
    → far m.processes d (turn m).cursor < far m.processes d m.cursor
unfolding turn
turn_nearer m d h cursor ready apart = next_nearer m m.cursor d cursor (ready_known m h d ready) ready apart

-- ---- one moment

sound_next : (n : ℕ) (start : Machine) (moment : Moment) → IsSound n start → moment.machine ≡ caused moment.cause start
    → IsSound n moment.machine
sound_next n start moment h leads =
    subst (IsSound n) (sym leads) (record {
      matched = every_cause_keeps moment.cause start h.matched;
      same = processes_stay moment.cause start ∙ h.same;
      cursor = every_cause_keeps_cursor moment.cause start h.matched h.cursor;
    })

-- somebody acts where a thread is Ready
someone_acts : (m : Machine) (d : ThreadId) → Matched m → is_thread_id m.processes m.cursor ≡ true → ready_at m d ≡ true
    → is_some (actor m) ≡ true
someone_acts m d h cursor ready = ready_has_actor m d (and_parts _ _ cursor).0 (ready_known m h d ready) ready

-- ---- runs

module _ (n most : ℕ) (d : ThreadId) (known : is_thread_id n d ≡ true) (budget : ℕ) where
  -- among the moments before the last is a step of the thread, and no more steps than these come before it
  record Found (start : Machine) (moments : List Moment) (last : ℕ) : Type 0 where
    at : ℕ
    until : at < last
    step : DoesStep d start moments at
    soon : (state_at start moments at).steps ≤ budget

  later : (start : Machine) (moment : Moment) (moments : List Moment) (last : ℕ) → Found moment.machine moments last
      → Found start (moment ∷ moments) (suc last)
  unfolding state_at
  later start moment moments last f = record {
    at = suc f.at;
    until = let low : f.at < last = f.until in omega arith;
    step = record { moment = f.step.moment; there = f.step.there; step = f.step.step; turn = f.step.turn };
    soon = f.soon;
  }

  -- what is asked of the rest of a run
  record Goes (rest : ℕ) (fresh : Bool) (start : Machine) (moments : List Moment) (last : ℕ) : Type 0 where
    sound : IsSound n start
    run : IsRun start moments
    ticked : Ticked most rest fresh start moments
    line : IsInLine d start moments 0 last
    enough : budget < (state_at start moments last).steps

  here : (start : Machine) (moments : List Moment) (last : ℕ) → IsInLine d start moments 0 last → ready_at start d ≡ true
  unfolding state_at
  here start moments last line = line.ready 0 (omega arith) (omega arith)

  line_later : (start : Machine) (moment : Moment) (moments : List Moment) (last : ℕ) → IsInLine d start (moment ∷ moments) 0 (suc last)
      → IsInLine d moment.machine moments 0 last
  unfolding state_at
  line_later start moment moments last line = record {
    ready = λ i p q. line.ready (suc i) (omega arith) (omega arith);
    order = λ i this p q there. line.order (suc i) this (omega arith) (omega arith) there;
    turns = λ i p q loses. line.turns (suc i) (omega arith) (omega arith) (record {
      other = loses.other;
      apart = loses.apart;
      step = record { moment = loses.step.moment; there = loses.step.there; step = loses.step.step; turn = loses.step.turn };
      given = loses.given;
      ends = loses.ends;
    });
  }

  first_order : (start : Machine) (moment : Moment) (moments : List Moment) (last : ℕ) → IsInLine d start (moment ∷ moments) 0 (suc last)
      → KeepsOrder moment.cause start
  unfolding state_at
  first_order start moment moments last line = line.order 0 moment (omega arith) (omega arith) refl

  -- without a moment nothing more is done
  none_left : (start : Machine) (last : ℕ) → start.steps ≤ budget → budget < (state_at start [] last).steps → ⊥
  unfolding state_at
  none_left start zero le more = omega arith
  none_left start (suc last) le more = omega arith

  first_steps : (start : Machine) (moments : List Moment) → (state_at start moments 0).steps ≡ start.steps
  unfolding state_at
  first_steps start moments = refl

  -- the cursor is at the thread, and no tick ends now: the thread does its step
  at_cursor : (rest : ℕ) (fresh : Bool) (start : Machine) (moments : List Moment) (last : ℕ) → Goes rest fresh start moments last
      → start.cursor ≡ d → start.steps ≤ budget → (1 ≤ last → ¬ IsTickEnd moments 0) → Found start moments last
  unfolding state_at Ticked
  at_cursor rest fresh start moments zero g at le stays = absurd (let more : budget < start.steps = g.enough in omega arith)
  at_cursor rest fresh start [] (suc last) g at le stays = absurd (none_left start (suc last) le g.enough)
  at_cursor rest fresh start (moment ∷ moments) (suc last) g at le stays = go moment.cause refl g.ticked
    where
      go : (cause : Cause) → moment.cause ≡ cause
          → ByKind cause ((1 ≤ rest) × Ticked most (rest - 1) false moment.machine moments)
          ((fresh ≡ true → actor start ≡ None) × Ticked most most true moment.machine moments)
          → Found start (moment ∷ moments) (suc last)
      go ByStep e t = record {
        at = 0;
        until = omega arith;
        step = record { moment = moment; there = refl; step = e; turn = cursor_acts start d (here start (moment ∷ moments) (suc last) g.line) at };
        soon = le;
      }
      go (ByPick who) e t = absurd t
      go (ByIrq k) e t = absurd t
      go (ByKill pid) e t = absurd t
      go ByTurn e t = absurd (stays (omega arith) (moment, refl, e))

  -- what is left until the cursor is at the thread, as long as it isn't
  abbrev Left : ℕ → Machine → ℕ
  Left rest m = rest + most * (far n d m.cursor - 1)

  nearer_costs : (a f : ℕ) → 1 ≤ a → a < f → most + most * (a - 1) ≤ most * (f - 1)
  nearer_costs zero f some less = absurd (omega arith)
  nearer_costs (suc a) f some less =
      let le : most * suc a ≤ most * (f - 1) = mul-le-mul_left most (omega arith) in
      let whole : most * suc a ≡ most * a + most = mul-suc most a in
      let one : suc a - 1 ≡ a = omega arith in
      let same : most * (suc a - 1) ≡ most * a = ap (λ x. most * x) one in
      omega arith

  no_farther_costs : (a f : ℕ) → a ≤ f → most * (a - 1) ≤ most * (f - 1)
  no_farther_costs a f le = mul-le-mul_left most (omega arith)

  -- a fresh tick doesn't end while a thread is Ready
  fresh_goes_on : (rest : ℕ) (m : Machine) (moments : List Moment) → Ticked most rest true m moments → is_some (actor m) ≡ true
      → ¬ IsTickEnd moments 0
  unfolding Ticked
  fresh_goes_on rest m [] t acts ends = none-some ends.0 ends.1
  fresh_goes_on rest m (moment ∷ moments) t acts ends =
      let same : moment.cause ≡ ByTurn = ap (λ (x : Moment). x.cause) (same_Some moment ends.0 ends.1) ∙ ends.2 in
      let turned : (true ≡ true → actor m ≡ None) × Ticked most most true moment.machine moments =
      subst (λ c. ByKind c ((1 ≤ rest) × Ticked most (rest - 1) false moment.machine moments)
      ((true ≡ true → actor m ≡ None) × Ticked most most true moment.machine moments)) same t in
      false≢true (sym (ap is_some (turned.0 refl)) ∙ acts)

  goes_on : (rest : ℕ) (fresh : Bool) (start : Machine) (moment : Moment) (moments : List Moment) (last left : ℕ) (now : Bool)
      → Goes rest fresh start (moment ∷ moments) (suc last) → Ticked most left now moment.machine moments → Goes left now moment.machine moments last
  unfolding IsRun state_at
  goes_on rest fresh start moment moments last left now g t = record {
    sound = sound_next n start moment g.sound g.run.0;
    run = g.run.1;
    ticked = t;
    line = line_later start moment moments last g.line;
    enough = g.enough;
  }

  leads : (rest : ℕ) (fresh : Bool) (start : Machine) (moment : Moment) (moments : List Moment) (last : ℕ) (cause : Cause)
      → Goes rest fresh start (moment ∷ moments) (suc last) → moment.cause ≡ cause → moment.machine ≡ caused cause start
  unfolding IsRun
  leads rest fresh start moment moments last cause g e = g.run.0 ∙ ap (λ c. caused c start) e

  -- ---- the end of a tick

  module _ (rest : ℕ) (fresh : Bool) (start : Machine) (moment : Moment) (moments : List Moment) (last : ℕ)
      (g : Goes rest fresh start (moment ∷ moments) (suc last)) (cause : moment.cause ≡ ByTurn) (t : Ticked most most true moment.machine moments)
      (le : start.steps ≤ budget) where
    abbrev next : Machine
    next = moment.machine

    turned : next ≡ turn start
    turned = leads rest fresh start moment moments last ByTurn g cause

    same_steps : next.steps ≡ start.steps
    same_steps = ap (λ (x : Machine). x.steps) turned ∙ turn_steps start

    later_goes : Goes most true next moments last
    later_goes = goes_on rest fresh start moment moments last most true g t

    acts_then : is_some (actor next) ≡ true
    acts_then = someone_acts next d later_goes.sound.matched later_goes.sound.cursor (here next moments last later_goes.line)

    after_turn : ((r : ℕ) (f : Bool) → Goes r f next moments last → next.cursor ≢ d → next.steps + Left r next ≤ budget → Found next moments last)
        → (next.cursor ≢ d → start.steps + Left most next ≤ budget) → Found start (moment ∷ moments) (suc last)
    after_turn walks enough = go (one_or_other next.cursor d)
      where
        go : (next.cursor ≡ d) ⊎ (next.cursor ≢ d) → Found start (moment ∷ moments) (suc last)
        go (inl at) =
            later start moment moments last
            (at_cursor most true next moments last later_goes at (omega (arith, same_steps, le)) (λ some. fresh_goes_on most next moments t acts_then))
        go (inr apart) =
            later start moment moments last
            (walks most true later_goes apart (let left : start.steps + Left most next ≤ budget = enough apart in omega (arith, same_steps, left)))

    nearer : start.cursor ≢ d → far n d next.cursor < far n d start.cursor
    nearer apart =
        subst (λ k. far k d next.cursor < far k d start.cursor) g.sound.same
        (subst (λ (x : Machine). far start.processes d x.cursor < far start.processes d start.cursor) (sym turned)
        (turn_nearer start d g.sound.matched g.sound.cursor (here start (moment ∷ moments) (suc last) g.line) apart))

    then_off : next.cursor ≢ d → 1 ≤ far n d next.cursor
    then_off apart = far_off n d next.cursor known (subst (λ k. is_thread_id k next.cursor ≡ true) later_goes.sound.same later_goes.sound.cursor) apart

  -- ---- a step

  module _ (rest : ℕ) (fresh : Bool) (start : Machine) (moment : Moment) (moments : List Moment) (last : ℕ)
      (g : Goes rest fresh start (moment ∷ moments) (suc last)) (cause : moment.cause ≡ ByStep) (some : 1 ≤ rest)
      (t : Ticked most (rest - 1) false moment.machine moments) (apart : start.cursor ≢ d) (le : start.steps + Left rest start ≤ budget)
      (other : ThreadId) (acts : actor start ≡ Some other) (off : other ≢ d) where
    abbrev after : Machine
    after = moment.machine

    stepped : after ≡ (step start).machine
    stepped = leads rest fresh start moment moments last ByStep g cause

    one_more : after.steps ≡ start.steps + 1
    one_more = ap (λ (x : Machine). x.steps) stepped ∙ one_step start other acts

    later_step : Goes (rest - 1) false after moments last
    later_step = goes_on rest fresh start moment moments last (rest - 1) false g t

    ready : ready_at start d ≡ true
    ready = here start (moment ∷ moments) (suc last) g.line

    ordered : KeepsOrder ByStep start
    ordered = subst (λ c. KeepsOrder c start) cause (first_order start moment moments last g.line)

    no_farther : far n d after.cursor ≤ far n d start.cursor
    no_farther =
        let first : far start.processes d other ≤ far start.processes d start.cursor =
        actor_nearer start d g.sound.matched g.sound.cursor ready other acts apart in
        let second : far start.processes d (step start).machine.cursor ≤ far start.processes d other =
        step_nearer start d g.sound.matched g.sound.cursor ready other acts off ordered in
        let both : far start.processes d (step start).machine.cursor ≤ far start.processes d start.cursor = omega arith in
        subst (λ k. far k d after.cursor ≤ far k d start.cursor) g.sound.same
        (subst (λ (x : Machine). far start.processes d x.cursor ≤ far start.processes d start.cursor) (sym stepped) both)

    kept_turn : after.cursor ≡ d → 1 ≤ last → ¬ IsTickEnd moments 0
    unfolding state_at
    kept_turn at low ends =
        g.line.turns 0 (omega arith) (omega arith) (record {
          other = other;
          apart = off;
          step = record { moment = moment; there = refl; step = cause; turn = acts };
          given = at;
          ends = ends;
        })

    after_step : ((r : ℕ) (f : Bool) → Goes r f after moments last → after.cursor ≢ d → after.steps + Left r after ≤ budget → Found after moments last)
        → Found start (moment ∷ moments) (suc last)
    after_step walks = go (one_or_other after.cursor d)
      where
        cost : most * (far n d after.cursor - 1) ≤ most * (far n d start.cursor - 1)
        cost = no_farther_costs (far n d after.cursor) (far n d start.cursor) no_farther

        go : (after.cursor ≡ d) ⊎ (after.cursor ≢ d) → Found start (moment ∷ moments) (suc last)
        go (inl at) =
            later start moment moments last
            (at_cursor (rest - 1) false after moments last later_step at (omega (arith, one_more, le, some)) (kept_turn at))
        go (inr away) =
            later start moment moments last
            (walks (rest - 1) false later_step away (omega (arith, one_more, le, some, cost)))

  -- ---- until the cursor is at the thread

  walk : (rest : ℕ) (fresh : Bool) (start : Machine) (moments : List Moment) (last : ℕ) → Goes rest fresh start moments last
      → start.cursor ≢ d
      → start.steps + Left rest start ≤ budget → Found start moments last
  unfolding Ticked
  walk rest fresh start moments zero g apart le =
      let same : (state_at start moments 0).steps ≡ start.steps = first_steps start moments in
      let more : budget < (state_at start moments 0).steps = g.enough in
      absurd (omega (arith, same, more, le))
  walk rest fresh start [] (suc last) g apart le = absurd (none_left start (suc last) (omega (arith, le)) g.enough)
  walk rest fresh start (moment ∷ moments) (suc last) g apart le =
      go moment.cause refl g.ticked (λ r f g apart le. walk r f moment.machine moments last g apart le)
    where
      by_actor : (o : Option ThreadId) → actor start ≡ o → moment.cause ≡ ByStep → 1 ≤ rest
          → Ticked most (rest - 1) false moment.machine moments
          → ((r : ℕ) (f : Bool) → Goes r f moment.machine moments last → moment.machine.cursor ≢ d → moment.machine.steps + Left r moment.machine ≤ budget
          → Found moment.machine moments last)
          → Found start (moment ∷ moments) (suc last)
      by_actor None acts e some t walks =
          absurd (false≢true (sym (ap is_some acts)
          ∙ someone_acts start d g.sound.matched g.sound.cursor (here start (moment ∷ moments) (suc last) g.line)))
      by_actor (Some other) acts e some t walks = one_of (one_or_other other d)
        where
          one_of : (other ≡ d) ⊎ (other ≢ d) → Found start (moment ∷ moments) (suc last)
          one_of (inl same) = record {
            at = 0;
            until = omega arith;
            step = own (acts ∙ ap (λ x. Some x) same) e;
            soon = let same_first : (state_at start (moment ∷ moments) 0).steps ≡ start.steps = first_steps start (moment ∷ moments) in
                omega (arith, le, same_first);
          }
            where
              own : actor start ≡ Some d → moment.cause ≡ ByStep → DoesStep d start (moment ∷ moments) 0
              own turn step = unfold state_at in record { moment = moment; there = refl; step = step; turn = turn }
          one_of (inr off) = after_step rest fresh start moment moments last g e some t apart le other acts off walks

      go : (cause : Cause) → moment.cause ≡ cause
          → ByKind cause ((1 ≤ rest) × Ticked most (rest - 1) false moment.machine moments)
          ((fresh ≡ true → actor start ≡ None) × Ticked most most true moment.machine moments)
          → ((r : ℕ) (f : Bool) → Goes r f moment.machine moments last → moment.machine.cursor ≢ d → moment.machine.steps + Left r moment.machine ≤ budget
          → Found moment.machine moments last)
          → Found start (moment ∷ moments) (suc last)
      go ByStep e t walks = by_actor (actor start) refl e t.0 t.1 walks
      go (ByPick who) e t walks = absurd t
      go (ByIrq k) e t walks = absurd t
      go (ByKill pid) e t walks = absurd t
      go ByTurn e t walks =
          after_turn rest fresh start moment moments last g e t.1 (omega (arith, le)) walks
          (λ away.
          let cost : most + most * (far n d moment.machine.cursor - 1) ≤ most * (far n d start.cursor - 1) =
          nearer_costs (far n d moment.machine.cursor) (far n d start.cursor)
          (then_off rest fresh start moment moments last g e t.1 (omega (arith, le)) away)
          (nearer rest fresh start moment moments last g e t.1 (omega (arith, le)) apart) in
          omega (arith, cost, le))

  -- ---- from any moment on

  begin : (rest : ℕ) (fresh : Bool) (start : Machine) (moments : List Moment) (last : ℕ) → Goes rest fresh start moments last → rest ≤ most
      → budget ≡ start.steps + steps_ahead most n → Found start moments last
  unfolding Ticked
  begin rest fresh start moments last g few is = by_cursor (one_or_other start.cursor d)
    where
      cursor_known : is_thread_id n start.cursor ≡ true
      cursor_known = subst (λ k. is_thread_id k start.cursor ≡ true) g.sound.same g.sound.cursor

      le : start.steps ≤ budget
      le = omega (arith, is)

      at_it : start.cursor ≡ d → (ms : List Moment) (end : ℕ) → Goes rest fresh start ms end → Found start ms end
      at_it at ms zero g = at_cursor rest fresh start ms zero g at le (λ low. absurd (omega (arith, low)))
      at_it at [] (suc end) g = at_cursor rest fresh start [] (suc end) g at le (λ low ends. none-some ends.0 ends.1)
      at_it at (moment ∷ ms) (suc end) g = by_cause moment.cause refl g.ticked
        where
          by_cause : (cause : Cause) → moment.cause ≡ cause
              → ByKind cause ((1 ≤ rest) × Ticked most (rest - 1) false moment.machine ms)
              ((fresh ≡ true → actor start ≡ None) × Ticked most most true moment.machine ms)
              → Found start (moment ∷ ms) (suc end)
          by_cause ByStep e t =
              at_cursor rest fresh start (moment ∷ ms) (suc end) g at le
              (λ low ends. let q : ByStep ≡ ByTurn = sym e ∙ (ap (λ (x : Moment). x.cause) (same_Some moment ends.0 ends.1) ∙ ends.2) in cc)
          by_cause (ByPick who) e t = absurd t
          by_cause (ByIrq k) e t = absurd t
          by_cause (ByKill pid) e t = absurd t
          by_cause ByTurn e t =
              after_turn rest fresh start moment ms end g e t.1 le (λ r f g apart left. walk r f moment.machine ms end g apart left)
              (λ away.
              let cost : most + most * (far n d moment.machine.cursor - 1) ≤ most * (thread_ids n - 1) =
              nearer_costs (far n d moment.machine.cursor) (thread_ids n) (then_off rest fresh start moment ms end g e t.1 le away)
              (far_below n d moment.machine.cursor known) in
              omega (arith, cost, is))

      by_cursor : (start.cursor ≡ d) ⊎ (start.cursor ≢ d) → Found start moments last
      by_cursor (inl at) = at_it at moments last g
      by_cursor (inr apart) =
          let cost : most + most * (far n d start.cursor - 1) ≤ most * (thread_ids n - 1) =
          nearer_costs (far n d start.cursor) (thread_ids n) (far_off n d start.cursor known cursor_known apart) (far_below n d start.cursor known) in
          walk rest fresh start moments last g apart (omega (arith, cost, few, is))

module _ (n most : ℕ) (d : ThreadId) where
  abbrev Within : Machine → List Moment → ℕ → ℕ → Type 0
  Within start moments first last = StepsWithin d (steps_ahead most n) start moments first last

  within_later : (start : Machine) (moment : Moment) (moments : List Moment) (first last : ℕ) → Within moment.machine moments first last
      → Within start (moment ∷ moments) (suc first) (suc last)
  unfolding state_at
  within_later start moment moments first last w = record {
    at = suc w.at;
    from = let low : first ≤ w.at = w.from in omega arith;
    until = let low : w.at < last = w.until in omega arith;
    step = record { moment = w.step.moment; there = w.step.there; step = w.step.step; turn = w.step.turn };
    soon = w.soon;
  }

  line_from : (start : Machine) (moment : Moment) (moments : List Moment) (first last : ℕ)
      → IsInLine d start (moment ∷ moments) (suc first) (suc last)
      → IsInLine d moment.machine moments first last
  unfolding state_at
  line_from start moment moments first last line = record {
    ready = λ i p q. line.ready (suc i) (omega arith) (omega arith);
    order = λ i this p q there. line.order (suc i) this (omega arith) (omega arith) there;
    turns = λ i p q loses. line.turns (suc i) (omega arith) (omega arith) (record {
      other = loses.other;
      apart = loses.apart;
      step = record { moment = loses.step.moment; there = loses.step.there; step = loses.step.step; turn = loses.step.turn };
      given = loses.given;
      ends = loses.ends;
    });
  }

  from_first : (rest : ℕ) (fresh : Bool) (start : Machine) (moments : List Moment) (first last : ℕ) → first ≤ last → IsSound n start
      → IsRun start moments
      → Ticked most rest fresh start moments → rest ≤ most → IsInLine d start moments first last
      → (state_at start moments first).steps + steps_ahead most n < (state_at start moments last).steps → Within start moments first last
  unfolding IsRun state_at Ticked
  from_first rest fresh start moments zero last le sound run t few line more = record {
    at = f.at;
    from = omega arith;
    until = f.until;
    step = f.step;
    soon = f.soon;
  }
    where
      known : is_thread_id n d ≡ true
      known = subst (λ k. is_thread_id k d ≡ true) sound.same (ready_known start sound.matched d (line.ready 0 (omega arith) (omega arith)))

      f : Found n most d known (start.steps + steps_ahead most n) start moments last
      f =
          begin n most d known (start.steps + steps_ahead most n) rest fresh start moments last
          (record { sound = sound; run = run; ticked = t; line = line; enough = more }) few refl
  from_first rest fresh start moments (suc first) zero le sound run t few line more = absurd (omega arith)
  from_first rest fresh start [] (suc first) (suc last) le sound run t few line more = absurd (omega arith)
  from_first rest fresh start (moment ∷ moments) (suc first) (suc last) le sound run t few line more =
      go moment.cause t
      (λ r f t few.
      within_later start moment moments first last
      (from_first r f moment.machine moments first last (omega arith) (sound_next n start moment sound run.0) run.1 t few
      (line_from start moment moments first last line) more))
    where
      go : (cause : Cause)
          → ByKind cause ((1 ≤ rest) × Ticked most (rest - 1) false moment.machine moments)
          ((fresh ≡ true → actor start ≡ None) × Ticked most most true moment.machine moments)
          → ((r : ℕ) (f : Bool) → Ticked most r f moment.machine moments → r ≤ most → Within start (moment ∷ moments) (suc first) (suc last))
          → Within start (moment ∷ moments) (suc first) (suc last)
      go ByStep t later = later (rest - 1) false t.1 (omega (arith, few))
      go (ByPick who) t later = absurd t
      go (ByIrq k) t later = absurd t
      go (ByKill pid) t later = absurd t
      go ByTurn t later = later most true t.1 (omega arith)

pub steps_are_fair : (events : List Event) (limit most : ℕ) (start : Machine) → Matched start
    → IsTrue (is_thread_id start.processes start.cursor)
    → AreTicksUpTo most events → AreStepsFair most start (moments_of events limit start)
steps_are_fair events limit most start h cursor ticks who first last le line more =
    from_first start.processes most who most true start (moments_of events limit start) first last le
    (record { matched = h; same = refl; cursor = cursor }) (history_is_run events limit start) (history_ticked most events limit start ticks) (omega arith)
    line more
