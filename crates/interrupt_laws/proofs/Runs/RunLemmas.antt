-- The timer over a run: it is armed exactly since an arming that nothing has touched, so each raise is that of an arming.
use Rattle.std.proofs.Common.{◌≡◌, ℕ, zero, suc, ◌+◌, ◌<◌, ◌≤◌, ◌⊎◌, true, List, [], ◌∷◌, get_or, length, Some, None, refl, sym, ap, ◌∙◌, subst, inl, inr, arith}
use Rattle.std.specs.Prelude.{is_some, slice_get}
use Rattle.std.proofs.lemmas.Bool.{cases_lt}
use Rattle.std.proofs.lemmas.Option.{none-some, same_Some, slice_get-get_or, slice_get_within}
use Rattle.xk_base.specs.declared.limits.TheConstants.{TIMER_INTERRUPT}
use Rattle.xk_base.specs.declared.pages.Width.TheVariants.{Word}
use Rattle.machine_model.specs.Runs.Moments.{ByStep, ByTurn, IsRun, Moment, caused, state_at}
use Rattle.machine_model.specs.State.Machine.{Claim, Machine}
use Rattle.machine_model.specs.State.Order.{actor}
use Rattle.machine_laws.proofs.Histories.LimitLemmas.{step_steps}
use Rattle.machine_laws.proofs.Stepping.CauseCaseLemmas.{cause_counts}
use Rattle.interrupt_laws.specs.Arming.{Arms, Disarms, EndsClaim, LeavesTimer, TimerStore}
use Rattle.interrupt_laws.specs.Raising.{IsRaise}
use Rattle.interrupt_laws.specs.TimerLaw.{ArmingsAreMoments, IsArmedAt, IsArming, IsLeft, IsRaisedBy, IsRaisedByAny, IsRaising, IsStepOf}
use Rattle.interrupt_laws.specs.TimerLaw.{TimerHolds, TimerLaw, steps_at}
use Rattle.interrupt_laws.proofs.Runs.MomentLemmas.{Armed, Disarmed, Left, Touch, effects_of, touch_of}
use Rattle.interrupt_laws.proofs.Runs.RaiseLemmas.{decides}

-- ---- moments of a run

record IsNext (start : Machine) (moments : List Moment) (k : ℕ) (moment : Moment) : Type 0 where
  now : state_at start moments (suc k) ≡ moment.machine
  leads : moment.machine ≡ caused moment.cause (state_at start moments k)

next_of : (start : Machine) (moments : List Moment) (k : ℕ) (moment : Moment) → IsRun start moments → slice_get moments k ≡ Some moment
    → IsNext start moments k moment
unfolding IsRun state_at
next_of start [] k moment run e = absurd (none-some moment e)
next_of start (first ∷ moments) zero moment run e =
    let same : first ≡ moment = same_Some first moment e in
    record {
      now = ap (λ (m : Moment). m.machine) same;
      leads = subst (λ (m : Moment). m.machine ≡ caused m.cause start) same run.0;
    }
next_of start (first ∷ moments) (suc k) moment run e =
    let later : IsNext first.machine moments k moment = next_of first.machine moments k moment run.1 e in
    record { now = later.now; leads = later.leads }

state_first : (start : Machine) (moments : List Moment) → state_at start moments 0 ≡ start
unfolding state_at
state_first start moments = refl

module _ (start : Machine) (moments : List Moment) (run : IsRun start moments) where
  abbrev at : ℕ → Machine
  at k = state_at start moments k

  -- there is a moment at each place below the end
  moment_at : (k : ℕ) → k < length moments → (moment : Moment) × (slice_get moments k ≡ Some moment)
  moment_at k low = let none : Moment = record { cause = ByTurn; machine = start } in (get_or moments k none, slice_get-get_or moments k none low)

  same_moment : (k : ℕ) (a b : Moment) → slice_get moments k ≡ Some a → slice_get moments k ≡ Some b → a ≡ b
  same_moment k a b p q = same_Some a b (sym p ∙ q)

  state_climbs : (j k : ℕ) → j ≤ k → k ≤ length moments → (at j).steps ≤ (at k).steps
  state_climbs j zero le low = let e : j ≡ 0 = omega arith in subst (λ i. (at i).steps ≤ (at 0).steps) (sym e) (omega arith)
  state_climbs j (suc k) le low = go (λ before. state_climbs j k before (omega (arith, low))) (cases_lt j (suc k))
    where
      moment : (x : Moment) × (slice_get moments k ≡ Some x)
      moment = moment_at k (omega arith)

      next : IsNext start moments k moment.0
      next = next_of start moments k moment.0 run moment.1

      one : (at k).steps ≤ (at (suc k)).steps
      one = subst (λ (x : Machine). (at k).steps ≤ x.steps) (sym (next.now ∙ next.leads)) (cause_counts moment.0.cause (at k)).0

      go : (j ≤ k → (at j).steps ≤ (at k).steps) → (j < suc k) ⊎ (suc k ≤ j) → (at j).steps ≤ (at (suc k)).steps
      go earlier (inl lt) = let before : (at j).steps ≤ (at k).steps = earlier (omega (arith, lt)) in omega (arith, before, one)
      go earlier (inr ge) = let e : j ≡ suc k = omega arith in subst (λ i. (at i).steps ≤ (at (suc k)).steps) (sym e) (omega arith)

  -- a step before another has a lesser number
  step_climbs : (j k : ℕ) → j < k → k ≤ length moments → (moment : Moment) → slice_get moments j ≡ Some moment → moment.cause ≡ ByStep
      → is_some (actor (at j)) ≡ true → (at j).steps + 1 ≤ (at k).steps
  step_climbs j k lt low moment e by acts =
      let next : IsNext start moments j moment = next_of start moments j moment run e in
      let counted : (at (suc j)).steps ≡ (at j).steps + 1 =
      ap (λ (x : Machine). x.steps) (next.now ∙ next.leads ∙ ap (λ c. caused c (at j)) by) ∙ step_steps (at j) acts in
      let later : (at (suc j)).steps ≤ (at k).steps = state_climbs (suc j) k (omega (arith, lt)) low in
      omega (arith, counted, later)

  -- ---- one moment

  module _ (k : ℕ) (moment : Moment) (there : slice_get moments k ≡ Some moment) where
    abbrev effects : Machine
    effects = effects_of moment.cause (at k)

    next : IsNext start moments k moment
    next = next_of start moments k moment run there

    touch : Touch (at k) moment.cause effects
    touch = touch_of moment.cause (at k)

    claims_after : moment.machine.claims ≡ effects.claims
    claims_after = ap (λ (x : Machine). x.claims) next.leads ∙ (decides moment.cause (at k)).claims

    -- where it isn't a raise, the next state is what it does before the timer
    unraised : ¬ IsRaise (at k) moment.cause → at (suc k) ≡ effects
    unraised none = next.now ∙ next.leads ∙ go (decides moment.cause (at k)).decided
      where
        go : (IsRaise (at k) moment.cause × ((caused moment.cause (at k)).compare ≡ None))
            ⊎ (¬ IsRaise (at k) moment.cause × (caused moment.cause (at k) ≡ effects))
            → caused moment.cause (at k) ≡ effects
        go (inl r) = absurd (none r.0)
        go (inr r) = r.1

    -- what is armed after it was so before the timer
    armed_before : (c : ℕ) → (at (suc k)).compare ≡ Some c → effects.compare ≡ Some c
    armed_before c e = go (decides moment.cause (at k)).decided
      where
        is : caused moment.cause (at k) ≡ at (suc k)
        is = sym (next.now ∙ next.leads)

        go : (IsRaise (at k) moment.cause × ((caused moment.cause (at k)).compare ≡ None))
            ⊎ (¬ IsRaise (at k) moment.cause × (caused moment.cause (at k) ≡ effects))
            → effects.compare ≡ Some c
        go (inl r) = absurd (none-some c (sym r.1 ∙ (ap (λ (x : Machine). x.compare) is ∙ e)))
        go (inr r) = ap (λ (x : Machine). x.compare) (sym r.1 ∙ is) ∙ e

    -- a moment that leaves the timer
    leaves : ((c : ℕ) → ¬ Arms c (at k) moment.cause) → ¬ Disarms (at k) moment.cause
        → ((c : Claim) → (at k).claims TIMER_INTERRUPT ≡ Some c → effects.claims TIMER_INTERRUPT ≡ Some c) → LeavesTimer (at k) moment
    leaves not_armed not_disarmed stands = record {
      not_armed = not_armed;
      not_disarmed = not_disarmed;
      claim_stands = λ e. e.ended (ap (λ f. f TIMER_INTERRUPT) claims_after ∙ stands e.claim e.stood);
    }

    -- what a claim that ended before the timer is after it
    ended_after : EndsClaim (at k) effects → EndsClaim (at k) moment.machine
    ended_after e = record {
      claim = e.claim;
      stood = e.stood;
      ended = λ h. e.ended (ap (λ f. f TIMER_INTERRUPT) (sym claims_after) ∙ h);
    }

    -- what disarms the timer leaves it without a value
    unarmed_after : effects.compare ≡ None → moment.machine.compare ≡ None
    unarmed_after none = go (decides moment.cause (at k)).decided
      where
        is : moment.machine.compare ≡ (caused moment.cause (at k)).compare
        is = ap (λ (x : Machine). x.compare) next.leads

        go : (IsRaise (at k) moment.cause × ((caused moment.cause (at k)).compare ≡ None))
            ⊎ (¬ IsRaise (at k) moment.cause × (caused moment.cause (at k) ≡ effects))
            → moment.machine.compare ≡ None
        go (inl r) = is ∙ r.1
        go (inr r) = is ∙ (ap (λ (x : Machine). x.compare) r.1 ∙ none)

    disarmed : Disarms (at k) moment.cause ⊎ EndsClaim (at k) moment.machine → moment.machine.compare ≡ None
    disarmed by = go by touch
      where
        not_both : (c : ℕ) → Disarms (at k) moment.cause → Arms c (at k) moment.cause → ⊥
        not_both c d a =
            let offsets : 8 ≡ 4 =
            ap (λ (s : TimerStore). s.offset)
            (same_Some (record { offset = 8; width = Word; value = d.value }) (record { offset = 4; width = Word; value = c }) (sym d.store ∙ a.store)) in
            omega (arith, offsets)

        stood : EndsClaim (at k) moment.machine
            → ((claim : Claim) → (at k).claims TIMER_INTERRUPT ≡ Some claim → effects.claims TIMER_INTERRUPT ≡ Some claim) → ⊥
        stood e stands = e.ended (ap (λ f. f TIMER_INTERRUPT) claims_after ∙ stands e.claim e.stood)

        go : Disarms (at k) moment.cause ⊎ EndsClaim (at k) moment.machine → Touch (at k) moment.cause effects → moment.machine.compare ≡ None
        go by (Disarmed none not_armed how) = unarmed_after none
        go (inl d) (Left same not_armed not_disarmed stands) = absurd (not_disarmed d)
        go (inl d) (Armed c arms value stands) = absurd (not_both c d arms)
        go (inr e) (Left same not_armed not_disarmed stands) = absurd (stood e stands)
        go (inr e) (Armed c arms value stands) = absurd (stood e stands)

    -- it is the only moment there
    left_here : LeavesTimer (at k) moment → (j : ℕ) (between : Moment) → j ≡ k → slice_get moments j ≡ Some between → LeavesTimer (at j) between
    left_here h j between same e =
        subst (λ i. LeavesTimer (at i) between) (sym same)
        (subst (LeavesTimer (at k)) (same_moment k moment between there (ap (slice_get moments) (sym same) ∙ e)) h)

  -- ---- armings

  same_arming : (c d i : ℕ) → IsArming c start moments i → IsArming d start moments i → c ≡ d
  same_arming c d i a b =
      ap (λ (s : TimerStore). s.value)
      (same_Some (record { offset = 4; width = Word; value = c }) (record { offset = 4; width = Word; value = d }) (sym a.arms.store ∙ b.arms.store))

  same_armed : (c d place : ℕ) → IsArmedAt c start moments place → IsArmedAt d start moments place → c ≡ d
  same_armed c d zero a b = same_Some c d (sym a ∙ b)
  same_armed c d (suc i) a b = same_arming c d i a b

  -- an arming after a place is that of a moment
  record IsMoment (c place : ℕ) : Type 0 where
    moment : ℕ
    next : place ≡ suc moment
    arming : IsArming c start moments moment

  moment_of : (c place i : ℕ) → i < place → IsArmedAt c start moments place → IsMoment c place
  moment_of c zero i lt a = absurd (omega (arith, lt))
  moment_of c (suc k) i lt a = record { moment = k; next = refl; arming = a }

  -- up to before moment k the timer is armed with this value, since this place
  record IsSince (c k : ℕ) : Type 0 where
    place : ℕ
    armed : IsArmedAt c start moments place
    before : place ≤ k
    left : (j : ℕ) (between : Moment) → place ≤ j → j < k → slice_get moments j ≡ Some between → LeavesTimer (at j) between

  newly : (c d k : ℕ) (moment : Moment) → slice_get moments k ≡ Some moment → Arms d (at k) moment.cause → Some d ≡ Some c → IsSince c (suc k)
  newly c d k moment there arms e = record {
    place = suc k;
    armed = record { moment = moment; there = there; arms = subst (λ v. Arms v (at k) moment.cause) (same_Some d c e) arms };
    before = omega arith;
    left = λ j between p q h. absurd (omega (arith, p, q));
  }

  longer : (c k : ℕ) (moment : Moment) → slice_get moments k ≡ Some moment → LeavesTimer (at k) moment → IsSince c k → IsSince c (suc k)
  longer c k moment there h s = record {
    place = s.place;
    armed = s.armed;
    before = let le : s.place ≤ k = s.before in omega (arith, le);
    left = λ j between p q e. go j between p q e (cases_lt j k);
  }
    where
      go : (j : ℕ) (between : Moment) → s.place ≤ j → j < suc k → slice_get moments j ≡ Some between → (j < k) ⊎ (k ≤ j)
          → LeavesTimer (at j) between
      go j between p q e (inl lt) = s.left j between p lt e
      go j between p q e (inr ge) = left_here k moment there h j between (omega (arith, q, ge)) e

  -- what is armed after what a moment does before the timer was armed by it, or since before
  onward : (c k : ℕ) (moment : Moment) → slice_get moments k ≡ Some moment → (effects_of moment.cause (at k)).compare ≡ Some c
      → ((at k).compare ≡ Some c → IsSince c k) → IsSince c (suc k)
  onward c k moment there e earlier = go (touch k moment there)
    where
      go : Touch (at k) moment.cause (effects_of moment.cause (at k)) → IsSince c (suc k)
      go (Left same not_armed not_disarmed stands) =
          longer c k moment there (leaves k moment there not_armed not_disarmed stands) (earlier (sym same ∙ e))
      go (Armed d arms value stands) = newly c d k moment there arms (sym value ∙ e)
      go (Disarmed none not_armed by) = absurd (none-some c (sym none ∙ e))

  since : (c k : ℕ) → k ≤ length moments → (at k).compare ≡ Some c → IsSince c k
  since c zero low e = record {
    place = 0;
    armed = ap (λ (x : Machine). x.compare) (sym (state_first start moments)) ∙ e;
    before = omega arith;
    left = λ j between p q h. absurd (omega (arith, q));
  }
  since c (suc k) low e =
      let found = moment_at k (omega (arith, low)) in
      onward c k found.0 found.1 (armed_before k found.0 found.1 c e) (λ h. since c k (omega (arith, low)) h)

  -- ---- raises

  -- the timer raises in moment j by an arming of this value that nothing touched since
  record IsArmedFor (number j : ℕ) : Type 0 where
    place : ℕ
    armed : IsArmedAt number start moments place
    order : place ≤ suc j
    left : IsLeft start moments place j

  due_effects : (j : ℕ) (moment : Moment) → IsRaise (at j) moment.cause → (effects_of moment.cause (at j)).compare ≡ Some ((at j).steps + 1)
  due_effects j moment r = ap (λ c. (effects_of c (at j)).compare) r.step ∙ r.due

  armed_for : (j : ℕ) → IsRaising start moments j → IsArmedFor ((at j).steps + 1) j
  armed_for j raising =
      let low : j < length moments = slice_get_within moments j raising.moment raising.there in
      let s : IsSince ((at j).steps + 1) (suc j) =
      onward ((at j).steps + 1) j raising.moment raising.there (due_effects j raising.moment raising.raise)
      (λ h. since ((at j).steps + 1) j (omega (arith, low)) h) in
      record {
        place = s.place;
        armed = s.armed;
        order = s.before;
        left = λ k between p q e. s.left k between p (omega (arith, q)) e;
      }

  -- nothing between is an arming
  last_of : (place j : ℕ) → IsLeft start moments place j → (k other : ℕ) → place ≤ k → k ≤ j → ¬ IsArming other start moments k
  last_of place j left k other p q a = (left k a.moment p q a.there).not_armed other a.arms

  by_an_arming : (j : ℕ) → IsRaising start moments j → IsRaisedByAny start moments j
  by_an_arming j raising =
      let a : IsArmedFor ((at j).steps + 1) j = armed_for j raising in
      let order : a.place ≤ suc j = a.order in
      record {
        compare = (at j).steps + 1;
        place = a.place;
        raised = record { armed = a.armed; raising = raising; order = omega (arith, order); last = last_of a.place j a.left };
      }

  -- the arming is the one that nothing touched since
  record IsThat (c place j : ℕ) : Type 0 where
    value : c ≡ (at j).steps + 1
    left : IsLeft start moments place j

  that : (c place j : ℕ) → IsRaisedBy c start moments place j → IsThat c place j
  that c place j raised = go (cases_lt place a.place) (cases_lt a.place place)
    where
      a : IsArmedFor ((at j).steps + 1) j
      a = armed_for j raised.raising

      latest : a.place ≤ suc j
      latest = a.order

      this : place ≤ j + 1
      this = raised.order

      go : (place < a.place) ⊎ (a.place ≤ place) → (a.place < place) ⊎ (place ≤ a.place) → IsThat c place j
      go (inl lt) q =
          let later : IsMoment ((at j).steps + 1) a.place = moment_of ((at j).steps + 1) a.place place lt a.armed in
          let next : a.place ≡ suc later.moment = later.next in
          absurd (raised.last later.moment ((at j).steps + 1) (omega (arith, lt, next)) (omega (arith, next, latest)) later.arming)
      go (inr ge) (inl lt) =
          let later : IsMoment c place = moment_of c place a.place lt raised.armed in
          let next : place ≡ suc later.moment = later.next in
          absurd (last_of a.place j a.left later.moment c (omega (arith, lt, next)) (omega (arith, next, this)) later.arming)
      go (inr ge) (inr le) =
          let same : a.place ≡ place = omega (arith, ge, le) in
          record {
            value = same_armed c ((at j).steps + 1) place raised.armed (subst (IsArmedAt ((at j).steps + 1) start moments) same a.armed);
            left = subst (λ k. IsLeft start moments k j) same a.left;
          }

  only_there : (c place j : ℕ) → IsRaisedBy c start moments place j → IsStepOf c start moments j
  only_there c place j raised = record {
    moment = raised.raising.moment;
    there = raised.raising.there;
    step = raised.raising.raise.step;
    acts = raised.raising.raise.acts;
    numbered = sym (that c place j raised).value;
  }

  -- ---- an arming that nothing touches

  module _ (c place j : ℕ) (armed : IsArmedAt c start moments place) (low : j < length moments) (left : IsLeft start moments place j) where
    -- its moments leave it armed before the timer
    armed_by : (k : ℕ) (moment : Moment) → place ≤ suc k → k ≤ j → slice_get moments k ≡ Some moment
        → (place ≤ k → (at k).compare ≡ Some c) → (effects_of moment.cause (at k)).compare ≡ Some c
    armed_by k moment p q there earlier = go (cases_lt k place) (touch k moment there)
      where
        here : k < place → Arms c (at k) moment.cause
        here lt =
            let same : place ≡ suc k = omega (arith, p, lt) in
            let moved : IsArming c start moments k = subst (IsArmedAt c start moments) same armed in
            subst (λ (x : Moment). Arms c (at k) x.cause) (same_moment k moved.moment moment moved.there there) moved.arms

        go : (k < place) ⊎ (place ≤ k) → Touch (at k) moment.cause (effects_of moment.cause (at k)) → (effects_of moment.cause (at k)).compare ≡ Some c
        go (inr le) (Left same not_armed not_disarmed stands) = same ∙ earlier le
        go (inr le) (Armed d arms value stands) = absurd ((left k moment le q there).not_armed d arms)
        go (inr le) (Disarmed none not_armed (inl disarms)) = absurd ((left k moment le q there).not_disarmed disarms)
        go (inr le) (Disarmed none not_armed (inr ends)) = absurd ((left k moment le q there).claim_stands (ended_after k moment there ends))
        go (inl lt) (Left same not_armed not_disarmed stands) = absurd (not_armed c (here lt))
        go (inl lt) (Armed d arms value stands) =
            value
            ∙ ap Some (same_arming d c k (record { moment = moment; there = there; arms = arms })
            (record { moment = moment; there = there; arms = here lt }))
        go (inl lt) (Disarmed none not_armed by) = absurd (not_armed c (here lt))

    -- where none of the moments before one is a raise, it is still armed there
    abbrev Quiet : ℕ → Type 0
    Quiet end =
        (k : ℕ) (moment : Moment) → place ≤ suc k → k < end → slice_get moments k ≡ Some moment
        → (effects_of moment.cause (at k)).compare ≡ Some c → ¬ IsRaise (at k) moment.cause

    held : (end : ℕ) → Quiet end → end ≤ suc j → (k : ℕ) → place ≤ k → k ≤ end → (at k).compare ≡ Some c
    held end quiet room zero p q =
        let first : place ≡ 0 = omega (arith, p) in
        let started : start.compare ≡ Some c = subst (IsArmedAt c start moments) first armed in
        ap (λ (x : Machine). x.compare) (state_first start moments) ∙ started
    held end quiet room (suc k) p q =
        let found = moment_at k (omega (arith, low, q, room)) in
        let value : (effects_of found.0.cause (at k)).compare ≡ Some c =
        armed_by k found.0 p (omega (arith, q, room)) found.1 (λ le. held end quiet room k le (omega (arith, q))) in
        ap (λ (x : Machine). x.compare) (unraised k found.0 found.1 (quiet k found.0 p (omega (arith, q)) found.1 value)) ∙ value

    -- a raise in between is its own
    raised_by : (k : ℕ) (moment : Moment) → place ≤ suc k → k ≤ j → slice_get moments k ≡ Some moment → IsRaise (at k) moment.cause
        → IsRaisedBy c start moments place k
    raised_by k moment p q there r = record {
      armed = armed;
      raising = record { moment = moment; there = there; raise = r };
      order = omega (arith, p);
      last = λ n other le up. last_of place j left n other le (omega (arith, up, q));
    }

    stays : place ≤ j + 1 → ((k : ℕ) → k ≤ j → ¬ IsRaisedBy c start moments place k) → (at (suc j)).compare ≡ Some c
    stays order none =
        held (suc j) (λ k moment p q there e r. none k (omega (arith, q)) (raised_by k moment p (omega (arith, q)) there r)) (omega arith) (suc j)
        (omega (arith, order)) (omega arith)

  -- ---- it raises at its step

  module _ (c place j : ℕ) (armed : IsArmedAt c start moments place) (at_step : IsStepOf c start moments j) (left : IsLeft start moments place j) where
    low : j < length moments
    low = slice_get_within moments j at_step.moment at_step.there

    -- no moment before that step is a raise
    no_raise : Quiet c place j armed low left j
    no_raise k moment order lt there e r =
        let value : (at k).steps + 1 ≡ c = same_Some ((at k).steps + 1) c (sym (due_effects k moment r) ∙ e) in
        let number : (at j).steps + 1 ≡ c = at_step.numbered in
        let less : (at k).steps + 1 ≤ (at j).steps = step_climbs k j lt (omega (arith, low)) moment there r.step r.acts in
        omega (arith, value, number, less)

    raises : place ≤ suc j → IsRaisedBy c start moments place j
    raises order =
        let value : (effects_of at_step.moment.cause (at j)).compare ≡ Some c =
        armed_by c place j armed low left j at_step.moment order (omega arith) at_step.there
        (λ le. held c place j armed low left j no_raise (omega arith) j le (omega arith)) in
        raised_by c place j armed low left j at_step.moment order (omega arith) at_step.there
        (record {
          step = at_step.step;
          acts = at_step.acts;
          due = ap (λ cause. (effects_of cause (at j)).compare) (sym at_step.step) ∙ (value ∙ ap Some (sym at_step.numbered));
        })

  -- ---- and so once

  same_step : (c j k : ℕ) → IsStepOf c start moments j → IsStepOf c start moments k → j ≡ k
  same_step c j k a b = go (cases_lt j k) (cases_lt k j)
    where
      low_j : j < length moments
      low_j = slice_get_within moments j a.moment a.there

      low_k : k < length moments
      low_k = slice_get_within moments k b.moment b.there

      a_number : (at j).steps + 1 ≡ c
      a_number = a.numbered

      b_number : (at k).steps + 1 ≡ c
      b_number = b.numbered

      go : (j < k) ⊎ (k ≤ j) → (k < j) ⊎ (j ≤ k) → j ≡ k
      go (inl lt) q =
          let less : (at j).steps + 1 ≤ (at k).steps = step_climbs j k lt (omega (arith, low_k)) a.moment a.there a.step a.acts in
          absurd (omega (arith, less, a_number, b_number))
      go (inr ge) (inl lt) =
          let less : (at k).steps + 1 ≤ (at j).steps = step_climbs k j lt (omega (arith, low_j)) b.moment b.there b.step b.acts in
          absurd (omega (arith, less, a_number, b_number))
      go (inr ge) (inr le) = omega (arith, ge, le)

  steps_since : (place j : ℕ) → place ≤ j + 1 → j ≤ length moments → steps_at start moments place ≤ (at j).steps
  steps_since zero j order low =
      subst (λ (x : Machine). x.steps ≤ (at j).steps) (state_first start moments) (state_climbs 0 j (omega arith) low)
  steps_since (suc i) j order low = state_climbs i j (omega (arith, order)) low

  never_past : (c place j : ℕ) → IsArmedAt c start moments place → c ≤ steps_at start moments place → ¬ IsRaisedBy c start moments place j
  never_past c place j armed past raised =
      let there : IsStepOf c start moments j = only_there c place j raised in
      let number : (at j).steps + 1 ≡ c = there.numbered in
      let low : j < length moments = slice_get_within moments j there.moment there.there in
      let climbs : steps_at start moments place ≤ (at j).steps = steps_since place j raised.order (omega (arith, low)) in
      omega (arith, number, past, climbs)

  law : TimerLaw start moments
  law = record {
    by_an_arming = by_an_arming;
    once = λ c place j k a b. same_step c j k (only_there c place j a) (only_there c place k b);
    only_there = only_there;
    exactly = λ c place j armed. (
      λ raised. record { order = raised.order; reached = only_there c place j raised; left = (that c place j raised).left },
      λ due.
          let order : place ≤ j + 1 = due.order in
          raises c place j armed due.reached due.left (omega (arith, order)),
    );
    stays = λ c place j moment armed order there left none.
        ap (λ (x : Machine). x.compare) (sym (next j moment there).now)
        ∙ stays c place j armed (slice_get_within moments j moment there) left order none;
    never_past = never_past;
    disarmed = disarmed;
  }

pub timer_holds : TimerHolds
timer_holds = law

pub armings_are_moments : ArmingsAreMoments
armings_are_moments start moments c zero unarmed armed = absurd (none-some c (sym unarmed ∙ armed))
armings_are_moments start moments c (suc i) unarmed armed = let next : suc i ≡ i + 1 = omega arith in (i, next, armed)
