-- Between two turns of one thread each other one that was Ready all the while had one.
use Rattle.std.proofs.Common.{◌≡◌, ◌≢◌, ℕ, zero, suc, ◌<◌, ◌≤◌, ◌⊎◌, inl, inr, true, List, [], ◌∷◌, slice_get, Option, Some, None, refl, sym, ap, ◌∙◌, subst, arith}
use Rattle.std.specs.Prelude.{IsTrue}
use Rattle.std.proofs.lemmas.Bool.{cases_lt}
use Rattle.std.proofs.lemmas.Option.{none-some, same_Some}
use Rattle.xk_base.specs.declared.events.Event.{Event}
use Rattle.xk_base.specs.declared.ids.ThreadId.{ThreadId}
use Rattle.xk_base.specs.Tables.Circle.{is_thread_id}
use Rattle.machine_laws.specs.HistoryMoments.{moments_of}
use Rattle.machine_laws.proofs.Histories.MomentLemmas.{history_is_run}
use Rattle.machine_model.specs.Runs.Matched.{Matched}
use Rattle.machine_model.specs.Runs.Moments.{Cause, ByStep, ByPick, ByIrq, ByKill, ByTurn, Moment, IsRun, caused, state_at}
use Rattle.machine_model.specs.State.Machine.{Machine}
use Rattle.machine_model.specs.State.Order.{actor, ready_at}
use Rattle.machine_laws.proofs.Stepping.CursorStepLemmas.{every_cause_keeps_cursor}
use Rattle.machine_laws.proofs.Stepping.EveryStepLemmas.{every_cause_keeps}
use Rattle.machine_laws.proofs.Threading.ThreadStepLemmas.{actor_ready}
use Rattle.transcript_laws.specs.Turns.{AreTurnsFair, DoesStep, HasTurn, HasTwoTurns, IsLeftBetween, IsTurnUsed, IsWaitedFor, KeepsOrder}
use Rattle.transcript_laws.proofs.Turning.NearingLemmas.{IsOfAnother, actor_nearer, cause_nears, cursor_acts, cursor_stays, one_or_other}
use Rattle.transcript_laws.proofs.Turning.NearingLemmas.{processes_stay, ready_known, step_nearer}
use Rattle.transcript_laws.proofs.Turning.RoundLemmas.{far, same_far}

-- ---- runs

-- a matched state, whose cursor is the id of a thread of so many processes
pub record IsSound (processes : ℕ) (m : Machine) : Type 0 where
  pub matched : Matched m
  pub same : m.processes ≡ processes
  pub cursor : is_thread_id m.processes m.cursor ≡ true

sound_run : (n : ℕ) (start : Machine) (moments : List Moment) → IsSound n start → IsRun start moments → (i : ℕ) → IsSound n (state_at start moments i)
unfolding IsRun state_at
sound_run n start moments h run zero = h
sound_run n start [] h run (suc i) = h
sound_run n start (moment ∷ moments) h run (suc i) =
    sound_run n moment.machine moments
    (subst (IsSound n) (sym run.0) (record {
      matched = every_cause_keeps moment.cause start h.matched;
      same = processes_stay moment.cause start ∙ h.same;
      cursor = every_cause_keeps_cursor moment.cause start h.matched h.cursor;
    })) run.1 i

-- the next state comes of this one by a moment of the run, or is the same after its end
pub data Link (start : Machine) (moments : List Moment) (i : ℕ) : Type 0 where
  Caused : (moment : Moment) → slice_get moments i ≡ Some moment
      → state_at start moments (suc i) ≡ caused moment.cause (state_at start moments i) → Link start moments i
  Ended : slice_get moments i ≡ None → state_at start moments (suc i) ≡ state_at start moments i → Link start moments i

later_link : (start : Machine) (first : Moment) (moments : List Moment) (i : ℕ) → Link first.machine moments i → Link start (first ∷ moments) (suc i)
unfolding state_at
later_link start first moments i (Caused moment there e) = Caused moment there e
later_link start first moments i (Ended none e) = Ended none e

pub link : (start : Machine) (moments : List Moment) → IsRun start moments → (i : ℕ) → Link start moments i
unfolding IsRun state_at
link start [] run zero = Ended refl refl
link start [] run (suc i) = Ended refl refl
link start (moment ∷ moments) run zero = Caused moment refl run.0
link start (moment ∷ moments) run (suc i) = later_link start moment moments i (link moment.machine moments run.1 i)

-- ---- a measure that falls, until something is seen

-- seen between the two
abbrev Between : (ℕ → Type 0) → ℕ → ℕ → Type 0
Between Seen a b = (k : ℕ) × (a ≤ k) × (k < b) × Seen k

chain : (F : ℕ → ℕ) (Seen : ℕ → Type 0) (low high : ℕ) → ((i : ℕ) → low ≤ i → i < high → Seen i ⊎ (F (suc i) ≤ F i))
    → (a b : ℕ) → low ≤ a → a ≤ b → b ≤ high → Between Seen a b ⊎ (F b ≤ F a)
chain F Seen low high one a zero p q r =
    let same : F zero ≡ F a = ap F (omega arith) in
    inr (omega arith)
chain F Seen low high one a (suc b) p q r = elim (cases_lt b a) [
  | inl below ↦
      let same : F (suc b) ≡ F a = ap F (omega arith) in
      inr (omega arith)
  | inr above ↦ go above (chain F Seen low high one a b p above (omega arith)) (one b (omega arith) (omega arith))
]
  where
    go : a ≤ b → Between Seen a b ⊎ (F b ≤ F a) → Seen b ⊎ (F (suc b) ≤ F b) → Between Seen a (suc b) ⊎ (F (suc b) ≤ F a)
    go above (inl seen) later = let low : seen.0 < b = seen.2 in inl (seen.0, seen.1, omega arith, seen.3)
    go above (inr less) (inr next) = inr (omega arith)
    go above (inr less) (inl seen) = inl (b, above, omega arith, seen)

-- ---- two turns of one thread

module _ (start : Machine) (moments : List Moment) (who d : ThreadId) (first second : ℕ)
    (sound : (i : ℕ) → IsSound start.processes (state_at start moments i)) (links : (i : ℕ) → Link start moments i)
    (waited : IsWaitedFor who d start moments first second) where
  abbrev at : ℕ → Machine
  at i = state_at start moments i

  abbrev n : ℕ
  n = start.processes

  -- how far the cursor is from the thread that is waited for
  abbrev F : ℕ → ℕ
  F i = far n d (at i).cursor

  abbrev turns : HasTwoTurns who start moments first second
  turns = waited.turns

  ready_between : (i : ℕ) → first ≤ i → i < second → ready_at (at i) d ≡ true
  ready_between i p q = waited.ready i p (omega arith)

  known : is_thread_id n d ≡ true
  known =
      subst (λ k. is_thread_id k d ≡ true) (sound second).same
      (ready_known (at second) (sound second).matched d (waited.ready second (let l : first < second = turns.later in omega arith) (omega arith)))

  cursor_known : (i : ℕ) → is_thread_id n (at i).cursor ≡ true
  cursor_known i = subst (λ k. is_thread_id k (at i).cursor ≡ true) (sound i).same (sound i).cursor

  actor_known : (i : ℕ) (other : ThreadId) → HasTurn other (at i) → is_thread_id n other ≡ true
  actor_known i other acts =
      subst (λ k. is_thread_id k other ≡ true) (sound i).same (ready_known (at i) (sound i).matched other (actor_ready (at i) other acts))

  -- one moment, where the cursor isn't there and the step is another thread's
  nears_by : (i : ℕ) → first ≤ i → i < second → (at i).cursor ≢ d → (moment : Moment) → slice_get moments i ≡ Some moment
      → IsOfAnother d (at i) moment.cause → far n d (caused moment.cause (at i)).cursor ≤ F i
  nears_by i p q apart moment there others =
      subst (λ k. far k d (caused moment.cause (at i)).cursor ≤ far k d (at i).cursor) (sound i).same
      (cause_nears moment.cause (at i) d (sound i).matched (sound i).cursor (ready_between i p q) (waited.order i moment p q there) apart others)

  nears : (i : ℕ) → first ≤ i → i < second → (at i).cursor ≢ d → ((other : ThreadId) → HasTurn other (at i) → other ≢ d) → F (suc i) ≤ F i
  nears i p q apart others = go (links i)
    where
      go : Link start moments i → F (suc i) ≤ F i
      go (Ended none e) = let same : F (suc i) ≡ F i = ap (λ (m : Machine). far n d m.cursor) e in omega arith
      go (Caused moment there e) =
          let same : F (suc i) ≡ far n d (caused moment.cause (at i)).cursor = ap (λ (m : Machine). far n d m.cursor) e in
          let near : far n d (caused moment.cause (at i)).cursor ≤ F i = nears_by i p q apart moment there (λ step. others) in
          omega arith

  -- the step of another thread leaves the cursor no farther than that thread
  stepped : (i : ℕ) → first ≤ i → i < second → (other : ThreadId) → DoesStep other start moments i → other ≢ d → F (suc i) ≤ far n d other
  stepped i p q other does apart = go (links i)
    where
      ordered : (moment : Moment) → slice_get moments i ≡ Some moment → moment.cause ≡ ByStep → KeepsOrder ByStep (at i)
      ordered moment there step = subst (λ c. KeepsOrder c (at i)) step (waited.order i moment p q there)

      go : Link start moments i → F (suc i) ≤ far n d other
      go (Ended none e) = absurd (none-some does.moment (sym none ∙ does.there))
      go (Caused moment there e) =
          let cause : moment.cause ≡ ByStep = ap (λ (x : Moment). x.cause) (same_Some moment does.moment (sym there ∙ does.there)) ∙ does.step in
          let same : F (suc i) ≡ far n d (caused ByStep (at i)).cursor =
          ap (λ (m : Machine). far n d m.cursor) e ∙ ap (λ c. far n d (caused c (at i)).cursor) cause in
          let near : far n d (caused ByStep (at i)).cursor ≤ far n d other =
          subst (λ k. far k d (caused ByStep (at i)).cursor ≤ far k d other) (sound i).same
          (step_nearer (at i) d (sound i).matched (sound i).cursor (ready_between i p q) other does.turn apart (ordered moment there cause)) in
          omega arith

  -- ---- the two turns, whatever is to be seen in between

  module _ (Seen : ℕ → Type 0) (one : (i : ℕ) → first < i → i < second → Seen i ⊎ (F (suc i) ≤ F i))
      (seen_step : (i : ℕ) → DoesStep d start moments i → Seen i) where
    abbrev Found : Type 0
    Found = (k : ℕ) × (first < k) × (k < second) × Seen k

    after_first : F (suc first) ≤ far n d who
    after_first = stepped first (omega arith) turns.later who turns.step waited.apart

    run_down : (a b : ℕ) → first < a → a ≤ b → b ≤ second → Found ⊎ (F b ≤ F a)
    run_down a b p q r = go (chain F Seen (suc first) second (λ i low high. one i (omega arith) high) a b (omega arith) q r)
      where
        go : Between Seen a b ⊎ (F b ≤ F a) → Found ⊎ (F b ≤ F a)
        go (inl (k, low, high, seen)) = inl (k, omega arith, omega arith, seen)
        go (inr less) = inr less

    -- at its second turn the cursor can't be nearer
    not_nearer : F second < far n d who → ⊥
    not_nearer less = go (one_or_other (at second).cursor d)
      where
        go : ((at second).cursor ≡ d) ⊎ ((at second).cursor ≢ d) → ⊥
        go (inl here) =
            waited.apart (same_Some who d
            (sym turns.again.turn ∙ cursor_acts (at second) d (waited.ready second (let l : first < second = turns.later in omega arith) (omega arith)) here))
        go (inr apart) =
            let near : far n d who ≤ F second =
            subst (λ k. far k d who ≤ far k d (at second).cursor) (sound second).same
            (actor_nearer (at second) d (sound second).matched (sound second).cursor
            (waited.ready second (let l : first < second = turns.later in omega arith) (omega arith)) who turns.again.turn apart) in
            omega arith

    -- nearer at some moment in between, and so at the second turn
    from_nearer : (a : ℕ) → first < a → a ≤ second → F a < far n d who → Found
    from_nearer a p q less = go (run_down a second p q (omega arith))
      where
        go : Found ⊎ (F second ≤ F a) → Found
        go (inl found) = found
        go (inr still) = absurd (not_nearer (omega arith))

    unequal : (other : ThreadId) → is_thread_id n other ≡ true → other ≢ who → far n d other ≢ far n d who
    unequal other p apart e = apart (same_far n d other who known p (actor_known first who turns.step.turn) e)

    by_left : IsLeftBetween who start moments first second → Found
    by_left (inr (k, p, q, apart)) = go (run_down (suc first) k (omega arith) (omega arith) q)
      where
        go : Found ⊎ (F k ≤ F (suc first)) → Found
        go (inl found) = found
        go (inr less) =
            let other : far n d (at k).cursor ≢ far n d who = unequal (at k).cursor (cursor_known k) apart in
            let low : F (suc first) ≤ far n d who = after_first in
            from_nearer k p q (strict (F k) (far n d who) (omega arith) other)
          where
            strict : (a b : ℕ) → a ≤ b → a ≢ b → a < b
            strict a b le other = omega arith
    by_left (inl (k, other, p, q, apart, does)) = by_other (one_or_other other d)
      where
        strict : (a b : ℕ) → a ≤ b → a ≢ b → a < b
        strict a b le other = omega arith

        by_other : (other ≡ d) ⊎ (other ≢ d) → Found
        by_other (inl same) = (k, p, q, seen_step k (subst (λ x. DoesStep x start moments k) same does))
        by_other (inr off) = go (run_down (suc first) k (omega arith) (omega arith) (omega arith)) (one_or_other (at k).cursor d)
          where
            less_then : far n d other ≤ F k → F k ≤ F (suc first) → Found
            less_then near low =
                let first_low : F (suc first) ≤ far n d who = after_first in
                let step_low : F (suc k) ≤ far n d other = stepped k (omega arith) q other does off in
                let less : far n d other < far n d who =
                strict (far n d other) (far n d who) (omega arith) (unequal other (actor_known k other does.turn) apart) in
                from_nearer (suc k) (omega arith) (omega arith) (omega arith)

            go : Found ⊎ (F k ≤ F (suc first)) → ((at k).cursor ≡ d) ⊎ ((at k).cursor ≢ d) → Found
            go (inl found) here = found
            go (inr low) (inl here) =
                absurd (off (same_Some other d (sym does.turn ∙ cursor_acts (at k) d (ready_between k (omega arith) q) here)))
            go (inr low) (inr away) =
                less_then
                (subst (λ j. far j d other ≤ far j d (at k).cursor) (sound k).same
                (actor_nearer (at k) d (sound k).matched (sound k).cursor (ready_between k (omega arith) q) other does.turn away)) low

    pub found : Found
    found = by_left turns.left

  -- ---- a turn is had

  had : (i : ℕ) → first < i → i < second → HasTurn d (at i) ⊎ (F (suc i) ≤ F i)
  had i p q = go (actor (at i)) refl
    where
      off_cursor : (actor (at i) ≡ Some d → ⊥) → (at i).cursor ≢ d
      off_cursor none e = none (cursor_acts (at i) d (ready_between i (omega arith) q) e)

      by : (actor (at i) ≡ Some d → ⊥) → F (suc i) ≤ F i
      by none = nears i (omega arith) q (off_cursor none) (λ other acts e. none (acts ∙ ap (λ x. Some x) e))

      go : (o : Option ThreadId) → actor (at i) ≡ o → HasTurn d (at i) ⊎ (F (suc i) ≤ F i)
      go None e = inr (by (λ f. none-some d (sym e ∙ f)))
      go (Some other) e = one_of (one_or_other other d)
        where
          one_of : (other ≡ d) ⊎ (other ≢ d) → HasTurn d (at i) ⊎ (F (suc i) ≤ F i)
          one_of (inl same) = inl (e ∙ ap (λ x. Some x) same)
          one_of (inr off) = inr (by (λ f. off (same_Some other d (sym e ∙ f))))

  pub turn_had : (k : ℕ) × (first < k) × (k < second) × HasTurn d (at k)
  turn_had = found (λ i. HasTurn d (at i)) had (λ i does. does.turn)

  -- ---- .. and used

  module _ (used : IsTurnUsed d start moments first second) where
    did : (i : ℕ) → first < i → i < second → DoesStep d start moments i ⊎ (F (suc i) ≤ F i)
    did i p q = go (links i)
      where
        still : (moment : Moment) → slice_get moments i ≡ Some moment → F (suc i) ≡ far n d (caused moment.cause (at i)).cursor
            → moment.cause ≢ ByStep → moment.cause ≢ ByTurn → DoesStep d start moments i ⊎ (F (suc i) ≤ F i)
        still moment there same step turn =
            let stays : far n d (caused moment.cause (at i)).cursor ≡ F i =
            ap (far n d) (cursor_stays moment.cause (at i) (waited.order i moment (omega arith) q there) step turn) in
            inr (omega arith)

        by_cause : (moment : Moment) → slice_get moments i ≡ Some moment → (cause : Cause) → moment.cause ≡ cause
            → F (suc i) ≡ far n d (caused moment.cause (at i)).cursor → DoesStep d start moments i ⊎ (F (suc i) ≤ F i)
        by_cause moment there ByStep e same = of_actor (actor (at i)) refl
          where
            does : HasTurn d (at i) → DoesStep d start moments i
            does acts = record { moment = moment; there = there; step = e; turn = acts }

            off : (actor (at i) ≡ Some d → ⊥) → DoesStep d start moments i ⊎ (F (suc i) ≤ F i)
            off none =
                inr (nears i (omega arith) q (λ here. none (cursor_acts (at i) d (ready_between i (omega arith) q) here))
                (λ other acts f. none (acts ∙ ap (λ x. Some x) f)))

            of_actor : (o : Option ThreadId) → actor (at i) ≡ o → DoesStep d start moments i ⊎ (F (suc i) ≤ F i)
            of_actor None f = off (λ g. none-some d (sym f ∙ g))
            of_actor (Some other) f = one_of (one_or_other other d)
              where
                one_of : (other ≡ d) ⊎ (other ≢ d) → DoesStep d start moments i ⊎ (F (suc i) ≤ F i)
                one_of (inl is) = inl (does (f ∙ ap (λ x. Some x) is))
                one_of (inr other_one) = off (λ g. other_one (same_Some other d (sym f ∙ g)))
        by_cause moment there ByTurn e same =
            let near : far n d (caused moment.cause (at i)).cursor ≤ F i =
            nears_by i (omega arith) q (used i moment (omega arith) q there e) moment there (λ step. absurd (let f : ByTurn ≡ ByStep = sym e ∙ step in cc)) in
            inr (omega arith)
        by_cause moment there (ByPick x) e same =
            still moment there same (λ step. let f : ByPick x ≡ ByStep = sym e ∙ step in cc) (λ turn. let f : ByPick x ≡ ByTurn = sym e ∙ turn in cc)
        by_cause moment there (ByIrq x) e same =
            still moment there same (λ step. let f : ByIrq x ≡ ByStep = sym e ∙ step in cc) (λ turn. let f : ByIrq x ≡ ByTurn = sym e ∙ turn in cc)
        by_cause moment there (ByKill x) e same =
            still moment there same (λ step. let f : ByKill x ≡ ByStep = sym e ∙ step in cc) (λ turn. let f : ByKill x ≡ ByTurn = sym e ∙ turn in cc)

        go : Link start moments i → DoesStep d start moments i ⊎ (F (suc i) ≤ F i)
        go (Ended none e) = let same : F (suc i) ≡ F i = ap (λ (m : Machine). far n d m.cursor) e in inr (omega arith)
        go (Caused moment there e) = by_cause moment there moment.cause refl (ap (λ (m : Machine). far n d m.cursor) e)

  pub step_done : IsTurnUsed d start moments first second → (k : ℕ) × (first < k) × (k < second) × DoesStep d start moments k
  step_done used = found (λ i. DoesStep d start moments i) (did used) (λ i does. does)

-- ---- runs and histories

pub run_is_fair : (start : Machine) (moments : List Moment) → Matched start → IsTrue (is_thread_id start.processes start.cursor) → IsRun start moments
    → AreTurnsFair start moments
run_is_fair start moments h cursor run = record {
  turn = λ who other first second waited. turn_had start moments who other first second sound links waited;
  step = λ who other first second waited used. step_done start moments who other first second sound links waited used;
}
  where
    sound : (i : ℕ) → IsSound start.processes (state_at start moments i)
    sound = sound_run start.processes start moments (record { matched = h; same = refl; cursor = cursor }) run

    links : (i : ℕ) → Link start moments i
    links = link start moments run

pub history_is_fair : (events : List Event) (limit : ℕ) (start : Machine) → Matched start → IsTrue (is_thread_id start.processes start.cursor)
    → AreTurnsFair start (moments_of events limit start)
history_is_fair events limit start h cursor = run_is_fair start (moments_of events limit start) h cursor (history_is_run events limit start)
