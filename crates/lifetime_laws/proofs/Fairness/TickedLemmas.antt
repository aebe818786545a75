-- The moments of ticks of a bounded length: how many steps the tick that is under way has left, and whether it had one.
use Rattle.std.proofs.Common.{◌≡◌, ℕ, zero, suc, ◌-◌, ◌≤◌, ◌==◌, Bool, true, false, List, [], ◌∷◌, ◌++◌, Option, is_some, refl, sym, arith}
use Rattle.std.specs.Prelude.{if◌then◌else◌, None, Some}
use Rattle.std.specs.Bool.{⊤}
use Rattle.std.proofs.lemmas.Bool.{false≢true}
use Rattle.std.proofs.lemmas.List.Elements.{All-head, All-tail}
use Rattle.xk_base.specs.declared.events.Event.{Event}
use Rattle.xk_base.specs.declared.events.Event.TheVariants.{Tick, Pick, Irq, Kill}
use Rattle.xk_base.specs.declared.ids.ThreadId.{ThreadId}
use Rattle.machine_laws.specs.History.{behind, play, reached, stopped, ticks}
use Rattle.machine_laws.specs.HistoryMoments.{event_moments, moments_of, tick_moments}
use Rattle.machine_model.specs.Runs.Moments.{Cause, ByStep, ByPick, ByIrq, ByKill, ByTurn, Moment, moment_of}
use Rattle.machine_model.specs.State.Machine.{Machine}
use Rattle.machine_model.specs.State.Order.{actor, turn}
use Rattle.machine_model.specs.Stepping.Events.{nothing}
use Rattle.machine_model.specs.Stepping.Step.{step}
use Rattle.lifetime_laws.specs.Scheduling.{AreTicksUpTo, IsTickUpTo}

-- by the cause of a moment: this of a step, that of the end of a tick, and there is no other
abbrev pub ByKind : Cause → Type 0 → Type 0 → Type 0
ByKind ByStep this that = this
ByKind (ByPick who) this that = ⊥
ByKind (ByIrq k) this that = ⊥
ByKind (ByKill pid) this that = ⊥
ByKind ByTurn this that = that

-- The tick that is under way has at most `rest` steps left; while it is fresh it had none, and then it ends only if no thread is Ready.
-- Each later tick has at most `most` steps.
unfoldable pub Ticked : ℕ → ℕ → Bool → Machine → List Moment → Type 0
Ticked most rest fresh start [] = ⊤
Ticked most rest fresh start (moment ∷ moments) =
    ByKind moment.cause ((1 ≤ rest) × Ticked most (rest - 1) false moment.machine moments)
    ((fresh ≡ true → actor start ≡ None) × Ticked most most true moment.machine moments)

not_some : (o : Option ThreadId) → is_some o ≡ false → o ≡ None
not_some None e = refl
not_some (Some who) e = absurd (false≢true (sym e))

module _ (most : ℕ) where
  -- the rest of a tick, and what comes after it
  ticks_ticked : (n limit rest : ℕ) (fresh : Bool) (m : Machine) (later : Machine → List Moment) → n ≤ rest → (fresh ≡ true → 1 ≤ n)
      → ((end : Machine) → Ticked most most true end (later end))
      → Ticked most rest fresh m
      (tick_moments n limit m ++ (if (ticks n limit m).met then [] else later (ticks n limit m).machine))
  unfolding Ticked tick_moments ticks
  ticks_ticked zero limit rest fresh m later le begun more = (λ e. absurd (let low : 1 ≤ 0 = begun e in omega arith), more (turn m))
  ticks_ticked (suc n) limit rest fresh m later le begun more =
      go (is_some (actor m)) refl (m.steps == limit)
      (ticks_ticked n limit (rest - 1) false (step m).machine later (omega arith) (λ e. absurd (false≢true e)) more)
    where
      go : (a : Bool) → is_some (actor m) ≡ a → (b : Bool)
          → Ticked most (rest - 1) false (step m).machine
          (tick_moments n limit (step m).machine ++ (if (ticks n limit (step m).machine).met then [] else later (ticks n limit (step m).machine).machine))
          → Ticked most rest fresh m
          ((if a then (if b then [] else moment_of ByStep m ∷ tick_moments n limit (step m).machine) else moment_of ByTurn m ∷ [])
          ++ (if (if a then (if b then stopped m else behind (step m).records (ticks n limit (step m).machine)) else reached (nothing (turn m))).met
          then [] else later (if a then (if b then stopped m else behind (step m).records (ticks n limit (step m).machine)) else reached (nothing (turn m))).machine))
      go false e b next = (λ f. not_some (actor m) e, more (turn m))
      go true e true next = tt
      go true e false next = (omega arith, next)

  pub history_ticked : (events : List Event) (limit : ℕ) (m : Machine) → AreTicksUpTo most events
      → Ticked most most true m (moments_of events limit m)
  unfolding Ticked moments_of event_moments play
  history_ticked [] limit m h = tt
  history_ticked (Tick n ∷ events) limit m h =
      let first : IsTickUpTo most (Tick n) = All-head (IsTickUpTo most) (Tick n) events h in
      ticks_ticked n limit most true m (λ end. moments_of events limit end) first.1 (λ e. first.0)
      (λ end. history_ticked events limit end (All-tail (IsTickUpTo most) (Tick n) events h))
  history_ticked (Pick pid tid ∷ events) limit m h = absurd (All-head (IsTickUpTo most) (Pick pid tid) events h)
  history_ticked (Irq k ∷ events) limit m h = absurd (All-head (IsTickUpTo most) (Irq k) events h)
  history_ticked (Kill pid ∷ events) limit m h = absurd (All-head (IsTickUpTo most) (Kill pid) events h)
