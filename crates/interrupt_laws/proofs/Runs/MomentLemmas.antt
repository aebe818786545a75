-- What one moment does to the timer before its raise: it is left alone, armed, or disarmed.
use Rattle.std.proofs.Common.{◌≡◌, ℕ, ◌⊎◌, Bool, true, false, Option, Some, None, refl, sym, ap, ◌∙◌, subst, inl, inr}
use Rattle.std.specs.Prelude.{◌==◌, nat_eq, if◌then◌else◌}
use Rattle.std.specs.Option.{option_and_then, option_map_or}
use Rattle.std.proofs.lemmas.Bool.{eqb-true, false≢true}
use Rattle.std.proofs.lemmas.Option.{none-some, same_Some}
use Rattle.xk_base.specs.declared.ids.Pid.{Pid}
use Rattle.xk_base.specs.declared.ids.ThreadId.{ThreadId}
use Rattle.xk_base.specs.declared.limits.TheConstants.{TIMER_INTERRUPT}
use Rattle.xk_base.specs.declared.pages.Width.{Width}
use Rattle.xk_base.specs.declared.pages.Width.TheVariants.{Byte, Half, Word}
use Rattle.xk_base.specs.Tables.Counting.{put_at}
use Rattle.xk_base.specs.Calls.Registers.{arguments_of, reg_at}
use Rattle.xk_base.specs.UserMemory.{compare_stored}
use Rattle.machine_model.specs.Calling.Calls.{call}
use Rattle.machine_model.specs.Hart.Instructions.{Executed, Next, Stores, StoresToConsole, StoresToTimer, CallsKernel, Traps}
use Rattle.machine_model.specs.Runs.Moments.{Cause, ByStep, ByPick, ByIrq, ByKill, ByTurn, caused}
use Rattle.machine_model.specs.State.Changes.{Told, settled}
use Rattle.machine_model.specs.State.Machine.{Claim, Machine, Thread}
use Rattle.machine_model.specs.State.Order.{actor, turn}
use Rattle.machine_model.specs.State.Views.{stored, timer_set}
use Rattle.machine_model.specs.Stepping.Acts.{executes}
use Rattle.machine_model.specs.Stepping.Events.{killed, killed_if, picked, raised, raised_if}
use Rattle.machine_model.specs.Stepping.Reservations.{unreserved}
use Rattle.machine_model.specs.Stepping.Step.{acted, ends_handler, ends_thread, executed, performed}
use Rattle.machine_laws.proofs.Threading.ThreadStepLemmas.{turned_to}
use Rattle.machine_laws.proofs.Stepping.CauseCaseLemmas.{ActCase, EndsHandler, EndsThread, Instructs, act_of, is_step}
use Rattle.interrupt_laws.specs.Arming.{Arms, Disarms, EndsClaim, TimerStore, timer_store, to_timer}
use Rattle.interrupt_laws.specs.Raising.{other_effects, other_effects_of}
use Rattle.interrupt_laws.proofs.BeforeTimerLemmas.{effects_are}
use Rattle.interrupt_laws.proofs.Fates.CallFateLemmas.{call_fate}
use Rattle.interrupt_laws.proofs.Fates.ClaimFateLemmas.{Fate, FateOf, Freed, Kept, as_before, death_fate, delivered_fate, handler_end_fate}
use Rattle.interrupt_laws.proofs.Fates.ClaimFateLemmas.{settled_fate, thread_end_fate}

-- what a moment does before the timer's raise
abbrev pub effects_of : Cause → Machine → Machine
effects_of ByStep m = other_effects m
effects_of (ByPick who) m = caused (ByPick who) m
effects_of (ByIrq k) m = caused (ByIrq k) m
effects_of (ByKill pid) m = caused (ByKill pid) m
effects_of ByTurn m = caused ByTurn m

-- `after` is the machine after it
pub data Touch (m : Machine) (cause : Cause) (after : Machine) : Type 0 where
  Left : after.compare ≡ m.compare → ((c : ℕ) → ¬ Arms c m cause) → ¬ Disarms m cause
      → ((c : Claim) → m.claims TIMER_INTERRUPT ≡ Some c → after.claims TIMER_INTERRUPT ≡ Some c) → Touch m cause after
  Armed : (c : ℕ) → Arms c m cause → after.compare ≡ Some c
      → ((claim : Claim) → m.claims TIMER_INTERRUPT ≡ Some claim → after.claims TIMER_INTERRUPT ≡ Some claim) → Touch m cause after
  Disarmed : after.compare ≡ None → ((c : ℕ) → ¬ Arms c m cause) → Disarms m cause ⊎ EndsClaim m after → Touch m cause after

-- without a store to the timer
module _ (m : Machine) (cause : Cause) (not_armed : (c : ℕ) → ¬ Arms c m cause) (not_disarmed : ¬ Disarms m cause) where
  of_fate : (after : Machine) → FateOf m after → Touch m cause after
  of_fate after (Kept same stands) = Left same not_armed not_disarmed stands
  of_fate after (Freed c stood free none) =
      Disarmed none not_armed (inr (record { claim = c; stood = stood; ended = λ e. none-some c (sym free ∙ e) }))

module _ (m : Machine) (cause : Cause) (other : is_step cause ≡ false) where
  by_event : (after : Machine) → FateOf m after → Touch m cause after
  by_event =
      of_fate m cause (λ c a. false≢true (sym other ∙ ap is_step a.step)) (λ d. false≢true (sym other ∙ ap is_step d.step))

module _ (m : Machine) (none : timer_store m ≡ None) where
  without_store : (after : Machine) → FateOf m after → Touch m ByStep after
  without_store =
      of_fate m ByStep (λ c a. none-some (record { offset = 4; width = Word; value = c }) (sym none ∙ a.store))
      (λ d. none-some (record { offset = 8; width = Word; value = d.value }) (sym none ∙ d.store))

-- ---- stores to the timer

abbrev is_word : Width → Bool
is_word Byte = false
is_word Half = false
is_word Word = true

module _ (m : Machine) (offset : ℕ) (width : Width) (value : ℕ)
    (store : timer_store m ≡ Some (record { offset = offset; width = width; value = value })) where
  abbrev this : TimerStore
  this = record { offset = offset; width = width; value = value }

  same_store : (other : TimerStore) → timer_store m ≡ Some other → this ≡ other
  same_store other e = same_Some this other (sym store ∙ e)

  -- a store at another place, or of another width
  elsewhere : (after : Machine) → after.compare ≡ m.compare → after.claims ≡ m.claims
      → ((is_word width ≡ false) ⊎ ((offset == 4) ≡ false) × ((offset == 8) ≡ false)) → Touch m ByStep after
  elsewhere after same claims (inl narrow) =
      Left same (λ c a. false≢true (sym narrow ∙ ap (λ (s : TimerStore). is_word s.width) (same_store _ a.store)))
      (λ d. false≢true (sym narrow ∙ ap (λ (s : TimerStore). is_word s.width) (same_store _ d.store)))
      (λ c e. ap (λ f. f TIMER_INTERRUPT) claims ∙ e)
  elsewhere after same claims (inr (not_4, not_8)) =
      Left same (λ c a. false≢true (sym not_4 ∙ ap (λ (s : TimerStore). s.offset == 4) (same_store _ a.store)))
      (λ d. false≢true (sym not_8 ∙ ap (λ (s : TimerStore). s.offset == 8) (same_store _ d.store)))
      (λ c e. ap (λ f. f TIMER_INTERRUPT) claims ∙ e)

by_store : (m : Machine) (offset : ℕ) (width : Width) (value : ℕ) (after : Machine)
    → timer_store m ≡ Some (record { offset = offset; width = width; value = value })
    → after.compare ≡ compare_stored offset width value m.compare → after.claims ≡ m.claims → Touch m ByStep after
by_store m offset Byte value after store same claims = elsewhere m offset Byte value store after same claims (inl refl)
by_store m offset Half value after store same claims = elsewhere m offset Half value store after same claims (inl refl)
by_store m offset Word value after store same claims = go (offset == 4) (offset == 8) refl refl same
  where
    go : (a b : Bool) → (offset == 4) ≡ a → (offset == 8) ≡ b → after.compare ≡ (if a then Some value else (if b then None else m.compare))
        → Touch m ByStep after
    go true b p q e =
        Armed value
        (record { step = refl; store = store ∙ ap (λ n. Some (record { offset = n; width = Word; value = value })) (eqb-true offset 4 p) }) e
        (λ claim stood. ap (λ f. f TIMER_INTERRUPT) claims ∙ stood)
    go false true p q e =
        let disarms : Disarms m ByStep = record {
          step = refl;
          value = value;
          store = store ∙ ap (λ n. Some (record { offset = n; width = Word; value = value })) (eqb-true offset 8 q);
        } in
        Disarmed e
        (λ c a. false≢true (sym p ∙ ap (λ (s : TimerStore). s.offset == 4) (same_store m offset Word value store _ a.store)))
        (inl disarms)
    go false false p q e = elsewhere m offset Word value store after e claims (inr (p, q))

-- ---- a step

module _ (m : Machine) (who : ThreadId) (t : Thread) (acts : actor m ≡ Some who) (there : m.threads who ≡ Some t) where
  abbrev n : Machine
  n = turned_to who m

  -- the thread's store to the timer is that of the step
  pub store_of : (o : Option Executed) → executes m who t ≡ o → timer_store m ≡ option_and_then to_timer o
  unfolding timer_store
  store_of o e =
      ap (option_and_then (λ who. option_and_then (λ thread. option_and_then to_timer (executes m who thread)) (m.threads who))) acts
      ∙ ap (option_and_then (λ thread. option_and_then to_timer (executes m who thread))) there
      ∙ ap (option_and_then to_timer) e

  -- a thread that ends, or ends its handler, stores nothing
  pub end_stores_none : (ends_thread who t.pc ≡ true) ⊎ (ends_handler who t.pc ≡ true) → timer_store m ≡ None
  end_stores_none ends = store_of None (go (ends_thread who t.pc) (ends_handler who t.pc) ends)
    where
      go : (a b : Bool) → (a ≡ true) ⊎ (b ≡ true) → (if a then None else (if b then None else Some (performed m who t).executed)) ≡ None
      go true b e = refl
      go false true e = refl
      go false false (inl e) = absurd (false≢true e)
      go false false (inr e) = absurd (false≢true e)

  touched : (done : Machine) → (acted n t).machine ≡ done
      → ((last : Machine) → last.compare ≡ done.compare → last.claims ≡ done.claims → Touch m ByStep last) → Touch m ByStep (other_effects m)
  touched done e of =
      of (other_effects m)
      (ap (λ (x : Machine). x.compare) (effects_are m who t acts there) ∙ ap (λ (x : Machine). x.compare) e)
      (ap (λ (x : Machine). x.claims) (effects_are m who t acts there) ∙ ap (λ (x : Machine). x.claims) e)

  -- without a store to the timer
  unstored : timer_store m ≡ None → (done : Machine) → (acted n t).machine ≡ done → FateOf m done → Touch m ByStep (other_effects m)
  unstored none done e of =
      touched done e
      (λ last compare claims. without_store m none last
      (subst (λ o. Fate m.compare (m.claims TIMER_INTERRUPT) o (last.claims TIMER_INTERRUPT)) (sym compare)
      (subst (λ f. Fate m.compare (m.claims TIMER_INTERRUPT) done.compare (f TIMER_INTERRUPT)) (sym claims) of)))

  by_executed : (x : Executed) → executes m who t ≡ Some x → (acted n t).machine ≡ (executed n t x).machine → Touch m ByStep (other_effects m)
  unfolding stored timer_set
  by_executed (Next regs pc) e is = unstored (store_of _ e) _ is (as_before m)
  by_executed (Stores address width value regs pc) e is = unstored (store_of _ e) _ is (as_before m)
  by_executed (StoresToConsole offset value regs pc) e is = unstored (store_of _ e) _ is (as_before m)
  by_executed (StoresToTimer offset width value regs pc) e is =
      touched _ is (λ last compare claims. by_store m offset width value last (store_of _ e) compare claims)
  by_executed CallsKernel e is =
      unstored (store_of _ e) _ is (settled_fate n (call n (arguments_of t.regs)) (call_fate n (arguments_of t.regs)))
  by_executed (Traps cause value) e is = unstored (store_of _ e) _ is (death_fate who.pid n)

  by_act : (done : Told) → ActCase m who t done → (acted n t).machine ≡ done.machine → Touch m ByStep (other_effects m)
  by_act _ (Instructs x e) is = by_executed x e is
  by_act _ (EndsThread e) is = unstored (end_stores_none (inl e)) _ is (thread_end_fate who (reg_at t.regs 10) n)
  by_act _ (EndsHandler e) is = unstored (end_stores_none (inr e)) _ is (handler_end_fate who.pid n)

-- ---- any moment

pub no_actor : (m : Machine) → actor m ≡ None → (timer_store m ≡ None) × (other_effects m ≡ m)
unfolding timer_store other_effects
no_actor m e = (
  ap (option_and_then (λ who. option_and_then (λ thread. option_and_then to_timer (executes m who thread)) (m.threads who))) e,
  ap (λ o. option_map_or (other_effects_of m) o m) e,
)

by_step : (m : Machine) (o : Option ThreadId) → actor m ≡ o → Touch m ByStep (other_effects m)
by_step m None e =
    let idle = no_actor m e in
    subst (Touch m ByStep) (sym idle.1) (without_store m idle.0 m (as_before m))
by_step m (Some who) e = let act = act_of m who e in by_act m who act.thread e act.there (acted (turned_to who m) act.thread) act.case refl

irq_fate : (k : ℕ) (m : Machine) (o : Option Claim) → FateOf m (raised_if k o (unreserved m)).machine
unfolding settled
irq_fate k m None = as_before m
irq_fate k m (Some claim) = delivered_fate claim.pid (record (unreserved m) { pending = put_at nat_eq m.pending k true })

kill_fate : (pid : Pid) (m : Machine) (b : Bool) → FateOf m (killed_if b pid (unreserved m)).machine
kill_fate pid m false = as_before m
kill_fate pid m true = death_fate pid (unreserved m)

pub touch_of : (cause : Cause) (m : Machine) → Touch m cause (effects_of cause m)
unfolding picked raised killed turn
touch_of ByStep m = by_step m (actor m) refl
touch_of (ByPick who) m = by_event m (ByPick who) refl _ (as_before m)
touch_of (ByIrq k) m = by_event m (ByIrq k) refl _ (irq_fate k m (m.claims k))
touch_of (ByKill pid) m = by_event m (ByKill pid) refl _ (kill_fate pid m (m.process pid.0).alive)
touch_of ByTurn m = by_event m ByTurn refl _ (as_before m)
