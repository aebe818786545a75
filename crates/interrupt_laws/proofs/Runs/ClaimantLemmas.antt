-- Who stores to the timer has claimed its interrupt, and so a raise finds it claimed.
use Rattle.std.proofs.Common.{◌≡◌, ◌+◌, Bool, true, false, Option, Some, None, refl, sym, ap, ◌∙◌, subst, inl, inr}
use Rattle.std.specs.Prelude.{is_some, if◌then◌else◌}
use Rattle.std.proofs.lemmas.Bool.{false≢true}
use Rattle.std.proofs.lemmas.Option.{none-some, same_Some}
use Rattle.xk_base.specs.declared.ids.Pid.{Pid}
use Rattle.xk_base.specs.declared.ids.ThreadId.{ThreadId}
use Rattle.xk_base.specs.declared.limits.TheConstants.{TIMER_INTERRUPT}
use Rattle.xk_base.specs.declared.pages.Width.TheVariants.{Word}
use Rattle.xk_base.specs.UserMemory.{Timer}
use Rattle.machine_model.specs.Hart.Instructions.{Executed, Next, Stores, StoresToConsole, StoresToTimer, CallsKernel, Traps}
use Rattle.machine_model.specs.Runs.Matched.{Matched}
use Rattle.machine_model.specs.Runs.Moments.{ByStep}
use Rattle.machine_model.specs.State.Machine.{Claim, Machine, Thread}
use Rattle.machine_model.specs.State.Order.{actor}
use Rattle.machine_model.specs.State.Views.{memory_of}
use Rattle.machine_model.specs.Stepping.Acts.{executes}
use Rattle.machine_model.specs.Stepping.Interrupts.{is_claim_of}
use Rattle.machine_model.specs.Stepping.Reservations.{reserved_by}
use Rattle.machine_model.specs.Stepping.Step.{ends_handler, ends_thread, performed}
use Rattle.machine_laws.proofs.Executing.InstructionEffectLemmas.{execute_at_sound, has_timer}
use Rattle.machine_laws.proofs.Stepping.StepKindLemmas.{StepKind, Executes, ThreadEnds, HandlerEnds, kind_of}
use Rattle.interrupt_laws.specs.Arming.{OnlyClaimantStores, TimerStore, timer_store, to_timer}
use Rattle.interrupt_laws.specs.Raising.{RaiseFindsClaim, other_effects}
use Rattle.interrupt_laws.proofs.Runs.MomentLemmas.{Armed, Disarmed, Left, Touch, end_stores_none, no_actor, store_of, touch_of}

module _ (m : Machine) (who : ThreadId) (h : Matched m) (acts : actor m ≡ Some who) where
  -- the timer is there for what is executed
  timer_there : (t : Thread) → m.threads who ≡ Some t → (x : Executed) → executes m who t ≡ Some x → has_timer (memory_of m who.pid) x ≡ true
  timer_there t q x e =
      go (ends_thread who t.pc) (ends_handler who t.pc) (performed m who t).executed e
      (execute_at_sound t.regs t.pc (reserved_by who m.reserved) (memory_of m who.pid) (h.body.threads.pcs who t q)).2
    where
      go : (a b : Bool) (y : Executed) → (if a then None else (if b then None else Some y)) ≡ Some x
          → has_timer (memory_of m who.pid) y ≡ true → has_timer (memory_of m who.pid) x ≡ true
      go true b y p is = absurd (none-some x p)
      go false true y p is = absurd (none-some x p)
      go false false y p is = subst (λ z. has_timer (memory_of m who.pid) z ≡ true) (same_Some y x p) is

  claimed : is_some (memory_of m who.pid).timer ≡ true → is_claim_of who.pid (m.claims TIMER_INTERRUPT) ≡ true
  unfolding memory_of
  claimed e = go (is_claim_of who.pid (m.claims TIMER_INTERRUPT)) (record { steps = m.steps; compare = m.compare }) e
    where
      go : (b : Bool) (timer : Timer) → is_some (if b then Some timer else None) ≡ true → b ≡ true
      go true timer p = refl
      go false timer p = absurd (false≢true p)

  by_executed : (store : TimerStore) (t : Thread) → m.threads who ≡ Some t → (x : Executed) → executes m who t ≡ Some x
      → to_timer x ≡ Some store → is_claim_of who.pid (m.claims TIMER_INTERRUPT) ≡ true
  by_executed store t q (Next regs pc) e s = absurd (none-some store s)
  by_executed store t q (Stores address width value regs pc) e s = absurd (none-some store s)
  by_executed store t q (StoresToConsole offset value regs pc) e s = absurd (none-some store s)
  by_executed store t q (StoresToTimer offset width value regs pc) e s = claimed (timer_there t q (StoresToTimer offset width value regs pc) e)
  by_executed store t q CallsKernel e s = absurd (none-some store s)
  by_executed store t q (Traps cause value) e s = absurd (none-some store s)

  by_kind : (store : TimerStore) → timer_store m ≡ Some store → StepKind m who → is_claim_of who.pid (m.claims TIMER_INTERRUPT) ≡ true
  by_kind store s (Executes t x q e) = by_executed store t q x e (sym (store_of m who t acts q (Some x) e) ∙ s)
  by_kind store s (ThreadEnds t q e) = absurd (none-some store (sym (end_stores_none m who t acts q (inl e)) ∙ s))
  by_kind store s (HandlerEnds t q low e) = absurd (none-some store (sym (end_stores_none m who t acts q (inr e)) ∙ s))

pub only_claimant_stores : OnlyClaimantStores
only_claimant_stores m who store h acts s = by_kind m who h acts store s (kind_of m who acts)

-- ---- a raise

claim_there : (pid : Pid) (o : Option Claim) → is_claim_of pid o ≡ true → is_some o ≡ true
claim_there pid None e = absurd (false≢true e)
claim_there pid (Some claim) e = refl

-- where a claim stands it is still there
still_there : (before after : Option Claim) → ((claim : Claim) → before ≡ Some claim → after ≡ Some claim) → is_some before ≡ true
    → is_some after ≡ true
still_there None after stands e = absurd (false≢true e)
still_there (Some claim) after stands e = ap is_some (stands claim refl)

stores_claimed : (m : Machine) → Matched m → (store : TimerStore) → timer_store m ≡ Some store → is_some (m.claims TIMER_INTERRUPT) ≡ true
stores_claimed m h store s = go (actor m) refl
  where
    go : (o : Option ThreadId) → actor m ≡ o → is_some (m.claims TIMER_INTERRUPT) ≡ true
    go None e = absurd (none-some store (sym (no_actor m e).0 ∙ s))
    go (Some who) e = claim_there who.pid (m.claims TIMER_INTERRUPT) (only_claimant_stores m who store h e s)

pub raise_finds_claim : RaiseFindsClaim
raise_finds_claim m h r = go (touch_of ByStep m)
  where
    go : Touch m ByStep (other_effects m) → is_some ((other_effects m).claims TIMER_INTERRUPT) ≡ true
    go (Left same not_armed not_disarmed stands) =
        still_there (m.claims TIMER_INTERRUPT) ((other_effects m).claims TIMER_INTERRUPT) stands
        (h.rest.timer (ap is_some (sym same ∙ r.due)))
    go (Armed c arms value stands) =
        still_there (m.claims TIMER_INTERRUPT) ((other_effects m).claims TIMER_INTERRUPT) stands
        (stores_claimed m h (record { offset = 4; width = Word; value = c }) arms.store)
    go (Disarmed none not_armed by) = absurd (none-some (m.steps + 1) (sym none ∙ r.due))
