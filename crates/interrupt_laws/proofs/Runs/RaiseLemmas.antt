-- The timer's raise in a step: what it is, and that there is none in any other moment.
use Rattle.std.proofs.Common.{◌≡◌, ℕ, ◌+◌, ◌⊎◌, Bool, true, false, Option, Some, None, refl, sym, ap, ◌∙◌, inl, inr}
use Rattle.std.specs.Prelude.{is_some, nat_eq, if◌then◌else◌}
use Rattle.std.proofs.lemmas.Bool.{eq-eqb, false≢true}
use Rattle.xk_base.specs.declared.ids.Pid.{Pid}
use Rattle.xk_base.specs.declared.ids.ThreadId.{ThreadId}
use Rattle.xk_base.specs.declared.limits.TheConstants.{TIMER_INTERRUPT}
use Rattle.xk_base.specs.Tables.Counting.{put_at}
use Rattle.machine_model.specs.Runs.Moments.{Cause, ByStep, ByPick, ByIrq, ByKill, ByTurn, caused}
use Rattle.machine_model.specs.State.Changes.{Told, only, settled}
use Rattle.machine_model.specs.State.Machine.{Claim, Machine, Reservation, Thread}
use Rattle.machine_model.specs.State.Order.{actor}
use Rattle.machine_model.specs.Stepping.Events.{raised, raised_if}
use Rattle.machine_model.specs.Stepping.Interrupts.{delivered, delivered_lowest, handler_started, is_free_for_interrupt, lowest_pending, with_handler_next}
use Rattle.machine_model.specs.Stepping.Reservations.{unreserved}
use Rattle.machine_model.specs.Stepping.Step.{step}
use Rattle.machine_model.specs.Stepping.Timer.{is_due, raised_by_timer, timed, timed_if}
use Rattle.machine_model.proofs.StepLemmas.{no_step}
use Rattle.machine_model.proofs.Runs.TimerLemmas.{due_disarms, not_due, timed_raised}
use Rattle.machine_laws.proofs.Interrupting.IrqDeliveryLemmas.{settled_unanswered}
use Rattle.machine_laws.proofs.Threading.ThreadAnswerLemmas.{ready_thread}
use Rattle.machine_laws.proofs.Threading.ThreadStepLemmas.{actor_ready, step_of_thread}
use Rattle.machine_laws.proofs.Stepping.CauseCaseLemmas.{is_step}
use Rattle.interrupt_laws.specs.Raising.{ElseNothing, IsRaise, RaiseIsEvent, other_effects}
use Rattle.interrupt_laws.proofs.BeforeTimerLemmas.{before_timer, effects_are, raise_of}
use Rattle.interrupt_laws.proofs.Runs.MomentLemmas.{effects_of, no_actor}

value_due : (o : Option ℕ) (n : ℕ) → o ≡ Some n → is_due o n ≡ true
value_due o n e = ap (λ x. is_due x n) e ∙ eq-eqb n n refl

-- ---- the raise is as by an event

module _ (d : Machine) (pending : ℕ → Bool) (pid : Pid) where
  abbrev pend : Machine → Machine
  pend m = record m { pending = pending }

  abbrev reserved_as : Option Reservation → Machine → Machine
  reserved_as reserved m = record m { reserved = reserved }

  started_alike : (k : ℕ) (o : Option Claim)
      → (settled (with_handler_next (handler_started (pend d) pid k o))).machine
      ≡ reserved_as d.reserved (settled (with_handler_next (handler_started (pend (unreserved d)) pid k o))).machine
  unfolding settled
  started_alike k None = refl
  started_alike k (Some claim) = refl

  lowest_alike : (o : Option ℕ)
      → (settled (with_handler_next (delivered_lowest (pend d) pid o))).machine
      ≡ reserved_as d.reserved (settled (with_handler_next (delivered_lowest (pend (unreserved d)) pid o))).machine
  unfolding settled
  lowest_alike None = refl
  lowest_alike (Some k) = started_alike k (d.claims k)

  delivered_alike : (settled (with_handler_next (delivered pid (pend d)))).machine
      ≡ reserved_as d.reserved (settled (with_handler_next (delivered pid (pend (unreserved d))))).machine
  unfolding delivered lowest_pending
  delivered_alike = lowest_alike (if is_free_for_interrupt (pend d) pid then lowest_pending (pend d) pid else None)

raise_alike : (d : Machine) (o : Option Claim)
    → (settled (raised_by_timer o d)).machine ≡ record (raised_if TIMER_INTERRUPT o (unreserved d)).machine { reserved = d.reserved }
raise_alike d None = settled_unanswered (only d) refl
raise_alike d (Some claim) = delivered_alike d (put_at nat_eq d.pending TIMER_INTERRUPT true) claim.pid

-- ---- any moment

-- In a raise the timer is disarmed; else the moment is what it does before the timer. The claims are as before the timer.
pub record Decides (cause : Cause) (m : Machine) : Type 0 where
  pub decided : (IsRaise m cause × ((caused cause m).compare ≡ None)) ⊎ (¬ IsRaise m cause × (caused cause m ≡ effects_of cause m))
  pub claims : (caused cause m).claims ≡ (effects_of cause m).claims

module _ (m : Machine) (who : ThreadId) (t : Thread) (acts : actor m ≡ Some who) (there : m.threads who ≡ Some t) where
  abbrev done : Told
  done = before_timer m who t

  step_is : (step m).machine ≡ (timed done).machine
  step_is = step_of_thread m who t acts there

  due_of : IsRaise m ByStep → is_due done.machine.compare done.machine.steps ≡ true
  due_of r = value_due done.machine.compare (m.steps + 1) (ap (λ (x : Machine). x.compare) (sym (effects_are m who t acts there)) ∙ r.due)

  step_claims : (step m).machine.claims ≡ (other_effects m).claims
  step_claims =
      ap (λ (x : Machine). x.claims) (step_is ∙ (timed_raised done).is ∙ refl)
      ∙ ap (λ (x : Machine). x.claims) (sym (effects_are m who t acts there))

  by_thread : (b : Bool) → is_due done.machine.compare done.machine.steps ≡ b → Decides ByStep m
  by_thread true e = record {
    decided = inl (raise_of m who t acts there e, ap (λ (x : Machine). x.compare) step_is ∙ due_disarms done e);
    claims = step_claims;
  }
  by_thread false e = record {
    decided = inr (
      λ r. false≢true (sym e ∙ due_of r),
      step_is ∙ ap (λ (t : Told). t.machine) (not_due done e) ∙ sym (effects_are m who t acts there),
    );
    claims = step_claims;
  }

  -- a raise is as by an event
  as_event : IsRaise m ByStep → (step m).machine
      ≡ record (raised TIMER_INTERRUPT (record (other_effects m) { compare = None })).machine { reserved = (other_effects m).reserved }
  unfolding raised
  as_event r =
      step_is
      ∙ ap (λ b. (timed_if b done).machine) (due_of r)
      ∙ raise_alike (record done.machine { compare = None }) (done.machine.claims TIMER_INTERRUPT)
      ∙ ap (λ (x : Machine). record (raised TIMER_INTERRUPT (record x { compare = None })).machine { reserved = x.reserved })
      (sym (effects_are m who t acts there))

step_decides : (m : Machine) (o : Option ThreadId) → actor m ≡ o → Decides ByStep m
step_decides m None e =
    let idle : (step m).machine ≡ other_effects m = ap (λ s. s.machine) (no_step m e) ∙ sym (no_actor m e).1 in
    record {
      decided = inr (λ r. false≢true (ap is_some (sym e) ∙ r.acts), idle);
      claims = ap (λ (x : Machine). x.claims) idle;
    }
step_decides m (Some who) e =
    let r = ready_thread m who (actor_ready m who e) in
    let done : Machine = (before_timer m who r.thread).machine in
    by_thread m who r.thread e r.there (is_due done.compare done.steps) refl

event_decides : (cause : Cause) (m : Machine) → is_step cause ≡ false → caused cause m ≡ effects_of cause m → Decides cause m
event_decides cause m other e =
    record { decided = inr (λ r. false≢true (sym other ∙ ap is_step r.step), e); claims = ap (λ (x : Machine). x.claims) e }

pub decides : (cause : Cause) (m : Machine) → Decides cause m
decides ByStep m = step_decides m (actor m) refl
decides (ByPick who) m = event_decides (ByPick who) m refl refl
decides (ByIrq k) m = event_decides (ByIrq k) m refl refl
decides (ByKill pid) m = event_decides (ByKill pid) m refl refl
decides ByTurn m = event_decides ByTurn m refl refl

-- ---- the laws of one step

pub else_nothing : ElseNothing
else_nothing m none = go (decides ByStep m).decided
  where
    go : (IsRaise m ByStep × ((step m).machine.compare ≡ None)) ⊎ (¬ IsRaise m ByStep × ((step m).machine ≡ other_effects m))
        → (step m).machine ≡ other_effects m
    go (inl r) = absurd (none r.0)
    go (inr r) = r.1

pub raise_is_event : RaiseIsEvent
raise_is_event m r = go (actor m) refl
  where
    go : (o : Option ThreadId) → actor m ≡ o
        → (step m).machine
        ≡ record (raised TIMER_INTERRUPT (record (other_effects m) { compare = None })).machine { reserved = (other_effects m).reserved }
    go None e = absurd (false≢true (ap is_some (sym e) ∙ r.acts))
    go (Some who) e = let found = ready_thread m who (actor_ready m who e) in as_event m who found.thread e found.there r
