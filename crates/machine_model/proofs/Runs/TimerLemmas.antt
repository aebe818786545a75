-- The timer's raise, and a raise by an event, change nothing but the threads, the pending set, the cursor and the compare value.
use Rattle.std.proofs.Common.{◌≡◌, ℕ, Bool, true, false, Option, Some, None, refl, ap, ◌∙◌}
use Rattle.std.specs.Prelude.{nat_eq, if◌then◌else◌}
use Rattle.xk_base.specs.declared.ids.Pid.{Pid}
use Rattle.xk_base.specs.declared.ids.ThreadId.{ThreadId}
use Rattle.xk_base.specs.declared.limits.TheConstants.{TIMER_INTERRUPT}
use Rattle.xk_base.specs.Tables.Counting.{put_at}
use Rattle.machine_model.specs.State.Changes.{Told, settled}
use Rattle.machine_model.specs.State.Machine.{Machine, Thread, Claim}
use Rattle.machine_model.specs.Stepping.Interrupts.{delivered, delivered_lowest, handler_started, is_free_for_interrupt, lowest_pending, pended, with_handler_next}
use Rattle.machine_model.specs.Stepping.Timer.{is_due, raised_by_timer, timed, timed_if}

-- what a raise may change
pub record IsRaised (m after : Machine) : Type 0 where
  pub cursor : ThreadId
  pub threads : ThreadId → Option Thread
  pub pending : ℕ → Bool
  pub compare : Option ℕ
  pub is : after ≡ record m { cursor = cursor; threads = threads; pending = pending; compare = compare }

raised_as : (m after : Machine)
    → after ≡ record m { cursor = after.cursor; threads = after.threads; pending = after.pending; compare = after.compare }
    → IsRaised m after
raised_as m after e =
    record { cursor = after.cursor; threads = after.threads; pending = after.pending; compare = after.compare; is = e }

module _ (m : Machine) (pending : ℕ → Bool) (compare : Option ℕ) (pid : Pid) where
  abbrev raising : Machine
  raising = record m { pending = pending; compare = compare }

  handler_raised : (k : ℕ) (o : Option Claim) → IsRaised m (settled (with_handler_next (handler_started raising pid k o))).machine
  unfolding settled
  handler_raised k None = raised_as m _ refl
  handler_raised k (Some claim) = raised_as m _ refl

  lowest_raised : (o : Option ℕ) → IsRaised m (settled (with_handler_next (delivered_lowest raising pid o))).machine
  unfolding settled
  lowest_raised None = raised_as m _ refl
  lowest_raised (Some k) = handler_raised k (m.claims k)

  delivery_raised : IsRaised m (settled (with_handler_next (delivered pid raising))).machine
  unfolding delivered
  delivery_raised = lowest_raised (if is_free_for_interrupt raising pid then lowest_pending raising pid else None)

pub pended_raised : (k : ℕ) (claim : Claim) (m : Machine) → IsRaised m (settled (pended k claim m)).machine
pended_raised k claim m = delivery_raised m (put_at nat_eq m.pending k true) m.compare claim.pid

by_timer : (o : Option Claim) (m : Machine) → IsRaised m (settled (raised_by_timer o (record m { compare = None }))).machine
unfolding settled
by_timer None m = raised_as m _ refl
by_timer (Some claim) m = delivery_raised m (put_at nat_eq m.pending TIMER_INTERRUPT true) None claim.pid

timed_if_raised : (b : Bool) (done : Told) → IsRaised done.machine (timed_if b done).machine
timed_if_raised false done = raised_as done.machine _ refl
timed_if_raised true done = by_timer (done.machine.claims TIMER_INTERRUPT) done.machine

pub timed_raised : (done : Told) → IsRaised done.machine (timed done).machine
timed_raised done = timed_if_raised (is_due done.machine.compare done.machine.steps) done

-- where the timer isn't armed it does nothing
pub timed_unarmed : (done : Told) → done.machine.compare ≡ None → timed done ≡ done
timed_unarmed done e = ap (λ compare. timed_if (is_due compare done.machine.steps) done) e

-- ---- its raise disarms it

module _ (m : Machine) (pending : ℕ → Bool) (pid : Pid) where
  abbrev unarmed : Machine
  unarmed = record m { pending = pending; compare = None }

  handler_unarmed : (k : ℕ) (o : Option Claim) → (settled (with_handler_next (handler_started unarmed pid k o))).machine.compare ≡ None
  unfolding settled
  handler_unarmed k None = refl
  handler_unarmed k (Some claim) = refl

  lowest_unarmed : (o : Option ℕ) → (settled (with_handler_next (delivered_lowest unarmed pid o))).machine.compare ≡ None
  unfolding settled
  lowest_unarmed None = refl
  lowest_unarmed (Some k) = handler_unarmed k (m.claims k)

  delivery_unarmed : (settled (with_handler_next (delivered pid unarmed))).machine.compare ≡ None
  unfolding delivered
  delivery_unarmed = lowest_unarmed (if is_free_for_interrupt unarmed pid then lowest_pending unarmed pid else None)

unarmed_by : (o : Option Claim) (m : Machine) → (settled (raised_by_timer o (record m { compare = None }))).machine.compare ≡ None
unfolding settled
unarmed_by None m = refl
unarmed_by (Some claim) m = delivery_unarmed m (put_at nat_eq m.pending TIMER_INTERRUPT true) claim.pid

pub due_disarms : (done : Told) → is_due done.machine.compare done.machine.steps ≡ true → (timed done).machine.compare ≡ None
due_disarms done e =
    ap (λ b. (timed_if b done).machine.compare) e ∙ unarmed_by (done.machine.claims TIMER_INTERRUPT) done.machine

pub not_due : (done : Told) → is_due done.machine.compare done.machine.steps ≡ false → timed done ≡ done
not_due done e = ap (λ b. timed_if b done) e
