-- Deliveries of interrupts and the timer carry bytes as they are.
use Rattle.confidentiality_laws.proofs.Ledgers.OtherBytesLemmas.{machine_through}
use Rattle.xk_base.specs.Tables.Counting.{put_at}
use Rattle.std.proofs.Common.{◌≡◌, ℕ, Bool, true, false, Option, Some, None, refl, ap, List}
use Rattle.std.specs.Prelude.{if◌then◌else◌, nat_eq}
use Rattle.xk_base.specs.declared.ids.Pid.{Pid}
use Rattle.xk_base.specs.declared.limits.TheConstants.{TIMER_INTERRUPT}
use Rattle.machine_model.specs.State.Changes.{Told, settled}
use Rattle.machine_model.specs.State.Machine.{Claim, Machine}
use Rattle.machine_model.specs.Stepping.Interrupts.{delivered, delivered_lowest, handler_started, is_free_for_interrupt, lowest_pending, pended, with_handler_next}
use Rattle.machine_model.specs.Stepping.Timer.{is_due, raised_by_timer, timed, timed_if, with_irq_if}
use Rattle.confidentiality_laws.proofs.Carrying.ChangeLemmas.{change_through, told_through}

module _ (g : List ℕ → List ℕ) where
  started_through : (m : Machine) (pid : Pid) (k : ℕ) (o : Option Claim)
      → change_through g (handler_started m pid k o) ≡ handler_started (machine_through g m) pid k o
  started_through m pid k None = refl
  started_through m pid k (Some claim) = refl

  lowest_through : (m : Machine) (pid : Pid) (o : Option ℕ)
      → change_through g (delivered_lowest m pid o) ≡ delivered_lowest (machine_through g m) pid o
  lowest_through m pid None = refl
  lowest_through m pid (Some k) = started_through m pid k (m.claims k)

  pub delivered_through : (pid : Pid) (m : Machine) → change_through g (delivered pid m) ≡ delivered pid (machine_through g m)
  unfolding delivered lowest_pending
  delivered_through pid m = lowest_through m pid (if is_free_for_interrupt m pid then lowest_pending m pid else None)

  pub pended_through : (k : ℕ) (claim : Claim) (m : Machine)
      → change_through g (pended k claim m) ≡ pended k claim (machine_through g m)
  pended_through k claim m =
      ap with_handler_next (delivered_through claim.pid (record m { pending = put_at nat_eq m.pending k true }))

  -- ---- the timer

  raised_through : (o : Option Claim) (m : Machine)
      → change_through g (raised_by_timer o m) ≡ raised_by_timer o (machine_through g m)
  raised_through None m = refl
  raised_through (Some claim) m = pended_through TIMER_INTERRUPT claim m

  timed_if_through : (b : Bool) (done : Told) → told_through g (timed_if b done) ≡ timed_if b (told_through g done)
  unfolding settled
  timed_if_through false done = refl
  timed_if_through true done =
      ap (λ change. record { machine = (settled change).machine; told = with_irq_if change.delivery done.told })
      (raised_through (done.machine.claims TIMER_INTERRUPT) (record done.machine { compare = None }))

  pub timed_through : (done : Told) → told_through g (timed done) ≡ timed (told_through g done)
  timed_through done = timed_if_through (is_due done.machine.compare done.machine.steps) done
