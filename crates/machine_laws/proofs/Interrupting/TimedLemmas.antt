-- The timer's part of a step keeps the machine matched: it is disarmed, and its interrupt is raised as by an event.
use Rattle.std.proofs.Common.{◌≡◌, Bool, true, false, Option, Some, None, refl, sym, subst}
use Rattle.std.proofs.lemmas.Bool.{false≢true}
use Rattle.xk_base.specs.declared.limits.TheConstants.{TIMER_INTERRUPT}
use Rattle.machine_model.specs.Runs.Matched.{Matched}
use Rattle.machine_model.specs.State.Changes.{Told, only, settled}
use Rattle.machine_model.specs.State.Machine.{Machine, Claim}
use Rattle.machine_model.specs.Stepping.Timer.{is_due, raised_by_timer, timed, timed_if}
use Rattle.machine_laws.proofs.Interrupting.IrqDeliveryLemmas.{pended_matched, settled_unanswered}
use Rattle.machine_laws.proofs.Threading.ThreadMoveLemmas.{matched_claimed}

disarmed_matched : (m : Machine) → Matched m → Matched (record m { compare = None })
disarmed_matched m h =
    matched_claimed m h m.claims m.pending None
    (record { handlers = h.rest.handlers; claims = h.rest.claims; timer = λ e. absurd (false≢true e) })

raised_matched : (m : Machine) → Matched m → (o : Option Claim) → m.claims TIMER_INTERRUPT ≡ o → Matched (settled (raised_by_timer o m)).machine
raised_matched m h None e = subst Matched (sym (settled_unanswered (only m) refl)) h
raised_matched m h (Some claim) e = pended_matched TIMER_INTERRUPT claim m h e

-- what a step did stays matched by the timer
pub timed_matched : (done : Told) → Matched done.machine → Matched (timed done).machine
timed_matched done h = go (is_due done.machine.compare done.machine.steps)
  where
    go : (b : Bool) → Matched (timed_if b done).machine
    go false = h
    go true = raised_matched (record done.machine { compare = None }) (disarmed_matched done.machine h) (done.machine.claims TIMER_INTERRUPT) refl
