-- If the timer is due and the claimant's interrupt thread is Idle, the step ends as the event of its interrupt: the thread begins a handler.
use Rattle.std.proofs.Common.{◌≡◌, ◌<◌, None, sym, ap, ◌∙◌, arith}
use Rattle.xk_base.specs.declared.ids.ThreadId.{ThreadId}
use Rattle.xk_base.specs.declared.limits.TheConstants.{INTERRUPT_LIMIT, TIMER_INTERRUPT}
use Rattle.machine_model.specs.State.Machine.{Machine}
use Rattle.machine_model.specs.State.Threads.{thread_id}
use Rattle.machine_model.specs.Stepping.Events.{raised}
use Rattle.interrupt_laws.specs.Raising.{other_effects}
use Rattle.interrupt_laws.proofs.Runs.RaiseLemmas.{raise_is_event}
use Rattle.interrupt_laws.specs.Starting.{StartsClaimant}
use Rattle.interrupt_laws.proofs.StartingLemmas.{starts_below}
use Rattle.noninterference_laws.specs.Claimant.{BeginsHandler, TimerStarts, TimerStartsHandlers}

module _ (m : Machine) (id : ThreadId) (starts : TimerStarts m id) where
  -- the machine in which the timer's interrupt comes
  abbrev unarmed : Machine
  unarmed = record (other_effects m) { compare = None }

  below : TIMER_INTERRUPT < INTERRUPT_LIMIT
  below = omega arith

  started : StartsClaimant unarmed TIMER_INTERRUPT starts.claim
  started = starts_below TIMER_INTERRUPT unarmed starts.claim below starts.claimed starts.idle

  same_thread_id : id ≡ thread_id started.handler.claim.pid 1
  same_thread_id = starts.thread ∙ ap (λ pid. thread_id pid 1) (sym started.own)

  begins_handler : BeginsHandler m id
  begins_handler = record {
    number = started.handler.number;
    claim = started.handler.claim;
    claimed = started.handler.claimed;
    own = sym (ap (λ (i : ThreadId). i.pid) same_thread_id);
    begins =
        ap (λ (x : Machine). x.threads id) (raise_is_event m starts.raise)
        ∙ (ap (raised TIMER_INTERRUPT unarmed).machine.threads same_thread_id ∙ started.handler.begins);
    event = raise_is_event m starts.raise;
  }

pub timer_starts_handlers : TimerStartsHandlers
timer_starts_handlers m id starts = begins_handler m id starts
