-- The end of an interrupt handler keeps the machine matched.
use Rattle.std.proofs.Common.{◌≡◌, arith, true, Option, Some, refl, sym, subst}
use Rattle.std.specs.Option.{option_map}
use Rattle.xk_base.specs.declared.ids.Pid.{Pid}
use Rattle.xk_base.specs.declared.ids.ThreadId.{ThreadId}
use Rattle.xk_base.specs.Tables.Circle.{same_thread}
use Rattle.xk_base.specs.Tables.Counting.{put_at}
use Rattle.machine_model.specs.State.Changes.{settled}
use Rattle.machine_model.specs.Ending.Ends.{handler_ended}
use Rattle.machine_model.specs.Stepping.Interrupts.{delivered}
use Rattle.machine_model.specs.State.Machine.{Machine, Thread, Idle}
use Rattle.machine_model.specs.Runs.Kept.{Settles}
use Rattle.machine_model.specs.Runs.Matched.{Matched}
use Rattle.machine_model.specs.State.Order.{ready_at}
use Rattle.machine_model.specs.State.Threads.{thread_id, change_thread, with_state}
use Rattle.machine_laws.proofs.Interrupting.IrqDeliveryLemmas.{KeepsDelivery, delivery_keeps, settled_unanswered}
use Rattle.machine_laws.proofs.Threading.ThreadAnswerLemmas.{IsReadyThread, ready_thread, ready_put_matched, same_thread-self}
use Rattle.machine_laws.proofs.Threading.ThreadStepLemmas.{settles}

idle_matched : (m : Machine) → Matched m → (pid : Pid) → ready_at m (thread_id pid 1) ≡ true
    → Matched (change_thread (thread_id pid 1) (with_state Idle) m)
idle_matched m h pid ready =
    ready_put_matched m h new id (with_state Idle r.thread) r here (λ q e. rw e refl) refl (h.body.threads.pcs id r.thread r.there)
  where
    id : ThreadId
    id = thread_id pid 1

    new : ThreadId → Option Thread
    new = put_at same_thread m.threads id (option_map (with_state Idle) (m.threads id))

    r : IsReadyThread m id
    r = ready_thread m id ready

    here : new id ≡ Some (with_state Idle r.thread)
    here = rw (same_thread-self id, r.there) refl

pub handler_end_keeps : (m : Machine) → Matched m → (pid : Pid) → ready_at m (thread_id pid 1) ≡ true → Settles m (settled (handler_ended pid m)).machine
unfolding handler_ended
handler_end_keeps m h pid ready =
    let next : Machine = change_thread (thread_id pid 1) (with_state Idle) m in
    let k : KeepsDelivery next (delivered pid next) = delivery_keeps next (idle_matched m h pid ready) pid in
    let same : (delivered pid next).machine.steps ≡ m.steps = k.steps in
    subst (Settles m) (sym (settled_unanswered (delivered pid next) k.answers)) (settles m (delivered pid next).machine (omega arith) k.matched)
