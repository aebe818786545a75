-- The next ready thread is the first one in the circle of ids.
use Rattle.std.proofs.Common.{◌≡◌, ◌<◌, true, false, Some}
use Rattle.xk_base.specs.declared.ids.ThreadId.{ThreadId}
use Rattle.xk_base.specs.Tables.Circle.{is_pid, is_thread_id, steps_to}
use Rattle.xk_base.proofs.CircleLemmas.{next_id-first}
use Rattle.machine_model.specs.State.Machine.{Machine}
use Rattle.machine_model.specs.State.Order.{next_ready, ready_at}

pub first_is_ready : (m : Machine) (c d between : ThreadId) → is_pid m.processes c.pid.0 ≡ true → next_ready m c ≡ Some d
    → is_thread_id m.processes between ≡ true → steps_to m.processes c between < steps_to m.processes c d → ready_at m between ≡ false
unfolding next_ready
first_is_ready m c d between p e h earlier = next_id-first m.processes (ready_at m) c d p e between h earlier
