use Rattle.std.proofs.Common.{◌≡◌, ℕ, ◌<◌, false}
use Rattle.xk_base.specs.Tables.Circle.{id_behind}
use Rattle.machine_model.specs.State.Order.{ready_at}
use Rattle.machine_model.proofs.order.next_ready.Given as goal

-- none of the first k behind the cursor is ready
abbrev pub invariant-loop-k : goal.invariant-loop-k
invariant-loop-k g l = (j : ℕ) → j < l.k → ready_at g.m (id_behind g.m.processes l.fn.cursor j) ≡ false
