use Rattle.std.proofs.Common.{◌≡◌, ℕ, false, is_some, vec_len}
use Rattle.xk_base.specs.Tables.RowMap.{row_map}
use Rattle.msg_queue.proofs.ring.Ring.close.Given as goal

-- no slot that is left has a message
abbrev pub invariant-loop-slot : goal.invariant-loop-slot
invariant-loop-slot l = (k : ℕ) → is_some (row_map l.slots.items k) ≡ false

abbrev pub decreases-loop-slot : goal.decreases-loop-slot
decreases-loop-slot l = vec_len l.slots
