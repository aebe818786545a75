use Rattle.std.proofs.Common.{◌≡◌, ◌<◌, ◌+◌, ◌*◌, ℕ, min, false}
use Rattle.xk_base.specs.declared.limits.TheConstants.{TID_LIMIT}
use Rattle.xk_base.specs.Tables.Circle.{id_behind}
use Rattle.thread_table.specs.ThreadMap.{is_ready}
use Rattle.thread_table.specs.Shown.{process_count, threads_of}
use Rattle.thread_table.proofs.table.Threads.next_ready_after.Given as goal

-- no thread of the processes that were looked at is Ready
abbrev pub invariant-loop-turn : goal.invariant-loop-turn
invariant-loop-turn l =
    (j : ℕ) → j + min l.fn.id.tid.0 TID_LIMIT < 31 * l.turn → is_ready (threads_of l.self (id_behind (process_count l.self) l.fn.id j)) ≡ false
