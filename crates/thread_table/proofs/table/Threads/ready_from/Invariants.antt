use Rattle.std.proofs.Common.{◌≡◌, ◌<◌, ◌≤◌, ℕ, false}
use Rattle.thread_table.specs.ThreadMap.{is_ready_in}
use Rattle.thread_table.specs.Shown.{threads_of}
use Rattle.thread_table.proofs.table.Threads.ready_from.Given as goal

-- no thread with an earlier tid is Ready
abbrev pub invariant-loop-tid : goal.invariant-loop-tid
invariant-loop-tid l = (tid : ℕ) → l.from ≤ tid → tid < l.tid → is_ready_in (threads_of l.self) l.row tid ≡ false
