use Rattle.std.proofs.Common.{◌≡◌, ◌<◌, ◌+◌, ℕ, false}
use Rattle.thread_table.specs.ThreadMap.{is_receiving}
use Rattle.thread_table.specs.Shown.{threads_of}
use Rattle.thread_table.proofs.table.Threads.receiver_in.Given as goal

-- no thread of the process with a lower tid waits there
abbrev pub invariant-loop-k : goal.invariant-loop-k
invariant-loop-k l = (j : ℕ) → j < l.k → is_receiving l.serial (threads_of l.self (record { pid = l.pid; tid = record { 0 = j + 1 } })) ≡ false
