use Rattle.std.proofs.Common.{◌≡◌, ◌+◌, ◌-◌, ◌*◌, ◌≤◌, length}
use Rattle.xk_parts.specs.Shown.{threads_shown}
use Rattle.send_path.specs.Rows.{log_with}
use Rattle.xk_parts.specs.Threads.{answered}
use Rattle.thread_table.specs.Shown.{process_count}
use Rattle.kill_path.specs.Noted.{noted}
use Rattle.kill_path.specs.Telling.{told_to}
use Rattle.kill_path.specs.ThreadSets.{of_process}
use Rattle.kill_path.proofs.Threads.TellLemmas.{below, replies_below}
use Rattle.kill_path.proofs.telling.tell_process.Given as goal

-- the threads with the tids before this one are answered
abbrev pub invariant-loop-tid : goal.invariant-loop-tid
invariant-loop-tid l = record {
  some : 1 ≤ l.from;
  few : l.from ≤ 32;
  threads : threads_shown l.threads ≡ answered (below ((l.pid.0 - 2) * 31 + (l.from - 1)) (told_to l.served (of_process l.pid (noted l.noted_ids)))) (threads_shown l.initial.threads);
  log : l.log ≡ log_with (replies_below ((l.pid.0 - 2) * 31 + (l.from - 1)) (told_to l.served (of_process l.pid (noted l.noted_ids)))) l.initial.log;
  written : length l.log.records + 1 ≤ length l.initial.log.records + l.from;
  room : l.log.room ≡ l.initial.log.room;
  count : process_count l.threads ≡ process_count l.initial.threads;
}

abbrev pub decreases-loop-tid : goal.decreases-loop-tid
decreases-loop-tid l = 32 - l.from
