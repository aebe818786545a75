use Rattle.std.proofs.Common.{◌≡◌, ◌*◌}
use Rattle.xk_parts.specs.Shown.{threads_shown}
use Rattle.send_path.specs.Rows.{log_with}
use Rattle.xk_parts.specs.Threads.{answered}
use Rattle.thread_table.specs.Shown.{process_count}
use Rattle.kill_path.specs.Noted.{noted}
use Rattle.kill_path.specs.Telling.{told_to}
use Rattle.kill_path.proofs.Threads.TellLemmas.{below, replies_below}
use Rattle.kill_path.proofs.telling.tell.Given as goal

-- the threads of the processes before this one are answered
abbrev pub invariant-loop-row : goal.invariant-loop-row
invariant-loop-row l = record {
  threads : threads_shown l.threads ≡ answered (below (l.row * 31) (told_to l.served (noted l.noted_ids))) (threads_shown l.initial.threads);
  log : l.log ≡ log_with (replies_below (l.row * 31) (told_to l.served (noted l.noted_ids))) l.initial.log;
  count : process_count l.threads ≡ process_count l.initial.threads;
}
