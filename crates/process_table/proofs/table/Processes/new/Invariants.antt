use Rattle.std.proofs.Common.{◌≡◌, ◌≤◌, replicate, vec_capacity}
use Rattle.process_table.specs.State.{new_process}
use Rattle.process_table.proofs.table.Processes.new.Given as goal

abbrev pub invariant-loop-process : goal.invariant-loop-process
invariant-loop-process l = record {
  made : l.by_pid.items ≡ replicate l._process new_process;
  room : l.procs ≤ vec_capacity l.by_pid;
}
