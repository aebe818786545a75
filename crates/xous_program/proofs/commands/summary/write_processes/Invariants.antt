use Rattle.std.proofs.Common.{◌≡◌, ◌≤◌, ◌+◌, take}
use Rattle.xk_ports.specs.Told.{Grows}
use Rattle.xous_program.specs.Summary.{process_lines}
use Rattle.xous_program.proofs.commands.summary.write_processes.Given as goal

-- the lines of the processes so far were written
abbrev pub invariant-loop-process : goal.invariant-loop-process
invariant-loop-process g l = record {
  pid : l.pid ≡ l.process-index + 2;
  written : Grows (g.K.Sink.written l.fn.out) (g.K.Sink.written l.out) (process_lines 2 (take l.process-index l.processes));
  later : g.K.Sink.faults l.fn.out ≤ g.K.Sink.faults l.out;
}
