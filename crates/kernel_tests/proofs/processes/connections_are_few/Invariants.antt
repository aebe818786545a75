use Rattle.std.proofs.Common.{◌≡◌}
use Rattle.process_table.specs.Shown.{process_count}
use Rattle.kernel_tests.proofs.processes.connections_are_few.Given as goal

abbrev pub invariant-loop-k : goal.invariant-loop-k
invariant-loop-k g l = process_count l.processes ≡ 1
