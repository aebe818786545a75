use Rattle.std.proofs.Common.{◌≡◌}
use Rattle.thread_table.specs.Shown.{process_count}
use Rattle.kernel_tests.proofs.threads.tids_are_counted_from_2.Given as goal

abbrev pub invariant-loop-tid : goal.invariant-loop-tid
invariant-loop-tid g l = process_count l.threads ≡ 2
