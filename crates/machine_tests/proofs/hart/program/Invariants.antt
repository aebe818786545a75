use Rattle.std.proofs.Common.{◌≡◌, ◌%◌}
use Rattle.machine_tests.proofs.hart.program.Given as goal

abbrev pub invariant-loop : goal.invariant-loop
invariant-loop g l = l.pc % 4 ≡ 0

abbrev pub invariant-loop-r : goal.invariant-loop-r
invariant-loop-r g l = Unit {0}
