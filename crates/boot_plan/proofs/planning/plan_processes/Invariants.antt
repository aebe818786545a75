use Rattle.std.proofs.Common.{◌≡◌, map, take}
use Rattle.boot_plan.specs.FirstPages.{process_plan}
use Rattle.boot_plan.proofs.planning.plan_processes.Given as goal

abbrev pub invariant-loop-process : goal.invariant-loop-process
invariant-loop-process l = l.rows ≡ map process_plan (take l.process-index l.processes)
