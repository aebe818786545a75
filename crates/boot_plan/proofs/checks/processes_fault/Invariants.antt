use Rattle.std.proofs.Common.{◌≡◌, ◌+◌, drop}
use Rattle.kernel_args.specs.Faults.{first_fault}
use Rattle.boot_plan.specs.Faults.{processes_faults}
use Rattle.boot_plan.proofs.checks.processes_fault.Given as goal

-- the first fault of the processes left is that of all
abbrev pub invariant-loop-process : goal.invariant-loop-process
invariant-loop-process l = record {
  pid : l.pid ≡ 2 + l.process-index;
  fault : first_fault (processes_faults l.words l.file l.pid (drop l.process-index l.processes)) ≡ first_fault (processes_faults l.words l.file 2 l.processes);
}
