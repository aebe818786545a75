use Rattle.std.proofs.Common.{◌≡◌, ◌++◌, take}
use Rattle.std.specs.List.{flat_map}
use Rattle.kernel_args.specs.Writing.{process_row}
use Rattle.kernel_args.proofs.writing.append_processes.Given as goal

abbrev pub invariant-loop-process : goal.invariant-loop-process
invariant-loop-process l = l.out ≡ l.fn.out ++ flat_map process_row (take l.process-index l.processes)
