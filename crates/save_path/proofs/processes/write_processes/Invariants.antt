use Rattle.xk_parts.specs.Shown.{processes_shown}
use Rattle.suspend_image.specs.Spelling.{proc_bytes}
use Rattle.save_path.proofs.SheetLemmas.{HasWritten}
use Rattle.save_path.specs.Rows.{proc_at}
use Rattle.save_path.proofs.processes.write_processes.Given as goal

-- the processes so far were appended
abbrev pub invariant-loop-k : goal.invariant-loop-k
invariant-loop-k l = HasWritten proc_bytes 140 (proc_at (processes_shown l.procs)) l.k l.fn.sheet l.sheet l.k
