use Rattle.std.proofs.Common.{◌≤◌, length}
use Rattle.xk_parts.specs.Shown.{processes_shown}
use Rattle.save_path.proofs.processes.connection_count.Given as goal

-- there are at least so many
abbrev pub invariant-loop-k : goal.invariant-loop-k
invariant-loop-k l = l.k ≤ length (processes_shown l.procs l.pid.0).connections
