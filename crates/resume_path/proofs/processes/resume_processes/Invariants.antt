use Rattle.resume_path.proofs.Rows.ProcessRowLemmas.{AreProcessesTo}
use Rattle.resume_path.proofs.processes.resume_processes.Given as goal

abbrev pub invariant-rows : goal.invariant-rows
invariant-rows l = AreProcessesTo l.state.procs l.procs l.k
