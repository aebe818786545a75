use Rattle.resume_path.proofs.Rows.ProcessRowLemmas.{IsConnecting}
use Rattle.resume_path.proofs.processes.connect_all.Given as goal

abbrev pub invariant-serials : goal.invariant-serials
invariant-serials l = IsConnecting l.serials l.pid.0 l.fn.procs l.procs l.serial-index
