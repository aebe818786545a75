use Rattle.xk_kernel.proofs.Starting.StartLemmas.{AreStarted}
use Rattle.xk_kernel.proofs.kernel.boot.start_processes.Given as goal

abbrev pub invariant-processes : goal.invariant-processes
invariant-processes l = AreStarted l.plan l.threads l.k
