use Rattle.xk_kernel.specs.State.{machine_of}
use Rattle.xk_kernel.proofs.kernel.Kernel.tell_console.Goals as goal

pub returns-then-offset-eq0-clause-machine : goal.returns-then-offset-eq0-clause-machine
unfolding machine_of
returns-then-offset-eq0-clause-machine g c = c.begin.ensures.machine
