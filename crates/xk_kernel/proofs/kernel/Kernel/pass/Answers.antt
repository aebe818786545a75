use Rattle.xk_kernel.specs.State.{machine_of}
use Rattle.xk_kernel.proofs.kernel.Kernel.pass.Goals as goal

-- src/kernel/threads.rt
pub returns-clause-machine : goal.returns-clause-machine
unfolding machine_of
returns-clause-machine g c = λ i. record (machine_of g.W.SwapStore.held c.args.self.now) { threads = c.pass.ensures.after i }
