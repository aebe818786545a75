use Rattle.xk_kernel.proofs.Acting.ThreadLemmas.{there_is_one, thread_lent}
use Rattle.xk_kernel.proofs.kernel.Kernel.thread.Goals as goal

-- src/kernel/threads.rt
pub unreachable-requires : goal.unreachable-requires
unreachable-requires g c =
    there_is_one g.W.SwapStore.held c.args.self.now c.args.id c.get.result c.get.ensures c.in-None.is c.requires.there

pub returns : goal.returns
returns g c = thread_lent g.W.SwapStore.held c.args.self.now c.args.id c.get.result c.in-Some.thread c.get.ensures c.in-Some.is
