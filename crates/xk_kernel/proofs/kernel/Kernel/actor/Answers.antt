use Rattle.std.proofs.Common.{sym, ◌∙◌}
use Rattle.xk_kernel.proofs.Acting.OrderLemmas.{acts_itself, acts_next}
use Rattle.xk_kernel.proofs.kernel.Kernel.actor.Goals as goal

-- src/kernel/readers.rt
pub returns-then-is_ready_at : goal.returns-then-is_ready_at
returns-then-is_ready_at g c =
    acts_itself g.W.SwapStore.held c.args.self.now (sym c.is_ready_at.ensures ∙ c.if-is_ready_at.true)

pub returns : goal.returns
returns g c =
    c.next_ready_after.ensures
    ∙ acts_next g.W.SwapStore.held c.args.self.now c.requires.whole.threads (sym c.is_ready_at.ensures ∙ c.if-is_ready_at.false)
