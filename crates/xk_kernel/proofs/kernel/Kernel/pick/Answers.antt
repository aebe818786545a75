use Rattle.std.proofs.Common.{sym, ◌∙◌}
use Rattle.vm_memory.specs.Memory.{processes}
use Rattle.xk_kernel.proofs.Acting.OrderLemmas.{cursor_whole, pick_moves, pick_stays, ready_valid}
use Rattle.xk_kernel.proofs.kernel.Kernel.pick.Goals as goal

-- src/kernel/events.rt
pub returns-then-is_ready_at-clause-whole : goal.returns-then-is_ready_at-clause-whole
returns-then-is_ready_at-clause-whole g c =
    let k = c.args.self.now in
    cursor_whole g.W.SwapStore k c.args.who c.requires.whole
    (ready_valid g.W.SwapStore.held k (processes k.mem) c.args.who c.requires.whole.threads (sym c.is_ready_at.ensures ∙ c.if-is_ready_at.true))

pub returns-then-is_ready_at-clause-machine : goal.returns-then-is_ready_at-clause-machine
returns-then-is_ready_at-clause-machine g c =
    pick_moves g.W.SwapStore.held c.args.self.now c.args.who (sym c.is_ready_at.ensures ∙ c.if-is_ready_at.true)

pub returns-else-is_ready_at-clause-machine : goal.returns-else-is_ready_at-clause-machine
returns-else-is_ready_at-clause-machine g c =
    pick_stays g.W.SwapStore.held c.args.self.now c.args.who (sym c.is_ready_at.ensures ∙ c.if-is_ready_at.false)
