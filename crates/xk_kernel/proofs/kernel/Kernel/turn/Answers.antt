use Rattle.std.proofs.Common.{sym, ◌∙◌}
use Rattle.vm_memory.specs.Memory.{processes}
use Rattle.xk_kernel.proofs.Acting.OrderLemmas.{cursor_whole, next_valid, turn_moves, turn_stays}
use Rattle.xk_kernel.proofs.kernel.Kernel.turn.Goals as goal

-- src/kernel/readers.rt
pub returns-in-Some-clause-whole : goal.returns-in-Some-clause-whole
returns-in-Some-clause-whole g c =
    let k = c.args.self.now in
    cursor_whole g.W.SwapStore k c.in-Some.next c.requires.whole
    (next_valid k (processes k.mem) k.cursor c.in-Some.next c.requires.whole.threads (sym c.next_ready_after.ensures ∙ c.in-Some.is))

pub returns-in-Some-clause-machine : goal.returns-in-Some-clause-machine
returns-in-Some-clause-machine g c =
    turn_moves g.W.SwapStore.held c.args.self.now c.requires.whole.threads c.in-Some.next (sym c.next_ready_after.ensures ∙ c.in-Some.is)

pub returns-in_default-clause-machine : goal.returns-in_default-clause-machine
returns-in_default-clause-machine g c =
    turn_stays g.W.SwapStore.held c.args.self.now c.requires.whole.threads (sym c.next_ready_after.ensures ∙ c.in_default.is)
