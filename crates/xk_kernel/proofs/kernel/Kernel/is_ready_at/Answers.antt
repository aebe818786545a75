use Rattle.std.proofs.Common.{ap, sym, ◌∙◌}
use Rattle.thread_table.specs.States.{is_ready_state}
use Rattle.xk_kernel.specs.State.{machine_of}
use Rattle.xk_kernel.proofs.Acting.OrderLemmas.{ready_found, ready_missing, unready}
use Rattle.xk_kernel.proofs.Acting.ThreadLemmas.{not_lent, thread_lent}
use Rattle.xk_kernel.proofs.kernel.Kernel.is_ready_at.Goals as goal

-- src/kernel/readers.rt
pub returns-in-Ready : goal.returns-in-Ready
returns-in-Ready g c =
    let k = c.args.self.now in
    let t = c.in-Some.thread in
    sym (
    ready_found (machine_of g.W.SwapStore.held k) c.args.id t.now
    (thread_lent g.W.SwapStore.held k c.args.id c.get.result t c.get.ensures c.in-Some.is)
    ∙ ap is_ready_state c.in-Ready.is
    )

pub returns-in_default : goal.returns-in_default
returns-in_default g c =
    let k = c.args.self.now in
    let t = c.in-Some.thread in
    sym (
    ready_found (machine_of g.W.SwapStore.held k) c.args.id t.now
    (thread_lent g.W.SwapStore.held k c.args.id c.get.result t c.get.ensures c.in-Some.is)
    ∙ unready t.now.state c.in_default.not-Ready
    )

pub returns-in-None : goal.returns-in-None
returns-in-None g c =
    let k = c.args.self.now in
    sym (
    ready_missing (machine_of g.W.SwapStore.held k) c.args.id
    (not_lent g.W.SwapStore.held k c.args.id c.get.result c.get.ensures c.in-None.is)
    )
