use Rattle.std.proofs.Common.{ap}
use Rattle.xk_base.specs.Log.{LogState}
use Rattle.xk_kernel.proofs.Interrupting.DeliveryLemmas.{delivered_whole, over_parts}
use Rattle.xk_kernel.proofs.kernel.Kernel.deliver.Goals as goal

-- src/kernel/interrupts.rt
pub returns-clause-whole : goal.returns-clause-whole
returns-clause-whole g c =
    let done = over_parts g.W.SwapStore.held c.args.self.now c.args.pid c.deliver.new.threads c.deliver.new.claims c.deliver.new.log c.deliver.result c.deliver.ensures.delivers in
    delivered_whole g.W.SwapStore c.args.self.now c.deliver.new.threads c.deliver.new.claims c.deliver.new.log c.deliver.ensures.count
    (ap (λ (log : LogState). log.room) done.tells.log) c.requires.whole

pub returns-clause-tells : goal.returns-clause-tells
returns-clause-tells g c =
    (over_parts g.W.SwapStore.held c.args.self.now c.args.pid c.deliver.new.threads c.deliver.new.claims c.deliver.new.log c.deliver.result c.deliver.ensures.delivers).tells

pub returns-clause-starts : goal.returns-clause-starts
returns-clause-starts g c =
    (over_parts g.W.SwapStore.held c.args.self.now c.args.pid c.deliver.new.threads c.deliver.new.claims c.deliver.new.log c.deliver.result c.deliver.ensures.delivers).starts
