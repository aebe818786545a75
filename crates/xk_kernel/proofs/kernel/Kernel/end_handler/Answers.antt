use Rattle.std.proofs.Common.{refl}
use Rattle.xk_kernel.specs.State.{machine_of}
use Rattle.xk_kernel.proofs.Interrupting.RaiseLemmas.{handler_ends}
use Rattle.xk_kernel.proofs.kernel.Kernel.end_handler.Goals as goal

-- src/kernel/interrupts.rt
pub returns-clause-tells : goal.returns-clause-tells
unfolding machine_of
returns-clause-tells g c =
    let held = g.W.SwapStore.held in
    let old = c.args.self.now in
    handler_ends held old _ c.deliver.new.self c.push.new.self c.requires.handler c.deliver.result c.push.ensures refl
    (λ i. record (machine_of held old) { threads = c.wait.ensures.after i })
    (record { tells = c.deliver.ensures.tells; starts = c.deliver.ensures.starts })
