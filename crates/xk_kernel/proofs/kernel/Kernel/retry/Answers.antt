-- The turn of a caller that will make its call again ends.
use Rattle.std.proofs.Common.{[], ◌∷◌, refl, ◌∙◌}
use Rattle.machine_model.specs.State.Changes.{Retried, call_settled}
use Rattle.machine_model.specs.State.Order.{turn}
use Rattle.xk_base.specs.declared.records.What.TheVariants.{Retry}
use Rattle.xk_kernel.specs.State.{machine_of}
use Rattle.xk_kernel.proofs.Calling.SettleLemmas.{retried_is, tells_so}
use Rattle.xk_kernel.proofs.kernel.Kernel.retry.Goals as goal

pub returns-clause-tells : goal.returns-clause-tells
unfolding machine_of
returns-clause-tells g c =
    let m = machine_of g.W.SwapStore.held c.args.self.now in
    tells_so g.W.SwapStore.held c.args.self.now c.turn.new.self (call_settled m Retried) (turn m) (Retry c.args.self.now.cursor ∷ []) (retried_is m Retried refl)
    c.turn.ensures.machine (c.turn.ensures.log ∙ c.push.ensures)
