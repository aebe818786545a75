use Rattle.order_model.proofs.InterleavingLemmas.{interleavings_are_orders}
use Rattle.order_model.proofs.slices.interleavings_are_orders.Goals as goal

-- src/slices.rt
pub returns : goal.returns
returns c = interleavings_are_orders
