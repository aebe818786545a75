use Rattle.order_model.proofs.Moving.SearchLemmas.{paths_are_orders}
use Rattle.order_model.proofs.nodes.paths_are_orders.Goals as goal

-- src/nodes.rt
pub returns : goal.returns
returns c = paths_are_orders
