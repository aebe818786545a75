use Rattle.order_model.proofs.Moving.SearchLemmas.{told_are_orders}
use Rattle.order_model.proofs.nodes.told_are_orders.Goals as goal

-- src/nodes.rt
pub returns : goal.returns
returns c = told_are_orders
