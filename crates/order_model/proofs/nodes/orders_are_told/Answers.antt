use Rattle.order_model.proofs.Moving.SearchLemmas.{orders_are_told}
use Rattle.order_model.proofs.nodes.orders_are_told.Goals as goal

-- src/nodes.rt
pub returns : goal.returns
returns c = orders_are_told
