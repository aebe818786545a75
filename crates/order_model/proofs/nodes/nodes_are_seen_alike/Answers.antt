use Rattle.order_model.proofs.Moving.SeenLemmas.{nodes_are_seen_alike}
use Rattle.order_model.proofs.nodes.nodes_are_seen_alike.Goals as goal

-- src/nodes.rt
pub returns : goal.returns
returns c = nodes_are_seen_alike
