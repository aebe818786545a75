use Rattle.order_search.proofs.TellLemmas.{bytes_tell_nodes}
use Rattle.order_search.proofs.laws.bytes_tell_nodes.Goals as goal

pub returns : goal.returns
returns c = bytes_tell_nodes
