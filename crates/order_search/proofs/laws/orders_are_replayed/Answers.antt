use Rattle.order_search.proofs.ReplayLemmas.{replayed}
use Rattle.order_search.proofs.laws.orders_are_replayed.Goals as goal

pub returns : goal.returns
returns c s order last begun readable leads within = replayed c.lines_are_read.ensures s order last begun readable leads within
