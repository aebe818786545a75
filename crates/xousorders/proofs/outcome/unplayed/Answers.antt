use Rattle.std.proofs.Common.{subst}
use Rattle.graph_search.specs.Edges.{HasCause}
use Rattle.order_search.specs.Faults.{IsRunFault}
use Rattle.xousorders.proofs.outcome.unplayed.Goals as goal

pub returns-in-Fault : goal.returns-in-Fault
returns-in-Fault c s why = c.stopped.ensures s (subst (HasCause (IsRunFault s)) c.in-Fault.is why)
