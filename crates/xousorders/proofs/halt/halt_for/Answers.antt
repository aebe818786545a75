use Rattle.std.proofs.Common.{subst}
use Rattle.graph_search.specs.Edges.{HasCause}
use Rattle.order_search.specs.Faults.{IsFault}
use Rattle.xousorders.proofs.halt.halt_for.Goals as goal

pub returns-in-Fault : goal.returns-in-Fault
returns-in-Fault c s cause = c.halt_of.ensures s (subst (HasCause (IsFault s)) c.in-Fault.is cause)
