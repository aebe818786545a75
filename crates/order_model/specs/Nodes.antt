-- Nodes of a search of orders. A node is what of a point its later moves depend on: the state without its cursor, as each slice begins
-- with a pick, and without its count of steps where the orders have no bound, as nobody reads it until the timer's interrupt is claimed.
-- How many slices were preempted stays, as it says whether one more may be.
use Rattle.std.specs.Prelude.{◌≡◌, Bool, true, false, is_some, Option, None, if◌then◌else◌}
use Rattle.std.specs.Option.{option_map}
use Rattle.xk_base.specs.declared.limits.TheConstants.{TIMER_INTERRUPT}
use Rattle.xk_base.specs.Tables.Circle.{id_at}
use Rattle.machine_model.specs.Runs.Matched.{Matched}
use Rattle.machine_model.specs.State.Machine.{Machine}
use Rattle.order_model.specs.declared.moves.Move.{Move}
use Rattle.order_model.specs.Moves.{Asked, Bound, Point, Unbounded, UpTo, leads}

-- the state without what a node leaves out of it
abbrev pub set_aside : Bound → Machine → Machine
set_aside Unbounded m = record m { cursor = id_at 0; steps = 0 }
set_aside (UpTo bound) m = record m { cursor = id_at 0 }

-- the node of a point
abbrev pub node_of : Asked → Point → Point
node_of asked p = record p { state = set_aside asked.bound p.state }

-- orders without a bound go on as long as nobody has claimed the timer's interrupt
abbrev pub goes_on : Bound → Machine → Bool
goes_on Unbounded m = if is_some (m.claims TIMER_INTERRUPT) then false else true
goes_on (UpTo bound) m = true

-- the node to which a move leads from a node
unfoldable pub after : Asked → Point → Move → Option Point
after asked node move = if goes_on asked.bound node.state then option_map (node_of asked) (leads asked node move) else None

-- ---- laws

-- **Points of one node have the same moves, and these lead to points of one node.**
abbrev pub NodesLeadAlike : Type 0
NodesLeadAlike =
    (asked : Asked) (p : Point) (move : Move) → Matched p.state → goes_on asked.bound p.state ≡ true
    → after asked (node_of asked p) move ≡ option_map (node_of asked) (leads asked p move)
