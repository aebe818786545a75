-- Quests: which orders are searched, from which start.
use Rattle.std.specs.List.{Contains}
use Rattle.std.specs.Prelude.{◌≡◌, ℕ, false, List, Option, Some, None}
use Rattle.event_player.specs.History.{History, run_of}
use Rattle.order_search.specs.Keys.{key_of}
use Rattle.order_search.specs.Spelled.{IsSpelled}
use Rattle.order_model.specs.declared.moves.Move.{Move}
use Rattle.order_model.specs.Moves.{Asked, Point, bytes_of, leads_by}
use Rattle.order_model.specs.Nodes.{after, node_of}
use Rattle.order_model.specs.declared.choices.Choice.{Choice}
use Rattle.order_model.specs.Asking.{asked_of}
use Rattle.order_model.specs.Choosing.{all_choices_at}
use Rattle.order_search.specs.declared.subject.Subject.{Subject}
use Rattle.graph_search.specs.Graph.{LeadsOn}
use Rattle.xk_base.specs.declared.limits.TheConstants.{STEP_LIMIT}
use Rattle.xk_kernel.specs.Start.{start}

-- the orders that are asked for, and the point from which they go
pub record Searching : Type 0 where
  pub asked : Asked
  pub start : Point

-- the point behind a history: its last state and its bytes on the console; none of the events that may come once came, what processes
-- ended with in it isn't kept, and no move was preempted
abbrev pub point_after : History → Point
point_after h = record { state = h.machine; console = bytes_of h.records; came = λ k. false; exits = λ pid. None; preempted = 0 }

-- the events before are played from the start of the image
abbrev pub history_before : Subject → History
history_before s = run_of STEP_LIMIT (start s.plan s.file.items) s.before.items

-- and orders begin behind them
unfoldable pub start_of : Subject → Point
start_of s = point_after (history_before s)

abbrev pub searching_of : Subject → Searching
searching_of s = record { asked = asked_of s.orders; start = start_of s }

-- the node from which all paths go
abbrev pub first_node : Searching → Point
first_node q = node_of q.asked q.start

abbrev pub next_node : Searching → Point → Move → Option Point
next_node q = after q.asked

-- the key of a node that its bytes tell
pub record IsKeyOf (q : Searching) (node : Point) (key : List ℕ) : Type 0 where
  pub is : key ≡ key_of q.asked node
  pub spelled : IsSpelled q.asked node

-- the path leads to a node
abbrev pub IsPath : Searching → List Move → Type 0
IsPath q path = LeadsOn (next_node q) (first_node q) path

-- the order leads to this point
abbrev pub Arrives : Searching → List Move → Point → Type 0
Arrives q order p = leads_by q.asked q.start order ≡ Some p

-- the choice is one of those at the point
pub record IsChoice (asked : Asked) (p : Point) (choice : Choice) : Type 0 where
  pub among : Contains (all_choices_at asked p) choice
