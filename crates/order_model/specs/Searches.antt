-- What a search of nodes says of orders: what it tells is so, and where it is whole each order is among what it tells.
use Rattle.std.specs.Prelude.{◌≡◌, ◌≤◌, ◌+◌, ℕ, true, List, length, slice_get, Some}
use Rattle.machine_model.specs.Runs.Matched.{Matched}
use Rattle.graph_search.specs.declared.found.Edge.{Edge}
use Rattle.graph_search.specs.declared.found.Strategy.{Strategy}
use Rattle.graph_search.specs.declared.found.Strategy.TheVariants.{Breadth}
use Rattle.graph_search.specs.Graph.{node_by}
use Rattle.graph_search.specs.Paths.{labels_to}
use Rattle.graph_search.specs.Told.{IsFound, Tells, TellsAll}
use Rattle.order_model.specs.declared.moves.Move.{Move}
use Rattle.order_model.specs.declared.moves.Note.{Note}
use Rattle.order_model.specs.Endings.{is_ending, turns_at}
use Rattle.machine_model.specs.State.Machine.{Machine}
use Rattle.order_model.specs.Moves.{Asked, Point, leads_by}
use Rattle.order_model.specs.Nodes.{after, goes_on, node_of}

-- ---- notes

-- whether orders end there, and how many slices may come next
abbrev pub note_of : Asked → Machine → Note
note_of asked m = record { ends = is_ending asked m; slices = length (turns_at asked m) }

-- the note is right of the node, from which orders may go on
pub record IsNoteOf (asked : Asked) (node : Point) (note : Note) : Type 0 where
  pub goes_on : goes_on asked.bound node.state ≡ true
  pub is : note ≡ note_of asked node.state

-- ---- what was told

-- what a search from this point told, by this strategy: nodes by the edges to them, and notes of the first ones
pub record Telling : Type 0 where
  pub asked : Asked
  pub start : Point
  pub strategy : Strategy
  pub edges : List (Edge Move)
  pub notes : List Note

-- it is so
abbrev pub IsSound : Telling → Type 0
IsSound t = Tells (after t.asked) (IsNoteOf t.asked) (node_of t.asked t.start) t.strategy t.edges t.notes

-- .. and it is all
pub record IsWhole (t : Telling) : Type 0 where
  pub all : TellsAll (after t.asked) (node_of t.asked t.start) t.strategy t.edges
  pub followed : length t.notes ≡ length t.edges + 1

-- the order leads to a point of this node
pub record LeadsTo (asked : Asked) (p : Point) (order : List Move) (node : Point) : Type 0 where
  pub last : Point
  pub leads : leads_by asked p order ≡ Some last
  pub is : node_of asked last ≡ node

-- the node of this number is told: its labels are an order, which leads to a point of it, and its note is right of that
pub record IsToldOrder (t : Telling) (number : ℕ) : Type 0 where
  pub last : Point
  pub leads : leads_by t.asked t.start (labels_to t.edges number) ≡ Some last
  pub noted : (note : Note) → slice_get t.notes number ≡ Some note → note ≡ note_of t.asked last.state

-- the node of this point is told, with its note; breadth first, by an order of so many moves at most
pub record IsPointTold (t : Telling) (p : Point) (most : ℕ) : Type 0 where
  pub number : ℕ
  pub found : IsFound (after t.asked) (node_of t.asked t.start) t.edges number (node_of t.asked p)
  pub no_longer : t.strategy ≡ Breadth → length (labels_to t.edges number) ≤ most
  pub noted : slice_get t.notes number ≡ Some (note_of t.asked p.state)

-- ---- laws

-- **Each path of nodes is an order**: it leads to a point of the node to which it leads.
abbrev pub PathsAreOrders : Type 0
PathsAreOrders =
    (asked : Asked) (path : List Move) (p node : Point) → Matched p.state → node_by (after asked) (node_of asked p) path ≡ Some node
    → LeadsTo asked p path node

-- **What is told is so.**
abbrev pub ToldAreOrders : Type 0
ToldAreOrders = (t : Telling) (number : ℕ) → Matched t.start.state → IsSound t → number ≤ length t.edges → IsToldOrder t number

-- **A whole search leaves no order out**: each order from the start leads to a point of a node that is told, and its note is right of that
-- point. A search breadth first tells it by no longer order.
abbrev pub OrdersAreTold : Type 0
OrdersAreTold =
    (t : Telling) (order : List Move) (last : Point) → Matched t.start.state → IsSound t → IsWhole t
    → leads_by t.asked t.start order ≡ Some last → IsPointTold t last (length order)
