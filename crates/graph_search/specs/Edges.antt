-- The edges that leave a node, as a space tells them.
use Rattle.std.specs.Prelude.{◌≡◌, ℕ, List, slice_get, Option, Some}
use Rattle.graph_search.specs.declared.space.Successor.{Successor}
use Rattle.graph_search.specs.declared.space.Unanswered.{Unanswered}
use Rattle.graph_search.specs.declared.space.Unanswered.TheVariants.{Fault, Memory}

module _ {Node Label Key : Type 0} (after : Node → Label → Option Node) (IsKey : Node → Key → Type 0) where
  -- there is a node, and the key is one of it
  pub record IsKeyAt (at : Option Node) (key : Key) : Type 0 where
    pub node : Node
    pub there : at ≡ Some node
    pub is_key : IsKey node key

  -- the edge of this label is among them
  pub record HasLabel (found : List (Successor Label Key)) (label : Label) : Type 0 where
    pub place : ℕ
    pub edge : Successor Label Key
    pub is : slice_get found place ≡ Some edge
    pub label_is : edge.label ≡ label

  -- each is an edge that leaves the node, with a key of the node to which it leads; and each edge that leaves it is among them
  pub record AreEdges (node : Node) (found : List (Successor Label Key)) : Type 0 where
    pub each : (i : ℕ) (edge : Successor Label Key) → slice_get found i ≡ Some edge → IsKeyAt (after node edge.label) edge.key
    pub all : (label : Label) (next : Node) → after node label ≡ Some next → HasLabel found label

  -- .. of that node, where there is one
  abbrev pub AreEdgesFrom : Option Node → List (Successor Label Key) → Type 0
  AreEdgesFrom at found = (node : Node) → at ≡ Some node → AreEdges node found

-- a fault has its cause; want of memory has none that is told
abbrev pub HasCause : {F : Type 0} → (F → Type 0) → Unanswered F → Type 0
HasCause IsFault (Memory error) = Unit {0}
HasCause IsFault (Fault fault) = IsFault fault
