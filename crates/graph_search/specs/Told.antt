-- What a search tells: nodes by their numbers, with the edges by which they were found (`Paths`), and notes of the first ones.
use Rattle.std.specs.Prelude.{◌≡◌, ◌≤◌, ◌+◌, ℕ, List, length, slice_get, Option, Some}
use Rattle.std.specs.declared.cmp.Ordering.{Ordering}
use Rattle.std.specs.declared.cmp.Ordering.TheVariants.{Equal}
use Rattle.graph_search.specs.declared.found.Edge.{Edge}
use Rattle.graph_search.specs.declared.found.Strategy.{Strategy}
use Rattle.graph_search.specs.declared.found.Strategy.TheVariants.{Breadth}
use Rattle.graph_search.specs.Graph.{node_by}
use Rattle.graph_search.specs.Paths.{IsInOrder, IsTree, labels_to}

module _ {Node Label : Type 0} (after : Node → Label → Option Node) (start : Node) where
  -- the node of this number is that one: its path leads there
  pub record IsFound (edges : List (Edge Label)) (number : ℕ) (node : Node) : Type 0 where
    pub told : number ≤ length edges
    pub by_path : node_by after start (labels_to edges number) ≡ Some node

  -- the node is told; breadth first, with a path of so many labels at most
  pub record IsTold (strategy : Strategy) (edges : List (Edge Label)) (node : Node) (most : ℕ) : Type 0 where
    pub number : ℕ
    pub is : IsFound edges number node
    pub no_longer : strategy ≡ Breadth → length (labels_to edges number) ≤ most

  -- whole: each path leads to a node that is told; breadth first, by no longer path
  abbrev pub TellsAll : Strategy → List (Edge Label) → Type 0
  TellsAll strategy edges =
      (path : List Label) (node : Node) → node_by after start path ≡ Some node → IsTold strategy edges node (length path)

  -- no node is told twice
  abbrev pub TellsOnce : List (Edge Label) → Type 0
  TellsOnce edges = (i j : ℕ) (node : Node) → IsFound edges i node → IsFound edges j node → i ≡ j

  -- no two nodes to which paths lead have keys that compare as equal
  abbrev pub KeysTell : {Key : Type 0} → (Node → Key → Type 0) → (Key → Key → Ordering) → Type 0
  KeysTell {Key} IsKey cmp = (p q : List Label) (m n : Node) (j k : Key) → node_by after start p ≡ Some m → node_by after start q ≡ Some n
      → IsKey m j → IsKey n k → cmp j k ≡ Equal → m ≡ n

-- all keys of one node compare as equal
abbrev pub KeysAgree : {Node Key : Type 0} → (Node → Key → Type 0) → (Key → Key → Ordering) → Type 0
KeysAgree {Node} {Key} IsKey cmp = (node : Node) (j k : Key) → IsKey node j → IsKey node k → cmp j k ≡ Equal

module _ {Node Label Note : Type 0} (after : Node → Label → Option Node) (IsNote : Node → Note → Type 0) (start : Node) where
  -- sound: each node that is told is one to which its path leads, in the order of the strategy, and each note is right of its node
  pub record Tells (strategy : Strategy) (edges : List (Edge Label)) (notes : List Note) : Type 0 where
    pub tree : IsTree edges
    pub in_order : IsInOrder strategy edges
    pub led_to : (i : ℕ) → i ≤ length edges → (node : Node) × IsFound after start edges i node
    pub few : length notes ≤ length edges + 1
    pub noted : (i : ℕ) (node : Node) (note : Note) → IsFound after start edges i node → slice_get notes i ≡ Some note → IsNote node note
