-- A graph of nodes with labelled edges: `after` is the node to which a label leads from a node, where such an edge leaves it.
use Rattle.std.specs.Prelude.{◌≡◌, List, [], ◌∷◌, Option, Some}
use Rattle.std.specs.Option.{option_and_then}

module _ {Node Label : Type 0} (after : Node → Label → Option Node) where
  -- the node to which a path leads from a node, where each of its labels leaves the node before
  abbrev pub node_by : Node → List Label → Option Node
  node_by node [] = Some node
  node_by node (label ∷ path) = option_and_then (λ next. node_by next path) (after node label)

  -- the path leads to a node
  abbrev pub LeadsOn : Node → List Label → Type 0
  LeadsOn node path = (last : Node) × (node_by node path ≡ Some last)
