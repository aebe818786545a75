-- The nodes of a search are numbered: 0 is the start, and k + 1 is that to which its edge k leads, which comes from an earlier one.
use Rattle.std.specs.Prelude.{◌≡◌, ◌≤◌, ℕ, zero, suc, List, [], ◌∷◌, ◌++◌, slice_get, Some}
use Rattle.std.specs.Option.{option_map_or}
use Rattle.graph_search.specs.declared.found.Edge.{Edge}
use Rattle.graph_search.specs.declared.found.Strategy.{Strategy}
use Rattle.graph_search.specs.declared.found.Strategy.TheVariants.{Breadth, Depth}

-- each edge comes from a node that was found before
abbrev pub IsTree : {Label : Type 0} → List (Edge Label) → Type 0
IsTree edges = (k : ℕ) (edge : _) → slice_get edges k ≡ Some edge → edge.from ≤ k

-- the labels of at most so many edges on the way to the node
abbrev pub last_labels : {Label : Type 0} → ℕ → List (Edge Label) → ℕ → List Label
last_labels zero edges node = []
last_labels (suc most) edges zero = []
last_labels (suc most) edges (suc k) = option_map_or (λ edge. last_labels most edges edge.from ++ edge.label ∷ []) (slice_get edges k) []

-- The labels on the way from the start to the node: to the start none, to another those to the node before it and that of its edge. There
-- are at most as many as its number.
unfoldable pub labels_to : {Label : Type 0} → List (Edge Label) → ℕ → List Label
labels_to edges node = last_labels node edges node

-- ---- in which order nodes are found

-- breadth first: the edges come from the nodes in their order
abbrev pub IsBreadthFirst : {Label : Type 0} → List (Edge Label) → Type 0
IsBreadthFirst edges = (k l : ℕ) (e f : Edge _) → k ≤ l → slice_get edges k ≡ Some e → slice_get edges l ≡ Some f → e.from ≤ f.from

-- the way to a node goes on from that to another, or is the same
abbrev pub IsOnWay : {Label : Type 0} → List (Edge Label) → ℕ → ℕ → Type 0
IsOnWay {Label} edges before node = (more : List Label) × (labels_to edges node ≡ labels_to edges before ++ more)

-- depth first: each edge comes from the last node before, or from one on the way to it
abbrev pub IsDepthFirst : {Label : Type 0} → List (Edge Label) → Type 0
IsDepthFirst edges = (k : ℕ) (e : Edge _) → slice_get edges k ≡ Some e → IsOnWay edges e.from k

-- the nodes are numbered in the order of the strategy
abbrev pub IsInOrder : {Label : Type 0} → Strategy → List (Edge Label) → Type 0
IsInOrder Breadth edges = IsBreadthFirst edges
IsInOrder Depth edges = IsDepthFirst edges
