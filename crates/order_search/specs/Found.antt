-- What a search of orders says.
use Rattle.std.specs.Prelude.{◌≡◌, ◌≤◌, ◌+◌, ◌-◌, ℕ, List, length, Some, Ok, Err}
use Rattle.std.specs.declared.result.Result.{Result}
use Rattle.std.specs.declared.cmp.Ordering.{Ordering}
use Rattle.std.specs.declared.cmp.Ordering.TheVariants.{Equal}
use Rattle.sha2.specs.Sha256.{sha256}
use Rattle.order_model.specs.declared.moves.Move.{Move}
use Rattle.order_model.specs.declared.moves.Note.{Note}
use Rattle.order_model.specs.Moves.{Point, leads_by}
use Rattle.order_model.specs.Asking.{asked_of}
use Rattle.order_model.specs.Searches.{IsNoteOf, IsPointTold, IsSound, IsToldOrder, LeadsTo, Telling}
use Rattle.order_search.specs.Keys.{node_bytes}
use Rattle.order_search.specs.Quests.{IsKeyOf, Searching, first_node, next_node, searching_of}
use Rattle.order_search.specs.Spelled.{IsSpelled}
use Rattle.order_search.specs.declared.subject.Subject.{Subject}
use Rattle.graph_search.specs.declared.following.Turn.{Turn}
use Rattle.graph_search.specs.declared.following.Turn.TheVariants as turns
use Rattle.graph_search.specs.declared.found.Cut.TheVariants.{Nodes, Stopped}
use Rattle.graph_search.specs.declared.found.Edge.{Edge}
use Rattle.graph_search.specs.declared.found.Extent.{Extent}
use Rattle.graph_search.specs.declared.found.Extent.TheVariants.{Cut, Whole}
use Rattle.graph_search.specs.declared.found.Found.{Found}
use Rattle.graph_search.specs.declared.found.Strategy.{Strategy}
use Rattle.graph_search.specs.declared.search.Search.{Search}
use Rattle.graph_search.specs.Searches.{IsSearch}
use Rattle.graph_search.specs.Told.{TellsOnce}

abbrev pub telling_of : Searching → Strategy → List (Edge Move) → List Note → Telling
telling_of q strategy edges notes = record { asked = q.asked; start = q.start; strategy = strategy; edges = edges; notes = notes }

-- an order leads to the node, and its bytes tell it
pub record IsMet (q : Searching) (node : Point) : Type 0 where
  pub order : List Move
  pub leads : LeadsTo q.asked q.start order node
  pub spelled : IsSpelled q.asked node

-- **No collision**: the digests of nodes that orders lead to compare as equal only where the bytes are the same of which they are made.
abbrev pub DigestsTell : Searching → (List ℕ → List ℕ → Ordering) → Type 0
DigestsTell q cmp =
    (one other : Point) → IsMet q one → IsMet q other → cmp (sha256 (node_bytes q.asked one)) (sha256 (node_bytes q.asked other)) ≡ Equal
    → node_bytes q.asked one ≡ node_bytes q.asked other

-- **Sound**: each node that is told is one to which its order leads, and its note tells whether the order ends there.
abbrev pub TellsOrders : Telling → Type 0
TellsOrders t = (number : ℕ) → number ≤ length t.edges → IsToldOrder t number

-- **Whole**: each order leads to a point whose node is told, breadth first by no longer order, and noted where it ends.
abbrev pub TellsAllOrders : Telling → Type 0
TellsAllOrders t = (order : List Move) (last : Point) → leads_by t.asked t.start order ≡ Some last → IsPointTold t last (length order)

-- ---- what a search found

-- what was searched, by which strategy, the nodes that were found, by the edges to them and with the notes of the first ones, and whether
-- they are all
pub record Finding : Type 0 where
  pub searched : Subject
  pub strategy : Strategy
  pub edges : List (Edge Move)
  pub notes : List Note
  pub extent : Extent

abbrev pub finding_of : Subject → Found Move Note → Finding
finding_of s found = record {
  searched = s;
  strategy = found.strategy;
  edges = found.edges.items;
  notes = found.notes.items;
  extent = found.extent;
}

abbrev pub telling_in : Finding → Telling
telling_in f = telling_of (searching_of f.searched) f.strategy f.edges f.notes

-- **What was found is so.** Each node is one to which its order leads, with its note, and none is told twice; there are at most so many; and
-- nodes are left out for their number only where there are so many.
pub record FindsNodes (limit : ℕ) (f : Finding) : Type 0 where
  pub orders : TellsOrders (telling_in f)
  pub found : IsSound (telling_in f)
  pub once : TellsOnce (next_node (searching_of f.searched)) (first_node (searching_of f.searched)) f.edges
  pub within : length f.edges ≤ limit - 1
  pub cut : f.extent ≡ Cut Nodes → limit ≤ length f.edges + 1

-- **A whole search finds all**, if no two of these byte strings have one digest.
abbrev pub FindsAllOrders : (List ℕ → List ℕ → Ordering) → Finding → Type 0
FindsAllOrders cmp f = f.extent ≡ Whole → DigestsTell (searching_of f.searched) cmp → TellsAllOrders (telling_in f)

-- ---- a search under way

-- what it found so far, where it goes no further than that
abbrev pub so_far : Subject → Search Move (List ℕ) Note → Extent → Finding
so_far s search extent = record {
  searched = s;
  strategy = search.strategy;
  edges = search.edges.items;
  notes = search.notes.items;
  extent = extent;
}

-- it goes no further after this answer
abbrev pub extent_after : {F : Type 0} → Result Turn F → Extent
extent_after (Ok turns.Followed) = Cut Stopped
extent_after (Ok turns.Whole) = Whole
extent_after (Ok (turns.Cut why)) = Cut why
extent_after (Err fault) = Cut Stopped

-- it is a search of this subject, which can go on, and has found at most so many nodes
pub record IsUnderWay (cmp : List ℕ → List ℕ → Ordering) (limit : ℕ) (s : Subject) (search : Search Move (List ℕ) Note) : Type 0 where
  pub is : IsSearch (next_node (searching_of s)) (IsKeyOf (searching_of s)) (IsNoteOf (asked_of s.orders)) cmp (first_node (searching_of s)) search
  pub within : length search.edges.items ≤ limit - 1
