-- What a search keeps on its way.
use Rattle.std.specs.Prelude.{◌≡◌, ◌≤◌, ◌<◌, ◌+◌, ◌⊎◌, ℕ, zero, suc, Bool, false, true, cond, List, [], ◌∷◌, ◌++◌, drop, length, slice_get, Option, Some}
use Rattle.std.specs.declared.cmp.Ordering.{Ordering}
use Rattle.std.specs.declared.cmp.Ordering.TheVariants.{Equal}
use Rattle.std.specs.BTreeMap.{is_at}
use Rattle.std.specs.List.{list_any}
use Rattle.graph_search.specs.declared.found.Cut.{Cut}
use Rattle.graph_search.specs.declared.found.Cut.TheVariants.{Memory, Nodes, Stopped}
use Rattle.graph_search.specs.declared.found.Edge.{Edge}
use Rattle.graph_search.specs.declared.found.Strategy.{Strategy}
use Rattle.graph_search.specs.declared.found.Strategy.TheVariants.{Breadth, Depth}
use Rattle.graph_search.specs.declared.search.Search.{Search}
use Rattle.graph_search.specs.declared.search.Waiting.{Waiting}
use Rattle.graph_search.specs.declared.space.Successor.{Successor}
use Rattle.graph_search.specs.Paths.{IsOnWay}
use Rattle.graph_search.specs.Told.{IsFound, KeysAgree}

-- what a search has so far: what it found, as in `Found`, the keys of these nodes, and the edges that wait
pub record Progress (Label Key Note : Type 0) : Type 0 where
  pub strategy : Strategy
  pub edges : List (Edge Label)
  pub notes : List Note
  pub keys : List Key
  pub waiting : List (Waiting Label Key)

abbrev pub progress_of : {Label Key Note : Type 0} → Search Label Key Note → Progress Label Key Note
progress_of s = record {
  strategy = s.strategy;
  edges = s.edges.items;
  notes = s.notes.items;
  keys = s.seen.keys;
  waiting = s.waiting.items;
}

-- whether a key is equal to one of these
abbrev pub has : {Key : Type 0} → (Key → Key → Ordering) → List Key → Key → Bool
has cmp keys q = list_any (is_at (cmp q)) keys

-- the search is cut for this cause, where these edges were found: never for its caller
abbrev pub IsCut : {Label : Type 0} → ℕ → List (Edge Label) → Cut → Type 0
IsCut limit edges Nodes = limit ≤ length edges + 1
IsCut limit edges Memory = Unit {0}
IsCut limit edges Stopped = ⊥

-- ---- what is done with the edges that leave a node

module _ {Label Key Note : Type 0} (cmp : Key → Key → Ordering) (from : ℕ) where
  -- the node of an edge was found: its key wasn't seen, and is now
  pub record IsAnew (s : Successor Label Key) (old new : Progress Label Key Note) : Type 0 where
    pub unseen : has cmp old.keys s.key ≡ false
    pub keys : (q : Key) → has cmp new.keys q ≡ cond (is_at (cmp s.key) q) true (has cmp old.keys q)
    pub there : has cmp new.keys s.key ≡ true
    pub is : new ≡ record old { edges = old.edges ++ (record { from = from; label = s.label }) ∷ []; keys = new.keys }

  -- its key was seen, and nothing was done
  pub record IsKnown (s : Successor Label Key) (old new : Progress Label Key Note) : Type 0 where
    pub known : has cmp old.keys s.key ≡ true
    pub is : new ≡ old

  -- the edge was met
  abbrev pub Meets : Successor Label Key → Progress Label Key Note → Progress Label Key Note → Type 0
  Meets s old new = IsKnown s old new ⊎ IsAnew s old new

  -- the first n edges were met in turn
  abbrev pub MeetsInTurn : List (Successor Label Key) → ℕ → Progress Label Key Note → Progress Label Key Note → Type 0
  MeetsInTurn told zero old new = new ≡ old
  MeetsInTurn told (suc n) old new =
      (mid : Progress Label Key Note) × ((s : Successor Label Key)
      × ((slice_get told n ≡ Some s) × (MeetsInTurn told n old mid × Meets s mid new)))

  -- so many of them were
  pub record MeetsSome (told : List (Successor Label Key)) (old new : Progress Label Key Note) : Type 0 where
    pub met : ℕ
    pub few : met ≤ length told
    pub in_turn : MeetsInTurn told met old new

-- the edges of a node as they wait: the first is taken first, and so stands last
abbrev pub put_off : {Label Key : Type 0} → ℕ → List (Successor Label Key) → List (Waiting Label Key)
put_off from [] = []
put_off from (s ∷ told) = put_off from told ++ (record { from = from; edge = s }) ∷ []

module _ {Label Key Note : Type 0} (cmp : Key → Key → Ordering) (from : ℕ) where
  -- the last of the edges wait
  pub record PutsOffSome (told : List (Successor Label Key)) (old new : Progress Label Key Note) : Type 0 where
    pub left : ℕ
    pub is : new ≡ record old { waiting = old.waiting ++ put_off from (drop left told) }

  -- breadth first, edges are met; depth first, they wait
  abbrev pub LeavesAll : Strategy → List (Successor Label Key) → Progress Label Key Note → Progress Label Key Note → Type 0
  LeavesAll Breadth told old new = MeetsInTurn cmp from told (length told) old new
  LeavesAll Depth told old new = new ≡ record old { waiting = old.waiting ++ put_off from told }

  -- so are some of them
  abbrev pub LeavesSome : Strategy → List (Successor Label Key) → Progress Label Key Note → Progress Label Key Note → Type 0
  LeavesSome Breadth told old new = MeetsSome cmp from told old new
  LeavesSome Depth told old new = PutsOffSome told old new

-- the last edge that waits is met, and waits no longer
pub record Takes {Label Key Note : Type 0} (cmp : Key → Key → Ordering) (old new : Progress Label Key Note) : Type 0 where
  pub last : Waiting Label Key
  pub others : List (Waiting Label Key)
  pub waited : old.waiting ≡ others ++ last ∷ []
  pub mid : Progress Label Key Note
  pub meets : Meets cmp last.from last.edge old mid
  pub is : new ≡ record mid { waiting = others }

-- ---- what a search knows

module _ {Node Label Key : Type 0} (after : Node → Label → Option Node) (IsKey : Node → Key → Type 0) (cmp : Key → Key → Ordering)
    (start : Node) where
  -- all keys of nodes that are told are seen
  abbrev pub AreSeen : List (Edge Label) → List Key → Type 0
  AreSeen edges keys =
      (i : ℕ) (node : Node) (key : Key) → IsFound after start edges i node → IsKey node key → has cmp keys key ≡ true

  -- a node that was found has a key to which this one is equal
  pub record IsKeyFound (edges : List (Edge Label)) (q : Key) : Type 0 where
    pub number : ℕ
    pub node : Node
    pub is : IsFound after start edges number node
    pub key : Key
    pub of_node : IsKey node key
    pub equal : cmp key q ≡ Equal

  -- a node was found that has a key equal to one of this node; breadth first, from node i or an earlier one
  pub record IsMetBy (strategy : Strategy) (edges : List (Edge Label)) (i : ℕ) (next : Node) : Type 0 where
    pub found_key : Key
    pub found : IsKeyFound edges found_key
    pub by_then : strategy ≡ Breadth → (k : ℕ) (edge : Edge Label) → found.number ≡ suc k → slice_get edges k ≡ Some edge → edge.from ≤ i
    pub of_next : IsKey next found_key

  -- an edge that waits has a key of this node
  pub record IsAwaited (waiting : List (Waiting Label Key)) (next : Node) : Type 0 where
    pub place : ℕ
    pub w : Waiting Label Key
    pub is : slice_get waiting place ≡ Some w
    pub of_next : IsKey next w.edge.key

  -- it leaves a node that was found, from which its label leads to a node of its key
  pub record LeavesFound (edges : List (Edge Label)) (w : Waiting Label Key) : Type 0 where
    pub node : Node
    pub is : IsFound after start edges w.from node
    pub next : Node
    pub leads : after node w.edge.label ≡ Some next
    pub is_key : IsKey next w.edge.key

-- the edges that wait leave nodes on the way to the last one, in the order of that way
pub record AreStacked {Label Key : Type 0} (edges : List (Edge Label)) (waiting : List (Waiting Label Key)) : Type 0 where
  pub along : (i j : ℕ) (w x : Waiting Label Key) → i ≤ j → slice_get waiting i ≡ Some w → slice_get waiting j ≡ Some x
      → IsOnWay edges w.from x.from
  pub to_last : (i : ℕ) (w : Waiting Label Key) → slice_get waiting i ≡ Some w → IsOnWay edges w.from (length edges)

module _ {Node Label Key Note : Type 0} (after : Node → Label → Option Node) (IsKey : Node → Key → Type 0)
    (cmp : Key → Key → Ordering) (start : Node) where
  -- what a search knows beside what it tells
  pub record Keeps (p : Progress Label Key Note) : Type 0 where
    -- only keys of nodes that were found are seen
    pub seen : (q : Key) → has cmp p.keys q ≡ true → IsKeyFound after IsKey cmp start p.edges q
    -- and all are, if all keys of a node are equal
    pub all_seen : KeysAgree IsKey cmp → AreSeen after IsKey cmp start p.edges p.keys
    -- each edge of a node that was followed leads to a node that was found, or waits
    pub followed : (i : ℕ) (node : Node) (label : Label) (next : Node) → i < length p.notes → IsFound after start p.edges i node
        → after node label ≡ Some next
        → IsMetBy after IsKey cmp start p.strategy p.edges i next ⊎ IsAwaited after IsKey cmp start p.waiting next
    -- edges come from nodes that were followed, or from the next one
    pub before : (k : ℕ) (e : Edge Label) → slice_get p.edges k ≡ Some e → e.from ≤ length p.notes
    pub waiting : (i : ℕ) (w : Waiting Label Key) → slice_get p.waiting i ≡ Some w → LeavesFound after IsKey cmp start p.edges w
    -- breadth first none waits; depth first all nodes but the last were followed
    pub none_waits : p.strategy ≡ Breadth → p.waiting ≡ []
    pub all_but_last : p.strategy ≡ Depth → length p.edges ≤ length p.notes
    pub stacked : p.strategy ≡ Depth → AreStacked p.edges p.waiting
