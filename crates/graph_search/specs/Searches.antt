-- A search that its caller drives: what holds of it from call to call, and what each call does.
use Rattle.std.specs.Prelude.{◌≡◌, ◌≢◌, ◌≤◌, ◌+◌, ◌-◌, ℕ, List, [], ◌∷◌, ◌++◌, length, Option}
use Rattle.std.specs.declared.cmp.Ordering.{Ordering}
use Rattle.std.specs.declared.result.Result.{Result}
use Rattle.std.specs.declared.result.Result.TheVariants.{Ok}
use Rattle.graph_search.specs.declared.following.Turn.{Turn}
use Rattle.graph_search.specs.declared.following.Turn.TheVariants.{Cut, Followed}
use Rattle.graph_search.specs.declared.found.Cut.TheVariants.{Nodes, Stopped}
use Rattle.graph_search.specs.declared.found.Strategy.{Strategy}
use Rattle.graph_search.specs.declared.search.Search.{Search}
use Rattle.graph_search.specs.Searching.{Keeps, Progress, progress_of}
use Rattle.graph_search.specs.Told.{KeysAgree, KeysTell, Tells, TellsAll, TellsOnce}

module _ {Node Label Key Note : Type 0} (after : Node → Label → Option Node) (IsKey : Node → Key → Type 0) where
  -- What was found so far is so, no node is told twice if all its keys are equal, and the search knows what it needs to go on.
  pub record IsSearchAt (IsNote : Node → Note → Type 0) (cmp : Key → Key → Ordering) (start : Node) (p : Progress Label Key Note)
      : Type 0 where
    pub tells : Tells after IsNote start p.strategy p.edges p.notes
    pub once : KeysAgree IsKey cmp → TellsOnce after start p.edges
    pub keeps : Keeps after IsKey cmp start p

  abbrev pub IsSearch : (Node → Note → Type 0) → (Key → Key → Ordering) → Node → Search Label Key Note → Type 0
  IsSearch IsNote cmp start s = IsSearchAt IsNote cmp start (progress_of s)

  -- all nodes that were found are followed, and if keys tell nodes apart, each path leads to one of them
  pub record IsWhole (cmp : Key → Key → Ordering) (start : Node) (s : Search Label Key Note) : Type 0 where
    pub followed : length s.notes.items ≡ length s.edges.items + 1
    pub all : KeysTell after start IsKey cmp → TellsAll after start s.strategy s.edges.items

module _ {Label Key Note : Type 0} where
  -- only the start is found, and nothing was followed
  pub record Begins (strategy : Strategy) (s : Search Label Key Note) : Type 0 where
    pub strategy_is : s.strategy ≡ strategy
    pub edges : s.edges.items ≡ []
    pub notes : s.notes.items ≡ []

  -- What one call does: edges are only added, within the limit; a note is added if a node was followed, and none otherwise. It is cut for
  -- its nodes only if there are as many as the limit, and never stopped.
  pub record Goes {F : Type 0} (limit : ℕ) (old new : Search Label Key Note) (result : Result Turn F) : Type 0 where
    pub strategy : new.strategy ≡ old.strategy
    pub edges : (more : List _) × (new.edges.items ≡ old.edges.items ++ more)
    pub followed : result ≡ Ok Followed → (note : Note) × (new.notes.items ≡ old.notes.items ++ note ∷ [])
    pub not_followed : result ≢ Ok Followed → new.notes.items ≡ old.notes.items
    pub within : length old.edges.items ≤ limit - 1 → length new.edges.items ≤ limit - 1
    pub cut : result ≡ Ok (Cut Nodes) → limit ≤ length new.edges.items + 1
    pub not_stopped : result ≢ Ok (Cut Stopped)
