-- What one call does.
use Rattle.std.proofs.Common.{◌≡◌, ◌≤◌, ◌-◌, ℕ, List, [], ◌∷◌, ◌++◌, length, Option, Some, ap, subst, ◌∙◌, refl, arith, append_assoc}
use Rattle.std.specs.declared.cmp.Ordering.{Ordering}
use Rattle.std.specs.declared.result.Result.{Result}
use Rattle.std.specs.declared.result.Result.TheVariants.{Err, Ok}
use Rattle.graph_search.specs.declared.following.Turn.{Turn}
use Rattle.graph_search.specs.declared.following.Turn.TheVariants.{Cut, Followed, Whole}
use Rattle.graph_search.specs.declared.found.Cut as found
use Rattle.graph_search.specs.declared.found.Cut.TheVariants.{Nodes, Stopped}
use Rattle.graph_search.specs.declared.found.Edge.{Edge}
use Rattle.graph_search.specs.declared.search.Search.{Search}
use Rattle.graph_search.specs.Graph.{node_by}
use Rattle.graph_search.specs.Paths.{labels_to}
use Rattle.graph_search.specs.Searches.{Goes, IsSearchAt}
use Rattle.graph_search.specs.Searching.{IsCut, Progress, progress_of}
use Rattle.graph_search.specs.Told.{IsFound}
use Rattle.graph_search.proofs.MeetLemmas.{GoesOn}

module _ {Label Key Note F : Type 0} (limit : ℕ) (old new : Search Label Key Note) (goes : GoesOn (progress_of old) (progress_of new))
    (within : length old.edges.items ≤ limit - 1 → length new.edges.items ≤ limit - 1) where
  pub goes_cut : (cut : found.Cut) → IsCut limit new.edges.items cut → Goes {F = F} limit old new (Ok (Cut cut))
  goes_cut cut cause = record {
    strategy = goes.strategy;
    edges = (goes.more, goes.edges);
    followed = λ is. absurd (let no : ⊥ = cc in no);
    not_followed = λ is. goes.notes;
    within = within;
    cut = λ is. (let same : cut ≡ Nodes = cc in subst (IsCut limit new.edges.items) same cause);
    not_stopped = λ is. (let same : cut ≡ Stopped = cc in subst (IsCut limit new.edges.items) same cause);
  }

  pub goes_nowhere_more : Goes {F = F} limit old new (Ok Whole)
  goes_nowhere_more = record {
    strategy = goes.strategy;
    edges = (goes.more, goes.edges);
    followed = λ is. absurd (let no : ⊥ = cc in no);
    not_followed = λ is. goes.notes;
    within = within;
    cut = λ is. absurd (let no : ⊥ = cc in no);
    not_stopped = λ is. (let no : ⊥ = cc in no);
  }

  pub goes_wrong : (fault : F) → Goes {F = F} limit old new (Err fault)
  goes_wrong fault = record {
    strategy = goes.strategy;
    edges = (goes.more, goes.edges);
    followed = λ is. absurd (let no : ⊥ = cc in no);
    not_followed = λ is. goes.notes;
    within = within;
    cut = λ is. absurd (let no : ⊥ = cc in no);
    not_stopped = λ is. (let no : ⊥ = cc in no);
  }

-- a node was followed
pub goes_one : {Label Key Note F : Type 0} (limit : ℕ) (old mid new : Search Label Key Note) (note : Note)
    → GoesOn (progress_of old) (progress_of mid) → (length old.edges.items ≤ limit - 1 → length mid.edges.items ≤ limit - 1)
    → new.strategy ≡ mid.strategy → new.edges.items ≡ mid.edges.items → new.notes.items ≡ mid.notes.items ++ note ∷ []
    → Goes {F = F} limit old new (Ok Followed)
goes_one {Note = Note} limit old mid new note goes within strategy edges notes = record {
  strategy = strategy ∙ goes.strategy;
  edges = (goes.more, edges ∙ goes.edges);
  followed = λ is. (note, notes ∙ ap (λ (ns : List Note). ns ++ note ∷ []) goes.notes);
  not_followed = λ is. absurd (is refl);
  within = λ h. (let w = within h in let same : length new.edges.items ≡ length mid.edges.items = ap length edges in omega (arith, w, same));
  cut = λ is. absurd (let no : ⊥ = cc in no);
  not_stopped = λ is. (let no : ⊥ = cc in no);
}

-- and before it edges that waited were met
pub goes_after : {Label Key Note F : Type 0} (limit : ℕ) (old mid new : Search Label Key Note) (result : Result Turn F)
    → GoesOn (progress_of old) (progress_of mid) → (length old.edges.items ≤ limit - 1 → length mid.edges.items ≤ limit - 1)
    → Goes limit mid new result → Goes limit old new result
goes_after {Label = Label} {Note = Note} limit old mid new result goes within later = record {
  strategy = later.strategy ∙ goes.strategy;
  edges = (
    goes.more ++ later.edges.0,
    later.edges.1
        ∙ (ap (λ (es : List (Edge Label)). es ++ later.edges.0) goes.edges ∙ append_assoc old.edges.items goes.more later.edges.0),
  );
  followed = λ is. (let f : (note : Note) × (new.notes.items ≡ mid.notes.items ++ note ∷ []) = later.followed is in
      (f.0, f.1 ∙ ap (λ (ns : List Note). ns ++ f.0 ∷ []) goes.notes));
  not_followed = λ is. later.not_followed is ∙ goes.notes;
  within = λ h. later.within (within h);
  cut = later.cut;
  not_stopped = later.not_stopped;
}

-- ---- the next node

module _ {Node Label Key Note : Type 0} (after : Node → Label → Option Node) (IsKey : Node → Key → Type 0)
    (IsNote : Node → Note → Type 0) (cmp : Key → Key → Ordering) (start : Node) where
  -- the path leads to the first node that wasn't followed
  pub record IsNext (p : Progress Label Key Note) (path : List Label) : Type 0 where
    pub node : Node
    pub here : IsFound after start p.edges (length p.notes) node
    pub by : node_by after start path ≡ Some node

  pub next_by : (p : Progress Label Key Note) (path : List Label) (n : ℕ) → IsSearchAt after IsKey IsNote cmp start p
      → length p.notes ≤ length p.edges → n ≡ length p.notes → path ≡ labels_to p.edges n → IsNext p path
  next_by p path n search more is labels =
      let led : (m : Node) × IsFound after start p.edges (length p.notes) m = search.tells.led_to (length p.notes) more in
      record {
        node = led.0;
        here = led.1;
        by = ap (node_by after start) (labels ∙ ap (labels_to p.edges) is) ∙ led.1.by_path;
      }
