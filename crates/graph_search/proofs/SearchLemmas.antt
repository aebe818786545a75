-- What a search keeps from step to step.
use Rattle.std.proofs.Common.{◌≡◌, ◌≤◌, ◌<◌, ◌+◌, ℕ, zero, suc, List, [], ◌∷◌, ◌++◌, length, Option, Some, None, sym, ap, subst, ◌∙◌, refl, arith, ◌⊎◌, inl, inr, length-append}
use Rattle.std.specs.Prelude.{slice_get}
use Rattle.std.proofs.lemmas.Option.{slice_get_within}
use Rattle.std.specs.declared.cmp.Ordering.{Ordering}
use Rattle.graph_search.specs.declared.found.Edge.{Edge}
use Rattle.graph_search.specs.declared.found.Strategy.{Strategy}
use Rattle.graph_search.specs.declared.found.Strategy.TheVariants.{Breadth, Depth}
use Rattle.graph_search.specs.declared.search.Waiting.{Waiting}
use Rattle.graph_search.specs.Paths.{IsInOrder}
use Rattle.graph_search.specs.Searches.{IsSearchAt}
use Rattle.graph_search.specs.Searching.{AreStacked, IsAwaited, IsMetBy, LeavesFound, Progress}
use Rattle.graph_search.specs.Told.{IsFound}
use Rattle.graph_search.proofs.ListLemmas.{IsBehind, front_or_behind}
use Rattle.graph_search.proofs.FoundLemmas.{found_back, found_same, met_front}
use Rattle.graph_search.proofs.GrowLemmas.{AreFound}

pub strategies : (st : Strategy) → (st ≡ Breadth) ⊎ (st ≡ Depth)
strategies Breadth = inl refl
strategies Depth = inr refl

pub not_both : (st : Strategy) → st ≡ Breadth → st ≡ Depth → ⊥
not_both st b d = let e : Breadth ≡ Depth = sym b ∙ d in cc

module _ {Node Label Key Note : Type 0} (after : Node → Label → Option Node) (IsKey : Node → Key → Type 0)
    (IsNote : Node → Note → Type 0) (cmp : Key → Key → Ordering) (start : Node) where
  pub found_in : (p : Progress Label Key Note) → IsSearchAt after IsKey IsNote cmp start p → AreFound after IsKey cmp start p.edges p.keys
  found_in p s = record {
    tree = s.tells.tree;
    led_to = s.tells.led_to;
    once = s.once;
    seen = s.keeps.seen;
    all_seen = s.keeps.all_seen;
  }

  -- a step that follows no node: edges and keys are added, and other edges wait
  pub record Steps (p : Progress Label Key Note) (edges : List (Edge Label)) (keys : List Key) (waiting : List (Waiting Label Key)) : Type 0 where
    pub more : List (Edge Label)
    pub is : edges ≡ p.edges ++ more
    pub found : AreFound after IsKey cmp start edges keys
    pub in_order : IsInOrder p.strategy edges
    pub before : (k : ℕ) (e : Edge Label) → slice_get edges k ≡ Some e → e.from ≤ length p.notes
    pub awaited : (i : ℕ) (next : Node) → IsAwaited after IsKey cmp start p.waiting next
        → IsMetBy after IsKey cmp start p.strategy edges i next ⊎ IsAwaited after IsKey cmp start waiting next
    pub waits : (i : ℕ) (w : Waiting Label Key) → slice_get waiting i ≡ Some w → LeavesFound after IsKey cmp start edges w
    pub none_waits : p.strategy ≡ Breadth → waiting ≡ []
    pub all_but_last : p.strategy ≡ Depth → length edges ≤ length p.notes
    pub stacked : p.strategy ≡ Depth → AreStacked edges waiting

  module _ (p : Progress Label Key Note) (old : IsSearchAt after IsKey IsNote cmp start p) where
    module _ (edges : List (Edge Label)) (keys : List Key) (waiting : List (Waiting Label Key)) (step : Steps p edges keys waiting) where
      back : (i : ℕ) (node : Node) → i ≤ length p.edges → IsFound after start edges i node → IsFound after start p.edges i node
      back i node within f =
          found_back after start p.edges step.more i node old.tells.tree within
          (subst (λ (es : List (Edge Label)). IsFound after start es i node) step.is f)

      longer : length p.edges ≤ length edges
      longer =
          let size : length edges ≡ length (p.edges ++ step.more) = ap length step.is in
          omega (arith, size, length-append p.edges step.more)

      followed : (i : ℕ) (node : Node) (next : Node) → IsMetBy after IsKey cmp start p.strategy p.edges i next ⊎ IsAwaited after IsKey cmp start p.waiting next
          → IsMetBy after IsKey cmp start p.strategy edges i next ⊎ IsAwaited after IsKey cmp start waiting next
      followed i node next (inl met) =
          inl (subst (λ (es : List (Edge Label)). IsMetBy after IsKey cmp start p.strategy es i next) (sym step.is)
          (met_front after IsKey cmp start p.strategy p.edges step.more i next old.tells.tree met))
      followed i node next (inr waits) = step.awaited i next waits

      pub search_on : IsSearchAt after IsKey IsNote cmp start (record p { edges = edges; keys = keys; waiting = waiting })
      search_on = record {
        tells = record {
          tree = step.found.tree;
          in_order = step.in_order;
          led_to = step.found.led_to;
          few = (let f : length p.notes ≤ length p.edges + 1 = old.tells.few in omega (arith, f, longer));
          noted = λ i node note f is.
              (let f1 : length p.notes ≤ length p.edges + 1 = old.tells.few in
              let w : i < length p.notes = slice_get_within p.notes i note is in
              old.tells.noted i node note (back i node (omega (arith, f1, w)) f) is);
        };
        once = step.found.once;
        keeps = record {
          seen = step.found.seen;
          all_seen = step.found.all_seen;
          followed = λ i node label next less f leads.
              (let f1 : length p.notes ≤ length p.edges + 1 = old.tells.few in
              followed i node next (old.keeps.followed i node label next less (back i node (omega (arith, f1, less)) f) leads));
          before = step.before;
          waiting = step.waits;
          none_waits = step.none_waits;
          all_but_last = step.all_but_last;
          stacked = step.stacked;
        };
      }

    -- the next node was followed: its note is added
    module _ (left : length p.notes ≤ length p.edges) (m : Node) (here : IsFound after start p.edges (length p.notes) m) (note : Note)
        (right : IsNote m note)
        (leads : (label : Label) (next : Node) → after m label ≡ Some next
        → IsMetBy after IsKey cmp start p.strategy p.edges (length p.notes) next ⊎ IsAwaited after IsKey cmp start p.waiting next) where
      abbrev notes : List Note
      notes = p.notes ++ note ∷ []

      size : length notes ≡ length p.notes + 1
      size = length-append p.notes (note ∷ [])

      the_node : (i : ℕ) (node : Node) → i ≡ length p.notes → IsFound after start p.edges i node → m ≡ node
      the_node i node is f =
          found_same after start p.edges (length p.notes) m node here (subst (λ (n : ℕ). IsFound after start p.edges n node) is f)

      last : (i place : ℕ) (node : Node) (other : Note) → IsFound after start p.edges i node → i ≡ length p.notes + place
          → slice_get (note ∷ []) place ≡ Some other → IsNote node other
      last i zero node other f sum is =
          let same : m ≡ node = the_node i node (omega (arith, sum)) f in
          let one : note ≡ other = cc in
          subst (λ (n : Node). IsNote n other) same (subst (IsNote m) one right)
      last i (suc place) node other f sum is = absurd (let no : None ≡ Some other = is in let n : ⊥ = cc in n)

      noted : (i : ℕ) (node : Node) (other : Note) → IsFound after start p.edges i node
          → (slice_get p.notes i ≡ Some other) ⊎ IsBehind p.notes (note ∷ []) i other → IsNote node other
      noted i node other f (inl h) = old.tells.noted i node other f h
      noted i node other f (inr b) = last i b.place node other f b.sum b.is

      which : (i : ℕ) → i < length notes → (i < length p.notes) ⊎ (i ≡ length p.notes)
      which i h = let z = size in grind arith

      now_followed : (i : ℕ) (node : Node) (label : Label) (next : Node) → IsFound after start p.edges i node → after node label ≡ Some next
          → (i < length p.notes) ⊎ (i ≡ length p.notes)
          → IsMetBy after IsKey cmp start p.strategy p.edges i next ⊎ IsAwaited after IsKey cmp start p.waiting next
      now_followed i node label next f is (inl less) = old.keeps.followed i node label next less f is
      now_followed i node label next f is (inr at) =
          let same : m ≡ node = the_node i node at f in
          subst (λ (n : ℕ). IsMetBy after IsKey cmp start p.strategy p.edges n next ⊎ IsAwaited after IsKey cmp start p.waiting next) (sym at)
          (leads label next (subst (λ (n : Node). after n label ≡ Some next) (sym same) is))

      pub noted_on : IsSearchAt after IsKey IsNote cmp start (record p { notes = notes })
      noted_on = record {
        tells = record {
          tree = old.tells.tree;
          in_order = old.tells.in_order;
          led_to = old.tells.led_to;
          few = omega (arith, left, size);
          noted = λ i node other f is. noted i node other f (front_or_behind p.notes (note ∷ []) i other is);
        };
        once = old.once;
        keeps = record {
          seen = old.keeps.seen;
          all_seen = old.keeps.all_seen;
          followed = λ i node label next less f is. now_followed i node label next f is (which i less);
          before = λ k e is. (let b = old.keeps.before k e is in omega (arith, b, size));
          waiting = old.keeps.waiting;
          none_waits = old.keeps.none_waits;
          all_but_last = λ depth. (let b = old.keeps.all_but_last depth in omega (arith, b, size));
          stacked = old.keeps.stacked;
        };
      }
