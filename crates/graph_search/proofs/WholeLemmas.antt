-- What a search tells that has followed all nodes; and how a search begins.
use Rattle.std.proofs.Common.{◌≡◌, ◌≤◌, ◌<◌, ◌+◌, ℕ, zero, suc, Bool, true, false, cond, List, [], ◌∷◌, ◌++◌, length, Option, Some, refl, sym, ap, subst, ◌∙◌, arith, ◌⊎◌, inl, inr, length-append}
use Rattle.std.specs.Prelude.{slice_get}
use Rattle.std.proofs.lemmas.Option.{option_and_then_some, slice_get_within}
use Rattle.std.specs.declared.cmp.Ordering.{Ordering}
use Rattle.std.specs.declared.cmp.Ordering.TheVariants.{Equal}
use Rattle.std.specs.BTreeSet.{BTreeSet, Updates}
use Rattle.std.specs.BTreeMap.{is_at}
use Rattle.std.specs.List.{list_any}
use Rattle.std.specs.Ordering.{is_eq}
use Rattle.std.proofs.lemmas.Bool.{false≢true}
use Rattle.graph_search.specs.declared.found.Edge.{Edge}
use Rattle.graph_search.specs.declared.found.Strategy.{Strategy}
use Rattle.graph_search.specs.declared.found.Strategy.TheVariants.{Breadth, Depth}
use Rattle.graph_search.specs.declared.search.Search.{Search}
use Rattle.graph_search.specs.declared.search.Waiting.{Waiting}
use Rattle.graph_search.specs.Graph.{node_by}
use Rattle.graph_search.specs.Paths.{IsInOrder, labels_to}
use Rattle.graph_search.specs.Searches.{IsSearch, IsSearchAt, IsWhole}
use Rattle.graph_search.specs.Searching.{AreSeen, IsAwaited, IsKeyFound, IsMetBy, Progress, has, progress_of}
use Rattle.graph_search.specs.Told.{IsFound, IsTold, KeysAgree, KeysTell, TellsAll}
use Rattle.graph_search.proofs.ListLemmas.{element_at}
use Rattle.graph_search.proofs.PathLemmas.{labels_to-edge, labels_to-start, later_no_shorter}
use Rattle.graph_search.proofs.FoundLemmas.{found_same, one_further}
use Rattle.graph_search.proofs.GrowLemmas.{is_equal}

module _ {Node Label Key Note : Type 0} (after : Node → Label → Option Node) (IsKey : Node → Key → Type 0)
    (IsNote : Node → Note → Type 0) (cmp : Key → Key → Ordering) (start : Node) where
  module _ (p : Progress Label Key Note) (s : IsSearchAt after IsKey IsNote cmp start p) where
    module _ (breadth : p.strategy ≡ Breadth) where
      by_depth : (i j : ℕ) → i ≤ j → j ≤ length p.edges → length (labels_to p.edges i) ≤ length (labels_to p.edges j)
      by_depth = later_no_shorter p.edges s.tells.tree (subst (λ (st : Strategy). IsInOrder st p.edges) breadth s.tells.in_order)

      -- the path of a node that was met from node i or before is longer than that to i by one at most
      met_depth : (i j : ℕ) → i ≤ length p.edges → j ≤ length p.edges
          → ((k : ℕ) (e : Edge Label) → j ≡ suc k → slice_get p.edges k ≡ Some e → e.from ≤ i)
          → length (labels_to p.edges j) ≤ length (labels_to p.edges i) + 1
      met_depth i zero within told by = rw labels_to-start (omega arith)
      met_depth i (suc k) within told by =
          let a : (e : Edge Label) × (slice_get p.edges k ≡ Some e) = element_at p.edges k (omega arith) in
          let from : a.0.from ≤ i = by k a.0 refl a.1 in
          let shorter : length (labels_to p.edges a.0.from) ≤ length (labels_to p.edges i) = by_depth a.0.from i from within in
          let x : length (labels_to p.edges (suc k)) ≡ length (labels_to p.edges a.0.from) + 1 =
          ap length (labels_to-edge p.edges k a.0 s.tells.tree a.1) ∙ length-append (labels_to p.edges a.0.from) (a.0.label ∷ []) in
          omega (arith, shorter, x)

    module _ (all : length p.notes ≡ length p.edges + 1) (none : p.waiting ≡ []) (tell : KeysTell after start IsKey cmp) where
      no_more_waits : (next : Node) → IsAwaited after IsKey cmp start p.waiting next → ⊥
      no_more_waits next a =
          let size : length p.waiting ≡ 0 = ap length none in
          let within = slice_get_within p.waiting a.place a.w a.is in
          omega (arith, size, within)

      met : (i : ℕ) (next : Node) → IsMetBy after IsKey cmp start p.strategy p.edges i next ⊎ IsAwaited after IsKey cmp start p.waiting next
          → IsMetBy after IsKey cmp start p.strategy p.edges i next
      met i next (inl m) = m
      met i next (inr a) = absurd (no_more_waits next a)

      -- the path of a node that is told, and then labels: a node that is told
      told_from : (path : List Label) (i : ℕ) (m n : Node) → IsFound after start p.edges i m → node_by after m path ≡ Some n
          → IsTold after start p.strategy p.edges n (length (labels_to p.edges i) + length path)
      told_from [] i m n f is =
          let same : m ≡ n = cc in
          record { number = i; is = subst (IsFound after start p.edges i) same f; no_longer = λ breadth. omega arith }
      told_from (label ∷ path) i m n f is =
          option_and_then_some (λ (next : Node). node_by after next path) (after m label) n is
          (λ (next : Node) (by : after m label ≡ Some next) (rest : node_by after next path ≡ Some n).
          (let within : i ≤ length p.edges = f.told in
          let m1 : IsMetBy after IsKey cmp start p.strategy p.edges i next = met i next (s.keeps.followed i m label next (omega (arith, all, within)) f by) in
          let found : IsKeyFound after IsKey cmp start p.edges m1.found_key = m1.found in
          let same : found.node ≡ next = tell (labels_to p.edges found.number) (labels_to p.edges i ++ label ∷ []) found.node next found.key m1.found_key
          found.is.by_path (one_further after start (labels_to p.edges i) m next label f.by_path by) found.of_node m1.of_next found.equal in
          let later : IsTold after start p.strategy p.edges n (length (labels_to p.edges found.number) + length path) =
          told_from path found.number next n (subst (IsFound after start p.edges found.number) same found.is) rest in
          record {
            number = later.number;
            is = later.is;
            no_longer = λ breadth.
                (let depth : length (labels_to p.edges found.number) ≤ length (labels_to p.edges i) + 1 =
                met_depth breadth i found.number within found.is.told (m1.by_then breadth) in
                let short : length (labels_to p.edges later.number) ≤ length (labels_to p.edges found.number) + length path = later.no_longer breadth in
                omega (arith, depth, short));
          }))

      start_found : IsFound after start p.edges 0 start
      start_found = record { told = omega arith; by_path = ap (node_by after start) (labels_to-start p.edges) }

      pub tells_all : TellsAll after start p.strategy p.edges
      tells_all path node is =
          let told : IsTold after start p.strategy p.edges node (length (labels_to p.edges 0) + length path) = told_from path 0 start node start_found is in
          let none : length (labels_to p.edges 0) ≡ 0 = ap length (labels_to-start p.edges) in
          record {
            number = told.number;
            is = told.is;
            no_longer = λ breadth.
                (let short : length (labels_to p.edges told.number) ≤ length (labels_to p.edges 0) + length path = told.no_longer breadth in
                omega (arith, short, none));
          }

  pub whole : (old new : Search Label Key Note) → IsSearch after IsKey IsNote cmp start old
      → length old.edges.items < length old.notes.items → old.waiting.items ≡ [] → progress_of new ≡ progress_of old
      → IsWhole after IsKey cmp start new
  whole old new search more none same =
      let few : length old.notes.items ≤ length old.edges.items + 1 = search.tells.few in
      let all : length old.notes.items ≡ length old.edges.items + 1 = omega (arith, few, more) in
      record {
        followed = subst (λ (p : Progress Label Key Note). length p.notes ≡ length p.edges + 1) (sym same) all;
        all = λ tell. subst (λ (p : Progress Label Key Note). TellsAll after start p.strategy p.edges) (sym same)
            (tells_all (progress_of old) search all none tell);
      }

  -- ---- the beginning

  start_alone : (i : ℕ) → i ≤ 0 → IsFound after start [] i start
  start_alone zero within = record { told = omega arith; by_path = ap (node_by after start) (labels_to-start {Label = Label} []) }
  start_alone (suc i) within = absurd (omega arith)

  no_element : {A : Type 0} (k : ℕ) (x : A) → slice_get [] k ≡ Some x → ⊥
  no_element k x at = cc

  no_order : (strategy : Strategy) → IsInOrder {Label = Label} strategy []
  no_order Breadth = λ k l e f less at. absurd (no_element k e at)
  no_order Depth = λ k e at. absurd (no_element k e at)

  pub begun : (strategy : Strategy) (keys : List Key) (key : Key) → ((q : Key) → has cmp keys q ≡ true → cmp key q ≡ Equal)
      → ((q : Key) → cmp key q ≡ Equal → has cmp keys q ≡ true) → IsKey start key
      → IsSearchAt {Note = Note} after IsKey IsNote cmp start (record { strategy = strategy; edges = []; notes = []; keys = keys; waiting = [] })
  begun strategy keys key only there is = record {
    tells = record {
      tree = λ k e at. absurd (no_element k e at);
      in_order = no_order strategy;
      led_to = λ i within. (start, start_alone i within);
      few = omega arith;
      noted = λ i node note f at. absurd (no_element i note at);
    };
    once = λ agree i j node f g. (let a = f.told in let b = g.told in omega (arith, a, b));
    keeps = record {
      seen = λ q h. record { number = 0; node = start; is = start_alone 0 (omega arith); key = key; of_node = is; equal = only q h };
      all_seen = all_seen;
      followed = λ i node label next within. absurd (let no : ⊥ = omega (arith, within) in no);
      before = λ k e at. absurd (no_element k e at);
      waiting = λ i w at. absurd (no_element i w at);
      none_waits = λ breadth. refl;
      all_but_last = λ depth. omega arith;
      stacked = λ depth. record {
        along = λ i j w x less at. absurd (no_element i w at);
        to_last = λ i w at. absurd (no_element i w at);
      };
    };
  }
    where
      all_seen : KeysAgree IsKey cmp → AreSeen {Label = Label} after IsKey cmp start [] keys
      all_seen agree i node q f of_node =
          let same : start ≡ node = found_same after start [] i start node (start_alone i f.told) f in
          there q (agree start key q is (subst (λ (n : Node). IsKey n q) (sym same) of_node))

  pub begun_as : (strategy : Strategy) (edges : List (Edge Label)) (notes : List Note) (keys : List Key) (waiting : List (Waiting Label Key)) (key : Key)
      → edges ≡ [] → notes ≡ [] → waiting ≡ [] → ((q : Key) → has cmp keys q ≡ true → cmp key q ≡ Equal)
      → ((q : Key) → cmp key q ≡ Equal → has cmp keys q ≡ true) → IsKey start key
      → IsSearchAt {Note = Note} after IsKey IsNote cmp start (record { strategy = strategy; edges = edges; notes = notes; keys = keys; waiting = waiting })
  begun_as strategy edges notes keys waiting key e n w only there is =
      subst (λ (es : List (Edge Label)). IsSearchAt {Note = Note} after IsKey IsNote cmp start (record { strategy = strategy; edges = es; notes = notes; keys = keys; waiting = waiting })) (sym e)
      (subst (λ (ns : List Note). IsSearchAt {Note = Note} after IsKey IsNote cmp start (record { strategy = strategy; edges = []; notes = ns; keys = keys; waiting = waiting })) (sym n)
      (subst (λ (ws : List (Waiting Label Key)). IsSearchAt {Note = Note} after IsKey IsNote cmp start (record { strategy = strategy; edges = []; notes = []; keys = keys; waiting = ws })) (sym w)
      (begun strategy keys key only there is)))

only_so : (b c : Bool) → c ≡ false → cond b true c ≡ true → b ≡ true
only_so true c none h = refl
only_so false c none h = absurd (false≢true (sym none ∙ h))

-- a key that was put into no keys is the only one
pub only_key : {Key : Type 0} → (cmp : Key → Key → Ordering) (old new : BTreeSet Key) (key : Key) → old.keys ≡ [] → Updates cmp old new key true
    → (q : Key) → has cmp new.keys q ≡ true → cmp key q ≡ Equal
only_key cmp old new key none updates q is =
    is_equal (cmp key q)
    (only_so (is_at (cmp key) q) (has cmp old.keys q) (ap (list_any (is_at (cmp q))) none) (sym (updates.0 q) ∙ is))

-- .. and all that are equal to it are there
pub key_there : {Key : Type 0} → (cmp : Key → Key → Ordering) (old new : BTreeSet Key) (key : Key) → Updates cmp old new key true
    → (q : Key) → cmp key q ≡ Equal → has cmp new.keys q ≡ true
key_there cmp old new key updates q same = updates.0 q ∙ ap (λ (o : Ordering). cond (is_eq o) true (has cmp old.keys q)) same
