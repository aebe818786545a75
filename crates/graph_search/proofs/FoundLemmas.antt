-- Nodes by their numbers.
use Rattle.std.proofs.Common.{◌≡◌, ◌≤◌, ◌<◌, ℕ, suc, List, [], ◌∷◌, ◌++◌, length, Option, Some, None, sym, ap, ◌∙◌, refl, arith, length-append}
use Rattle.std.specs.Prelude.{slice_get}
use Rattle.std.specs.Option.{option_and_then}
use Rattle.std.proofs.lemmas.Option.{slice_get_within}
use Rattle.std.specs.declared.cmp.Ordering.{Ordering}
use Rattle.graph_search.specs.declared.found.Edge.{Edge}
use Rattle.graph_search.specs.declared.found.Strategy.{Strategy}
use Rattle.graph_search.specs.declared.search.Waiting.{Waiting}
use Rattle.graph_search.specs.Graph.{node_by}
use Rattle.graph_search.specs.Paths.{IsTree, labels_to}
use Rattle.graph_search.specs.Searching.{IsKeyFound, IsMetBy, LeavesFound}
use Rattle.graph_search.specs.Told.{IsFound}
use Rattle.graph_search.proofs.ListLemmas.{slice_get-front}
use Rattle.graph_search.proofs.PathLemmas.{labels_to-edge, labels_to-front}

module _ {Node Label : Type 0} (after : Node → Label → Option Node) where
  -- a path and then another
  pub node_by-append : (m : Node) (p q : List Label) → node_by after m (p ++ q) ≡ option_and_then (λ n. node_by after n q) (node_by after m p)
  node_by-append m [] q = refl
  node_by-append m (label ∷ p) q = go (after m label) (λ n. node_by-append n p q)
    where
      go : (o : Option Node) → ((n : Node) → node_by after n (p ++ q) ≡ option_and_then (λ x. node_by after x q) (node_by after n p))
          → option_and_then (λ n. node_by after n (p ++ q)) o ≡ option_and_then (λ x. node_by after x q) (option_and_then (λ n. node_by after n p) o)
      go None later = refl
      go (Some n) later = later n

  one_label : (m next : Node) (label : Label) → after m label ≡ Some next → node_by after m (label ∷ []) ≡ Some next
  one_label m next label is = ap (option_and_then (λ (n : Node). node_by after n [])) is

  module _ (start : Node) where
    -- a node by a path and one more label
    pub one_further : (p : List Label) (m next : Node) (label : Label) → node_by after start p ≡ Some m → after m label ≡ Some next
        → node_by after start (p ++ label ∷ []) ≡ Some next
    one_further p m next label to is =
        node_by-append start p (label ∷ [])
        ∙ (ap (option_and_then (λ (n : Node). node_by after n (label ∷ []))) to ∙ one_label m next label is)

    pub found_same : (edges : List (Edge Label)) (i : ℕ) (m n : Node) → IsFound after start edges i m → IsFound after start edges i n → m ≡ n
    found_same edges i m n f g =
        let a : node_by after start (labels_to edges i) ≡ Some m = f.by_path in
        let b : node_by after start (labels_to edges i) ≡ Some n = g.by_path in
        cc

    -- further edges change nothing
    pub found_front : (edges more : List (Edge Label)) (i : ℕ) (node : Node) → IsTree edges → IsFound after start edges i node
        → IsFound after start (edges ++ more) i node
    found_front edges more i node tree f = record {
      told = (let h = f.told in omega (arith, length-append edges more));
      by_path = ap (node_by after start) (labels_to-front edges more i tree f.told) ∙ f.by_path;
    }

    pub found_back : (edges more : List (Edge Label)) (i : ℕ) (node : Node) → IsTree edges → i ≤ length edges
        → IsFound after start (edges ++ more) i node → IsFound after start edges i node
    found_back edges more i node tree within f = record {
      told = within;
      by_path = ap (node_by after start) (sym (labels_to-front edges more i tree within)) ∙ f.by_path;
    }

    -- the node to which an edge leads
    pub found_edge : (edges : List (Edge Label)) (k : ℕ) (e : Edge Label) (m next : Node) → IsTree edges → slice_get edges k ≡ Some e
        → IsFound after start edges e.from m → after m e.label ≡ Some next → IsFound after start edges (suc k) next
    found_edge edges k e m next tree there from is = record {
      told = (let h = slice_get_within edges k e there in omega arith);
      by_path = ap (node_by after start) (labels_to-edge edges k e tree there) ∙ one_further (labels_to edges e.from) m next e.label from.by_path is;
    }

module _ {Node Label Key : Type 0} (after : Node → Label → Option Node) (IsKey : Node → Key → Type 0) (cmp : Key → Key → Ordering)
    (start : Node) where
  pub key_front : (edges more : List (Edge Label)) (q : Key) → IsTree edges → IsKeyFound after IsKey cmp start edges q
      → IsKeyFound after IsKey cmp start (edges ++ more) q
  key_front edges more q tree f = record {
    number = f.number;
    node = f.node;
    is = found_front after start edges more f.number f.node tree f.is;
    key = f.key;
    of_node = f.of_node;
    equal = f.equal;
  }

  pub met_front : (strategy : Strategy) (edges more : List (Edge Label)) (i : ℕ) (next : Node) → IsTree edges
      → IsMetBy after IsKey cmp start strategy edges i next → IsMetBy after IsKey cmp start strategy (edges ++ more) i next
  met_front strategy edges more i next tree f = record {
    found_key = f.found_key;
    found = record {
      number = f.found.number;
      node = f.found.node;
      is = found_front after start edges more f.found.number f.found.node tree f.found.is;
      key = f.found.key;
      of_node = f.found.of_node;
      equal = f.found.equal;
    };
    by_then = λ breadth k e is there.
        (let told = f.found.is.told in
        let within : k < length edges = omega arith in
        f.by_then breadth k e is (sym (slice_get-front edges more k within) ∙ there));
    of_next = f.of_next;
  }

  pub leaves_front : (edges more : List (Edge Label)) (w : Waiting Label Key) → IsTree edges → LeavesFound after IsKey cmp start edges w
      → LeavesFound after IsKey cmp start (edges ++ more) w
  leaves_front edges more w tree l = record {
    node = l.node;
    is = found_front after start edges more w.from l.node tree l.is;
    next = l.next;
    leads = l.leads;
    is_key = l.is_key;
  }
