-- The labels on the way to a node.
use Rattle.std.proofs.Common.{◌≡◌, ◌≤◌, ◌<◌, ◌+◌, ℕ, zero, suc, List, [], ◌∷◌, ◌++◌, length, Option, Some, None, refl, sym, ap, ◌∙◌, arith}
use Rattle.std.specs.Prelude.{slice_get}
use Rattle.std.specs.Option.{option_map_or}
use Rattle.std.specs.Prelude.{reverse}
use Rattle.std.proofs.Common.{append_assoc}
use Rattle.std.proofs.lemmas.List.{length-append, reverse-append}
use Rattle.graph_search.proofs.ListLemmas.{element_at, slice_get-front}
use Rattle.graph_search.specs.declared.found.Edge.{Edge}
use Rattle.graph_search.specs.Paths.{IsBreadthFirst, IsTree, last_labels, labels_to}

module _ {Label : Type 0} where
  -- the label of the edge after the labels to where it comes from
  abbrev with_edge : (ℕ → List Label) → Option (Edge Label) → List Label
  with_edge before edge = option_map_or (λ e. before e.from ++ e.label ∷ []) edge []

  same_with : (f g : ℕ → List Label) (o : Option (Edge Label)) → ((e : Edge Label) → o ≡ Some e → f e.from ≡ g e.from)
      → with_edge f o ≡ with_edge g o
  same_with f g None same = refl
  same_with f g (Some e) same = ap (λ (before : List Label). before ++ e.label ∷ []) (same e refl)

  -- as many edges as the node's number are enough
  enough : (f g : ℕ) (edges : List (Edge Label)) (node : ℕ) → IsTree edges → node ≤ f → node ≤ g
      → last_labels f edges node ≡ last_labels g edges node
  enough zero zero edges node tree few few' = refl
  enough zero (suc g) edges zero tree few few' = refl
  enough zero (suc g) edges (suc k) tree few few' = absurd (omega arith)
  enough (suc f) zero edges zero tree few few' = refl
  enough (suc f) zero edges (suc k) tree few few' = absurd (omega arith)
  enough (suc f) (suc g) edges zero tree few few' = refl
  enough (suc f) (suc g) edges (suc k) tree few few' =
      same_with (last_labels f edges) (last_labels g edges) (slice_get edges k)
      (λ e is. enough f g edges e.from tree (let h = tree k e is in omega arith) (let h = tree k e is in omega arith))

  -- the labels to a node are those to the one before it, and that of its edge
  pub labels_to-edge : (edges : List (Edge Label)) (k : ℕ) (e : Edge Label) → IsTree edges → slice_get edges k ≡ Some e
      → labels_to edges (suc k) ≡ labels_to edges e.from ++ e.label ∷ []
  unfolding labels_to
  labels_to-edge edges k e tree is =
      let before : e.from ≤ k = tree k e is in
      ap (with_edge (last_labels k edges)) is
      ∙ ap (λ (front : List Label). front ++ e.label ∷ []) (enough k e.from edges e.from tree before (omega arith))

  -- further edges change no path
  front_labels : (f : ℕ) (edges more : List (Edge Label)) (node : ℕ) → IsTree edges → node ≤ length edges
      → last_labels f (edges ++ more) node ≡ last_labels f edges node
  front_labels zero edges more node tree within = refl
  front_labels (suc f) edges more zero tree within = refl
  front_labels (suc f) edges more (suc k) tree within =
      let there : k < length edges = omega arith in
      ap (with_edge (last_labels f (edges ++ more))) (slice_get-front edges more k there)
      ∙ same_with (last_labels f (edges ++ more)) (last_labels f edges) (slice_get edges k)
      (λ e is. front_labels f edges more e.from tree (let h = tree k e is in omega (arith, there)))

  pub labels_to-front : (edges more : List (Edge Label)) (node : ℕ) → IsTree edges → node ≤ length edges
      → labels_to (edges ++ more) node ≡ labels_to edges node
  unfolding labels_to
  labels_to-front edges more node tree within = front_labels node edges more node tree within

  pub labels_to-start : (edges : List (Edge Label)) → labels_to edges zero ≡ []
  unfolding labels_to
  labels_to-start edges = refl

  -- the paths of later nodes are no shorter
  module _ (edges : List (Edge Label)) (tree : IsTree edges) (in_order : IsBreadthFirst edges) where
    by_depth : (most i j : ℕ) → j ≤ most → i ≤ j → j ≤ length edges → length (labels_to edges i) ≤ length (labels_to edges j)
    by_depth most zero j few less within = rw labels_to-start (omega arith)
    by_depth most (suc k) zero few less within = absurd (omega arith)
    by_depth zero (suc k) (suc l) few less within = absurd (omega arith)
    by_depth (suc most) (suc k) (suc l) few less within =
        let a : (e : Edge Label) × (slice_get edges k ≡ Some e) = element_at edges k (omega arith) in
        let b : (f : Edge Label) × (slice_get edges l ≡ Some f) = element_at edges l (omega arith) in
        let order : a.0.from ≤ b.0.from = in_order k l a.0 b.0 (omega arith) a.1 b.1 in
        let back : b.0.from ≤ l = tree l b.0 b.1 in
        let shorter : length (labels_to edges a.0.from) ≤ length (labels_to edges b.0.from) =
        by_depth most a.0.from b.0.from (omega (arith, back, few)) order (omega (arith, back, within)) in
        let x : length (labels_to edges (suc k)) ≡ length (labels_to edges a.0.from) + 1 =
        ap length (labels_to-edge edges k a.0 tree a.1) ∙ length-append (labels_to edges a.0.from) (a.0.label ∷ []) in
        let y : length (labels_to edges (suc l)) ≡ length (labels_to edges b.0.from) + 1 =
        ap length (labels_to-edge edges l b.0 tree b.1) ∙ length-append (labels_to edges b.0.from) (b.0.label ∷ []) in
        omega (arith, shorter, x, y)

    pub later_no_shorter : (i j : ℕ) → i ≤ j → j ≤ length edges → length (labels_to edges i) ≤ length (labels_to edges j)
    later_no_shorter i j less within = by_depth j i j (omega arith) less within

  -- one edge backwards
  pub one_back : (edges : List (Edge Label)) (k at : ℕ) (e : Edge Label) (passed more : List Label) → IsTree edges → at ≡ suc k
      → slice_get edges k ≡ Some e → more ≡ passed ++ e.label ∷ []
      → labels_to edges at ++ reverse passed ≡ labels_to edges e.from ++ reverse more
  one_back edges k at e passed more tree is there pushed =
      ap (λ (n : ℕ). labels_to edges n ++ reverse passed) is
      ∙ (ap (λ (front : List Label). front ++ reverse passed) (labels_to-edge edges k e tree there)
      ∙ (append_assoc (labels_to edges e.from) (e.label ∷ []) (reverse passed)
      ∙ ap (λ (rest : List Label). labels_to edges e.from ++ rest) (sym (ap reverse pushed ∙ reverse-append passed (e.label ∷ [])))))
