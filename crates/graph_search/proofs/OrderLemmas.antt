-- In which order nodes are found.
use Rattle.std.proofs.Common.{◌≡◌, ◌≤◌, ◌<◌, ◌+◌, ℕ, zero, suc, List, [], ◌∷◌, ◌++◌, length, Some, None, sym, ap, subst, ◌∙◌, arith, ◌⊎◌, inl, inr, append_assoc, append-nil}
use Rattle.std.specs.Prelude.{slice_get}
use Rattle.std.proofs.lemmas.Option.{slice_get_within}
use Rattle.graph_search.specs.declared.found.Edge.{Edge}
use Rattle.graph_search.specs.Paths.{IsBreadthFirst, IsDepthFirst, IsOnWay, IsTree, labels_to}
use Rattle.graph_search.proofs.ListLemmas.{IsBehind, front_or_behind}
use Rattle.graph_search.proofs.PathLemmas.{labels_to-edge, labels_to-front}

module _ {Label : Type 0} where
  -- breadth first, further edges may come from a node that is no earlier than those from which edges came
  pub breadth_more : (edges more : List (Edge Label)) (from : ℕ) → IsBreadthFirst edges
      → ((k : ℕ) (e : Edge Label) → slice_get edges k ≡ Some e → e.from ≤ from)
      → ((k : ℕ) (e : Edge Label) → slice_get more k ≡ Some e → e.from ≡ from) → IsBreadthFirst (edges ++ more)
  breadth_more edges more from order before from_is k l e f less is is' =
      go (front_or_behind edges more k e is) (front_or_behind edges more l f is')
    where
      go : (slice_get edges k ≡ Some e) ⊎ IsBehind edges more k e → (slice_get edges l ≡ Some f) ⊎ IsBehind edges more l f → e.from ≤ f.from
      go (inl h) (inl h') = order k l e f less h h'
      go (inl h) (inr b) = let x = from_is b.place f b.is in let y = before k e h in omega (arith, x, y)
      go (inr b) (inl h') = absurd (let w = slice_get_within edges l f h' in let s = b.sum in let no : ⊥ = omega (arith, w, s, less) in no)
      go (inr b) (inr b') = let x = from_is b.place e b.is in let y = from_is b'.place f b'.is in omega (arith, x, y)

  -- ---- ways

  pub way_to_itself : (edges : List (Edge Label)) (i : ℕ) → IsOnWay edges i i
  way_to_itself edges i = ([], sym (append-nil (labels_to edges i)))

  pub way_further : (edges : List (Edge Label)) (i j k : ℕ) → IsOnWay edges i j → IsOnWay edges j k → IsOnWay edges i k
  way_further edges i j k a b =
      (a.0 ++ b.0, b.1 ∙ (ap (λ (ls : List Label). ls ++ b.0) a.1 ∙ append_assoc (labels_to edges i) a.0 b.0))

  -- further edges change nothing
  pub way_front : (edges more : List (Edge Label)) (i j : ℕ) → IsTree edges → i ≤ length edges → j ≤ length edges → IsOnWay edges i j
      → IsOnWay (edges ++ more) i j
  way_front edges more i j tree a b way =
      (way.0, labels_to-front edges more j tree b ∙ (way.1 ∙ ap (λ (ls : List Label). ls ++ way.0) (sym (labels_to-front edges more i tree a))))

  pub way_by_edge : (edges : List (Edge Label)) (k : ℕ) (e : Edge Label) → IsTree edges → slice_get edges k ≡ Some e → IsOnWay edges e.from (suc k)
  way_by_edge edges k e tree is = (e.label ∷ [], labels_to-edge edges k e tree is)

  -- depth first, an edge more may come from a node on the way to the last
  pub depth_more : (edges : List (Edge Label)) (edge : Edge Label) → IsTree edges → IsDepthFirst edges → edge.from ≤ length edges
      → IsOnWay edges edge.from (length edges) → IsDepthFirst (edges ++ edge ∷ [])
  depth_more edges edge tree order within way k e is = go (front_or_behind edges (edge ∷ []) k e is)
    where
      last : (i : ℕ) → k ≡ length edges + i → slice_get (edge ∷ []) i ≡ Some e → IsOnWay (edges ++ edge ∷ []) e.from k
      last zero sum at =
          let same : edge ≡ e = cc in
          let number : length edges ≡ k = omega (arith, sum) in
          subst (λ (j : ℕ). IsOnWay (edges ++ edge ∷ []) e.from j) number
          (subst (λ (x : Edge Label). IsOnWay (edges ++ edge ∷ []) x.from (length edges)) same
          (way_front edges (edge ∷ []) edge.from (length edges) tree within (omega arith) way))
      last (suc i) sum at = absurd (let no : None ≡ Some e = at in let n : ⊥ = cc in n)

      go : (slice_get edges k ≡ Some e) ⊎ IsBehind edges (edge ∷ []) k e → IsOnWay (edges ++ edge ∷ []) e.from k
      go (inl h) =
          let w : k < length edges = slice_get_within edges k e h in
          let before : e.from ≤ k = tree k e h in
          way_front edges (edge ∷ []) e.from k tree (omega (arith, w, before)) (omega (arith, w)) (order k e h)
      go (inr b) = last b.place b.sum b.is
