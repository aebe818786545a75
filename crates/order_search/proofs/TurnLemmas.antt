-- Edges by turns are the same edges, in another order.
use Rattle.std.proofs.Common.{◌≡◌, ◌≤◌, ℕ, zero, suc, Bool, true, false, cond, List, [], ◌∷◌, ◌++◌, length, take, not, Option, Some, refl, sym, ap, subst, ◌∙◌, arith}
use Rattle.std.specs.Prelude.{◌==◌, filter, slice_get, if◌then◌else◌}
use Rattle.std.specs.List.{Contains}
use Rattle.std.proofs.lemmas.List.Elements.{All-append, All-contains, All-contains_itself, All-filter, Contains-append_left, Contains-append_right}
use Rattle.std.proofs.lemmas.Option.{get_or_from_slice_get, slice_get-get_or, slice_get_within}
use Rattle.std.proofs.lemmas.List.{take_all}
use Rattle.graph_search.specs.declared.space.Successor.{Successor}
use Rattle.graph_search.specs.Edges.{AreEdges, HasLabel}
use Rattle.order_model.specs.declared.moves.Move.{Move}
use Rattle.order_search.specs.ByTurns.{by_turns, comes_first, in_order, last_thread}
use Rattle.xk_base.specs.declared.ids.ThreadId.{ThreadId}

-- ---- a list in two parts

-- what is in a list and passes a test is among those that pass it
in_filter : {X : Type 0} (p : X → Bool) (xs : List X) (x : X) → Contains xs x → p x ≡ true → Contains (filter p xs) x
in_filter p [] x at e = absurd (omega (arith, at.1))
in_filter {X} p (y ∷ xs) x (zero, low, is) e =
    let first : p y ≡ true = ap p is ∙ e in
    let E : List X → Type 0 = λ zs. Contains zs x in
    let here : E (y ∷ filter p xs) = (0, omega arith, is) in
    subst E (sym (ap (λ (b : Bool). cond b (y ∷ filter p xs) (filter p xs)) first)) here
in_filter {X} p (y ∷ xs) x (suc k, low, is) e = go (p y) (in_filter p xs x (k, omega (arith, low), is) e)
  where
    go : (b : Bool) → Contains (filter p xs) x → Contains (cond b (y ∷ filter p xs) (filter p xs)) x
    go true there = Contains-append_right (y ∷ []) (filter p xs) x there
    go false there = there

module _ {X : Type 0} (p : X → Bool) where
  -- those that pass, and then the others
  abbrev pub parted : List X → List X
  parted xs = filter p xs ++ filter (λ x. not (p x)) xs

  -- all of them are in the list
  pub from_parts : (xs : List X) (x : X) → Contains (parted xs) x → Contains xs x
  from_parts xs x =
      All-contains (Contains xs) (parted xs) x
      (All-append (Contains xs) (filter p xs) (filter (λ x. not (p x)) xs) (All-filter p (Contains xs) xs (All-contains_itself xs))
      (All-filter (λ x. not (p x)) (Contains xs) xs (All-contains_itself xs)))

  -- and each of the list is among them
  pub in_parts : (xs : List X) (x : X) → Contains xs x → Contains (parted xs) x
  in_parts xs x at = go (p x) refl
    where
      go : (b : Bool) → p x ≡ b → Contains (parted xs) x
      go true e = Contains-append_left (filter p xs) (filter (λ x. not (p x)) xs) x (in_filter p xs x at e)
      go false e =
          Contains-append_right (filter p xs) (filter (λ x. not (p x)) xs) x (in_filter (λ x. not (p x)) xs x at (ap not e))

-- ---- places

at_place : {X : Type 0} (xs : List X) (i : ℕ) (x : X) → slice_get xs i ≡ Some x → Contains xs x
at_place xs i x e = (i, slice_get_within xs i x e, get_or_from_slice_get xs i x x e)

place_of : {X : Type 0} (xs : List X) (x : X) → Contains xs x → (i : ℕ) × (slice_get xs i ≡ Some x)
place_of xs x at = (at.0, slice_get-get_or xs at.0 x at.1 ∙ ap Some at.2)

-- ---- edges

module _ {Node Key : Type 0} (after : Node → Move → Option Node) (IsKey : Node → Key → Type 0) (node : Node) where
  turned : (path : List Move) (edges : List (Successor Move Key)) → AreEdges after IsKey node edges → AreEdges after IsKey node (by_turns path edges)
  turned path edges are = record {
    each = λ i edge e.
        let from = place_of edges edge (from_parts (first path) edges edge (at_place (by_turns path edges) i edge e)) in
        are.each from.0 edge from.1;
    all = λ label next leads.
        let has : HasLabel after IsKey edges label = are.all label next leads in
        let to = place_of (by_turns path edges) has.edge (in_parts (first path) edges has.edge (at_place edges has.place has.edge has.is)) in
        record { place = to.0; edge = has.edge; is = to.1; label_is = has.label_is };
  }
    where
      first : List Move → Successor Move Key → Bool
      first path edge = comes_first (last_thread path) edge.label

  -- in the order in which they are followed they are those that leave the node
  pub still_edges : (preemptions : ℕ) (path : List Move) (edges : List (Successor Move Key)) → AreEdges after IsKey node edges
      → AreEdges after IsKey node (in_order preemptions path edges)
  still_edges preemptions path edges are = go (preemptions == 0)
    where
      go : (b : Bool) → AreEdges after IsKey node (if b then edges else by_turns path edges)
      go true = are
      go false = turned path edges are

-- once all edges are taken, the two parts together are the edges by turns
pub all_turned : {Key : Type 0} (last : Option ThreadId) (path : List Move) (edges first others told : List (Successor Move Key)) (n : ℕ)
    → last ≡ last_thread path → length edges ≤ n → first ≡ filter (λ edge. comes_first last edge.label) (take n edges)
    → others ≡ filter (λ edge. not (comes_first last edge.label)) (take n edges) → told ≡ first ++ others → told ≡ by_turns path edges
all_turned last path edges first others told n is all one two both =
    let whole : take n edges ≡ edges = take_all n edges all in
    both ∙ ((λ i. one i ++ two i)
    ∙ (λ i. filter (λ edge. comes_first (is i) edge.label) (whole i) ++ filter (λ edge. not (comes_first (is i) edge.label)) (whole i)))
