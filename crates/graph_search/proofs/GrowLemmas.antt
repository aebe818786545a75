-- One edge more, by which a node is found whose key wasn't seen.
use Rattle.std.proofs.Common.{◌≡◌, ◌≤◌, ◌+◌, ℕ, zero, suc, Bool, true, false, cond, List, [], ◌∷◌, ◌++◌, length, Option, Some, None, sym, ap, subst, ◌∙◌, refl, arith, ◌⊎◌, inl, inr, length-append}
use Rattle.std.specs.Prelude.{slice_get}
use Rattle.std.proofs.lemmas.Bool.{false≢true}
use Rattle.std.specs.declared.cmp.Ordering.{Ordering}
use Rattle.std.specs.declared.cmp.Ordering.TheVariants.{Less, Equal, Greater}
use Rattle.std.specs.Ordering.{is_eq}
use Rattle.std.specs.BTreeMap.{is_at}
use Rattle.graph_search.specs.declared.found.Edge.{Edge}
use Rattle.graph_search.specs.declared.space.Successor.{Successor}
use Rattle.graph_search.specs.Edges.{IsKeyAt}
use Rattle.graph_search.specs.Paths.{IsTree}
use Rattle.graph_search.specs.Searching.{AreSeen, IsKeyFound, has}
use Rattle.graph_search.specs.Told.{IsFound, KeysAgree, TellsOnce}
use Rattle.graph_search.proofs.ListLemmas.{IsBehind, front_or_behind, slice_get-behind}
use Rattle.graph_search.proofs.FoundLemmas.{found_back, found_edge, found_front, found_same, key_front}

pub is_equal : (o : Ordering) → is_eq o ≡ true → o ≡ Equal
is_equal Less e = absurd (false≢true e)
is_equal Equal e = refl
is_equal Greater e = absurd (false≢true e)

either_true : (b c : Bool) → cond b true c ≡ true → (b ≡ true) ⊎ (c ≡ true)
either_true true c h = inl refl
either_true false c h = inr h

pub stays_true : (b c : Bool) → c ≡ true → cond b true c ≡ true
stays_true true c h = refl
stays_true false c h = h

module _ {Node Label Key : Type 0} (after : Node → Label → Option Node) (IsKey : Node → Key → Type 0) (cmp : Key → Key → Ordering)
    (start : Node) where
  -- the nodes to which these edges lead, and their keys
  pub record AreFound (edges : List (Edge Label)) (keys : List Key) : Type 0 where
    pub tree : IsTree edges
    pub led_to : (i : ℕ) → i ≤ length edges → (node : Node) × IsFound after start edges i node
    pub once : KeysAgree IsKey cmp → TellsOnce after start edges
    pub seen : (q : Key) → has cmp keys q ≡ true → IsKeyFound after IsKey cmp start edges q
    pub all_seen : KeysAgree IsKey cmp → AreSeen after IsKey cmp start edges keys

  module _ (edges : List (Edge Label)) (keys keys' : List Key) (from : ℕ) (m : Node) (s : Successor Label Key) (old : AreFound edges keys)
      (here : IsFound after start edges from m) (next : IsKeyAt after IsKey (after m s.label) s.key) (unseen : has cmp keys s.key ≡ false)
      (added : (q : Key) → has cmp keys' q ≡ cond (is_at (cmp s.key) q) true (has cmp keys q)) where
    abbrev edge : Edge Label
    edge = record { from = from; label = s.label }

    abbrev longer : List (Edge Label)
    longer = edges ++ edge ∷ []

    size : length longer ≡ length edges + 1
    size = length-append edges (edge ∷ [])

    tree_on : IsTree longer
    tree_on k e is = go (front_or_behind edges (edge ∷ []) k e is)
      where
        last : (i : ℕ) → k ≡ length edges + i → slice_get (edge ∷ []) i ≡ Some e → e.from ≤ k
        last zero sum at =
            let same : edge ≡ e = cc in
            let is_from : from ≡ e.from = ap (λ (x : Edge Label). x.from) same in
            let within = here.told in
            omega (arith, sum, is_from, within)
        last (suc i) sum at = absurd (let no : None ≡ Some e = at in let n : ⊥ = cc in n)

        go : (slice_get edges k ≡ Some e) ⊎ IsBehind edges (edge ∷ []) k e → e.from ≤ k
        go (inl h) = old.tree k e h
        go (inr b) = last b.place b.sum b.is

    pub at_last : slice_get longer (length edges) ≡ Some edge
    at_last =
        let e : length edges ≡ length edges + 0 = omega arith in
        ap (slice_get longer) e ∙ slice_get-behind edges (edge ∷ []) 0

    front : (i : ℕ) (node : Node) → IsFound after start edges i node → IsFound after start longer i node
    front i node f = found_front after start edges (edge ∷ []) i node old.tree f

    back : (i : ℕ) (node : Node) → i ≤ length edges → IsFound after start longer i node → IsFound after start edges i node
    back i node within f = found_back after start edges (edge ∷ []) i node old.tree within f

    next_found : IsFound after start longer (suc (length edges)) next.node
    next_found = found_edge after start longer (length edges) edge m next.node tree_on at_last (front from m here) next.there

    -- a number is an old one, or the last
    which : (i : ℕ) → i ≤ length longer → (i ≤ length edges) ⊎ (i ≡ suc (length edges))
    which i within = let z = size in grind arith

    led_on : (i : ℕ) → i ≤ length longer → (node : Node) × IsFound after start longer i node
    led_on i within = go (which i within)
      where
        go : (i ≤ length edges) ⊎ (i ≡ suc (length edges)) → (node : Node) × IsFound after start longer i node
        go (inl a) =
            let led : (node : Node) × IsFound after start edges i node = old.led_to i a in
            (led.0, front i led.0 led.1)
        go (inr b) = (next.node, subst (λ (n : ℕ). IsFound after start longer n next.node) (sym b) next_found)

    is_next : (i : ℕ) (node : Node) → i ≡ suc (length edges) → IsFound after start longer i node → next.node ≡ node
    is_next i node is f =
        found_same after start longer (suc (length edges)) next.node node next_found
        (subst (λ (n : ℕ). IsFound after start longer n node) is f)

    -- the new node is no old one
    not_old : KeysAgree IsKey cmp → (i : ℕ) → i ≤ length edges → IsFound after start longer i next.node → ⊥
    not_old agree i within f =
        false≢true (sym unseen ∙ old.all_seen agree i next.node s.key (back i next.node within f) next.is_key)

    once_on : KeysAgree IsKey cmp → TellsOnce after start longer
    once_on agree i j node f g = go (which i f.told) (which j g.told)
      where
        go : (i ≤ length edges) ⊎ (i ≡ suc (length edges)) → (j ≤ length edges) ⊎ (j ≡ suc (length edges)) → i ≡ j
        go (inl a) (inl b) = old.once agree i j node (back i node a f) (back j node b g)
        go (inl a) (inr b) = absurd (not_old agree i a (subst (λ (n : Node). IsFound after start longer i n) (sym (is_next j node b g)) f))
        go (inr a) (inl b) = absurd (not_old agree j b (subst (λ (n : Node). IsFound after start longer j n) (sym (is_next i node a f)) g))
        go (inr a) (inr b) = a ∙ sym b

    seen_on : (q : Key) → has cmp keys' q ≡ true → IsKeyFound after IsKey cmp start longer q
    seen_on q is = go (either_true (is_at (cmp s.key) q) (has cmp keys q) (sym (added q) ∙ is))
      where
        go : (is_at (cmp s.key) q ≡ true) ⊎ (has cmp keys q ≡ true) → IsKeyFound after IsKey cmp start longer q
        go (inl h) = record {
          number = suc (length edges);
          node = next.node;
          is = next_found;
          key = s.key;
          of_node = next.is_key;
          equal = is_equal (cmp s.key q) h;
        }
        go (inr h) = key_front after IsKey cmp start edges (edge ∷ []) q old.tree (old.seen q h)

    all_on : KeysAgree IsKey cmp → AreSeen after IsKey cmp start longer keys'
    all_on agree i node q f is = go (which i f.told)
      where
        go : (i ≤ length edges) ⊎ (i ≡ suc (length edges)) → has cmp keys' q ≡ true
        go (inl a) = added q ∙ stays_true (is_at (cmp s.key) q) (has cmp keys q) (old.all_seen agree i node q (back i node a f) is)
        go (inr b) =
            let same : next.node ≡ node = is_next i node b f in
            let equal : cmp s.key q ≡ Equal = agree next.node s.key q next.is_key (subst (λ (n : Node). IsKey n q) (sym same) is) in
            added q ∙ ap (λ (o : Ordering). cond (is_eq o) true (has cmp keys q)) equal

    pub found_on : AreFound longer keys'
    found_on = record { tree = tree_on; led_to = led_on; once = once_on; seen = seen_on; all_seen = all_on }
