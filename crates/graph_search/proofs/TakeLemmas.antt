-- The last edge that waits is met.
use Rattle.std.proofs.Common.{◌≡◌, ◌≤◌, ◌<◌, ◌+◌, ℕ, zero, suc, true, List, [], ◌∷◌, ◌++◌, length, Option, Some, None, sym, ap, subst, ◌∙◌, refl, arith, ◌⊎◌, inl, inr, append-nil, length-append}
use Rattle.std.specs.Prelude.{slice_get}
use Rattle.std.specs.Option.{option_to_list}
use Rattle.std.proofs.lemmas.Option.{slice_get_within}
use Rattle.std.specs.declared.cmp.Ordering.{Ordering}
use Rattle.graph_search.specs.declared.found.Edge.{Edge}
use Rattle.graph_search.specs.declared.found.Strategy.{Strategy}
use Rattle.graph_search.specs.declared.found.Strategy.TheVariants.{Breadth, Depth}
use Rattle.graph_search.specs.declared.search.Waiting.{Waiting}
use Rattle.graph_search.specs.Edges.{IsKeyAt}
use Rattle.graph_search.specs.Paths.{IsInOrder, IsOnWay}
use Rattle.graph_search.specs.Searches.{IsSearchAt}
use Rattle.graph_search.specs.Searching.{AreStacked, IsAnew, IsAwaited, IsKnown, IsMetBy, LeavesFound, Meets, Progress, Takes, has}
use Rattle.graph_search.proofs.ListLemmas.{IsBehind, front_or_behind, slice_get-behind, slice_get-front}
use Rattle.graph_search.proofs.FoundLemmas.{leaves_front}
use Rattle.graph_search.proofs.GrowLemmas.{AreFound, at_last, found_on}
use Rattle.graph_search.proofs.MeetLemmas.{GoesOn, meets_goes}
use Rattle.graph_search.proofs.OrderLemmas.{depth_more, way_by_edge, way_front, way_further}
use Rattle.graph_search.proofs.SearchLemmas.{Steps, found_in, not_both, search_on, strategies}

module _ {Node Label Key Note : Type 0} (after : Node → Label → Option Node) (IsKey : Node → Key → Type 0)
    (IsNote : Node → Note → Type 0) (cmp : Key → Key → Ordering) (start : Node)
    (p : Progress Label Key Note) (old : IsSearchAt after IsKey IsNote cmp start p) (all : length p.notes ≡ length p.edges + 1)
    (new : Progress Label Key Note) (t : Takes cmp p new) where
  abbrev first : AreFound after IsKey cmp start p.edges p.keys
  first = found_in after IsKey IsNote cmp start p old

  depth : p.strategy ≡ Depth
  depth = go (strategies p.strategy)
    where
      go : (p.strategy ≡ Breadth) ⊎ (p.strategy ≡ Depth) → p.strategy ≡ Depth
      go (inl breadth) =
          let none : length p.waiting ≡ 0 = ap length (old.keeps.none_waits breadth) in
          let some : length p.waiting ≡ length (t.others ++ t.last ∷ []) = ap length t.waited in
          absurd (let no : ⊥ = omega (arith, none, some, length-append t.others (t.last ∷ [])) in no)
      go (inr d) = d

  at_top : slice_get p.waiting (length t.others + 0) ≡ Some t.last
  at_top = ap (λ (ws : List (Waiting Label Key)). slice_get ws (length t.others + 0)) t.waited ∙ slice_get-behind t.others (t.last ∷ []) 0

  in_front : (i : ℕ) (x : Waiting Label Key) → slice_get t.others i ≡ Some x → slice_get p.waiting i ≡ Some x
  in_front i x is =
      ap (λ (ws : List (Waiting Label Key)). slice_get ws i) t.waited
      ∙ (slice_get-front t.others (t.last ∷ []) i (slice_get_within t.others i x is) ∙ is)

  leaves : LeavesFound after IsKey cmp start p.edges t.last
  leaves = old.keeps.waiting (length t.others + 0) t.last at_top

  keyed : IsKeyAt after IsKey (after leaves.node t.last.edge.label) t.last.edge.key
  keyed = record { node = leaves.next; there = leaves.leads; is_key = leaves.is_key }

  abbrev before_stacked : AreStacked p.edges p.waiting
  before_stacked = old.keeps.stacked depth

  -- a node that was awaited was found, or is awaited still
  await_on : (edges : List (Edge Label)) (keys : List Key) → AreFound after IsKey cmp start edges keys → has cmp keys t.last.edge.key ≡ true
      → (i : ℕ) (next : Node) → IsAwaited after IsKey cmp start p.waiting next
      → IsMetBy after IsKey cmp start p.strategy edges i next ⊎ IsAwaited after IsKey cmp start t.others next
  await_on edges keys found there i next a = go (front_or_behind t.others (t.last ∷ []) a.place a.w (ap (λ (ws : List (Waiting Label Key)). slice_get ws a.place) (sym t.waited) ∙ a.is))
    where
      last : (k : ℕ) → slice_get (t.last ∷ []) k ≡ Some a.w → t.last ≡ a.w
      last zero at = cc
      last (suc k) at = absurd (let no : None ≡ Some a.w = at in let n : ⊥ = cc in n)

      go : (slice_get t.others a.place ≡ Some a.w) ⊎ IsBehind t.others (t.last ∷ []) a.place a.w
          → IsMetBy after IsKey cmp start p.strategy edges i next ⊎ IsAwaited after IsKey cmp start t.others next
      go (inl h) = inr (record { place = a.place; w = a.w; is = h; of_next = a.of_next })
      go (inr b) =
          let same : t.last ≡ a.w = last b.place b.is in
          inl (record {
            found_key = t.last.edge.key;
            found = found.seen t.last.edge.key there;
            by_then = λ breadth. absurd (not_both p.strategy breadth depth);
            of_next = subst (λ (x : Waiting Label Key). IsKey next x.edge.key) (sym same) a.of_next;
          })

  -- ---- its key was seen

  known_steps : has cmp p.keys t.last.edge.key ≡ true → Steps after IsKey IsNote cmp start p p.edges p.keys t.others
  known_steps known = record {
    more = [];
    is = sym (append-nil p.edges);
    found = first;
    in_order = old.tells.in_order;
    before = old.keeps.before;
    awaited = await_on p.edges p.keys first known;
    waits = λ i x is. old.keeps.waiting i x (in_front i x is);
    none_waits = λ breadth. absurd (not_both p.strategy breadth depth);
    all_but_last = old.keeps.all_but_last;
    stacked = λ d. record {
      along = λ i j x y less is is'. before_stacked.along i j x y less (in_front i x is) (in_front j y is');
      to_last = λ i x is. before_stacked.to_last i x (in_front i x is);
    };
  }

  known_search : IsKnown cmp t.last.from t.last.edge p t.mid → IsSearchAt after IsKey IsNote cmp start new
  known_search known =
      subst (IsSearchAt after IsKey IsNote cmp start)
      (sym (t.is ∙ ap (λ (r : Progress Label Key Note). record r { waiting = t.others }) known.is))
      (search_on after IsKey IsNote cmp start p old p.edges p.keys t.others (known_steps known.known))

  -- ---- its key wasn't seen

  module _ (anew : IsAnew cmp t.last.from t.last.edge p t.mid) where
    abbrev edge : Edge Label
    edge = record { from = t.last.from; label = t.last.edge.label }

    abbrev edges : List (Edge Label)
    edges = p.edges ++ edge ∷ []

    size : length edges ≡ length p.edges + 1
    size = length-append p.edges (edge ∷ [])

    found : AreFound after IsKey cmp start edges t.mid.keys
    found = found_on after IsKey cmp start p.edges p.keys t.mid.keys t.last.from leaves.node t.last.edge first leaves.is keyed anew.unseen anew.keys

    within : (x : Waiting Label Key) → LeavesFound after IsKey cmp start p.edges x → x.from ≤ length p.edges
    within x l = l.is.told

    here_within : (i : ℕ) (x : Waiting Label Key) → slice_get t.others i ≡ Some x → x.from ≤ length p.edges
    here_within i x is = within x (old.keeps.waiting i x (in_front i x is))

    front_way : (i j : ℕ) → i ≤ length p.edges → j ≤ length p.edges → IsOnWay p.edges i j → IsOnWay edges i j
    front_way i j a b way = way_front p.edges (edge ∷ []) i j old.tells.tree a b way

    to_new : IsOnWay edges t.last.from (length edges)
    to_new =
        let number : suc (length p.edges) ≡ length edges = omega (arith, size) in
        subst (λ (k : ℕ). IsOnWay edges t.last.from k) number
        (way_by_edge edges (length p.edges) edge found.tree
        (at_last after IsKey cmp start p.edges p.keys t.mid.keys t.last.from leaves.node t.last.edge first leaves.is keyed anew.unseen anew.keys))

    to_last : (i : ℕ) (x : Waiting Label Key) → slice_get t.others i ≡ Some x → IsOnWay edges x.from (length edges)
    to_last i x is =
        let less : i ≤ length t.others + 0 = (let a = slice_get_within t.others i x is in omega (arith, a)) in
        way_further edges x.from t.last.from (length edges)
        (front_way x.from t.last.from (here_within i x is) leaves.is.told
        (before_stacked.along i (length t.others + 0) x t.last less (in_front i x is) at_top))
        to_new

    anew_steps : Steps after IsKey IsNote cmp start p edges t.mid.keys t.others
    anew_steps = record {
      more = edge ∷ [];
      is = refl;
      found = found;
      in_order = subst (λ (st : Strategy). IsInOrder st edges) (sym depth)
          (depth_more p.edges edge old.tells.tree (subst (λ (st : Strategy). IsInOrder st p.edges) depth old.tells.in_order) leaves.is.told
          (before_stacked.to_last (length t.others + 0) t.last at_top));
      before = λ k e is. before k e (front_or_behind p.edges (edge ∷ []) k e is);
      awaited = await_on edges t.mid.keys found anew.there;
      waits = λ i x is. leaves_front after IsKey cmp start p.edges (edge ∷ []) x old.tells.tree (old.keeps.waiting i x (in_front i x is));
      none_waits = λ breadth. absurd (not_both p.strategy breadth depth);
      all_but_last = λ d. omega (arith, all, size);
      stacked = λ d. record {
        along = λ i j x y less is is'.
            front_way x.from y.from (here_within i x is) (here_within j y is')
            (before_stacked.along i j x y less (in_front i x is) (in_front j y is'));
        to_last = to_last;
      };
    }
      where
        last : (e : Edge Label) (i : ℕ) → slice_get (edge ∷ []) i ≡ Some e → e.from ≤ length p.notes
        last e zero at =
            let same : edge ≡ e = cc in
            let is_from : t.last.from ≡ e.from = ap (λ (x : Edge Label). x.from) same in
            let told : t.last.from ≤ length p.edges = leaves.is.told in
            omega (arith, is_from, told, all)
        last e (suc i) at = absurd (let no : None ≡ Some e = at in let n : ⊥ = cc in n)

        before : (k : ℕ) (e : Edge Label) → (slice_get p.edges k ≡ Some e) ⊎ IsBehind p.edges (edge ∷ []) k e → e.from ≤ length p.notes
        before k e (inl h) = old.keeps.before k e h
        before k e (inr b) = last e b.place b.is

    anew_search : IsSearchAt after IsKey IsNote cmp start new
    anew_search =
        subst (IsSearchAt after IsKey IsNote cmp start)
        (sym (t.is ∙ ap (λ (r : Progress Label Key Note). record r { waiting = t.others }) anew.is))
        (search_on after IsKey IsNote cmp start p old edges t.mid.keys t.others anew_steps)

  pub taken : IsSearchAt after IsKey IsNote cmp start new
  taken = go t.meets
    where
      go : Meets cmp t.last.from t.last.edge p t.mid → IsSearchAt after IsKey IsNote cmp start new
      go (inl known) = known_search known
      go (inr anew) = anew_search anew

pub taken_on : {Node Label Key Note : Type 0} (after : Node → Label → Option Node) (IsKey : Node → Key → Type 0)
    (IsNote : Node → Note → Type 0) (cmp : Key → Key → Ordering) (start : Node) (p new : Progress Label Key Note)
    → IsSearchAt after IsKey IsNote cmp start p → length p.edges < length p.notes → Takes cmp p new → IsSearchAt after IsKey IsNote cmp start new
taken_on after IsKey IsNote cmp start p new old more t =
    let few : length p.notes ≤ length p.edges + 1 = old.tells.few in
    taken after IsKey IsNote cmp start p old (omega (arith, few, more)) new t

-- ---- what it leaves as it was

module _ {Label Key Note : Type 0} (cmp : Key → Key → Ordering) (p new : Progress Label Key Note) (t : Takes cmp p new) where
  pub takes_goes : GoesOn p new
  takes_goes =
      let met : GoesOn p t.mid = meets_goes cmp t.last.from t.last.edge p t.mid t.meets in
      record {
        strategy = ap (λ (r : Progress Label Key Note). r.strategy) t.is ∙ met.strategy;
        notes = ap (λ (r : Progress Label Key Note). r.notes) t.is ∙ met.notes;
        more = met.more;
        edges = ap (λ (r : Progress Label Key Note). r.edges) t.is ∙ met.edges;
      }

  pub takes_one : length new.waiting + 1 ≡ length p.waiting
  takes_one =
      let left : length new.waiting ≡ length t.others = ap (λ (r : Progress Label Key Note). length r.waiting) t.is in
      let all : length p.waiting ≡ length (t.others ++ t.last ∷ []) = ap length t.waited in
      omega (arith, left, all, length-append t.others (t.last ∷ []))

-- the last of a list
pub popped : {A : Type 0} (old mid left : List A) (o : Option A) (x : A) → mid ≡ old → mid ≡ left ++ option_to_list o → o ≡ Some x
    → old ≡ left ++ x ∷ []
popped {A = A} old mid left o x same is last = sym same ∙ (is ∙ ap (λ (y : Option A). left ++ option_to_list y) last)
