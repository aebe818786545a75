-- The edges that leave the next node are met, or wait.
use Rattle.std.proofs.Common.{◌≡◌, ◌≤◌, ◌+◌, ℕ, List, [], ◌∷◌, ◌++◌, drop, length, Option, Some, sym, ap, subst, ◌∙◌, refl, arith, ◌⊎◌, inl, inr, append-nil, length-append}
use Rattle.std.specs.Prelude.{slice_get}
use Rattle.std.proofs.lemmas.Option.{slice_get_within}
use Rattle.std.specs.declared.cmp.Ordering.{Ordering}
use Rattle.graph_search.specs.declared.found.Edge.{Edge}
use Rattle.graph_search.specs.declared.found.Strategy.{Strategy}
use Rattle.graph_search.specs.declared.found.Strategy.TheVariants.{Breadth, Depth}
use Rattle.graph_search.specs.declared.search.Waiting.{Waiting}
use Rattle.graph_search.specs.declared.space.Successor.{Successor}
use Rattle.graph_search.specs.Edges.{AreEdges, HasLabel, IsKeyAt}
use Rattle.graph_search.specs.Paths.{IsInOrder, IsOnWay}
use Rattle.graph_search.specs.Searches.{IsSearchAt}
use Rattle.graph_search.specs.Searching.{IsAwaited, IsMetBy, LeavesAll, LeavesFound, LeavesSome, MeetsInTurn, MeetsSome, Progress, PutsOffSome, put_off}
use Rattle.graph_search.specs.Told.{IsFound}
use Rattle.graph_search.proofs.ListLemmas.{IsBehind, front_or_behind, slice_get-behind, slice_get-front}
use Rattle.graph_search.proofs.FoundLemmas.{found_front, leaves_front}
use Rattle.graph_search.proofs.MeetLemmas.{AreMet, GoesOn, in_turn_goes, met}
use Rattle.graph_search.proofs.OrderLemmas.{breadth_more, way_to_itself}
use Rattle.graph_search.proofs.SearchLemmas.{Steps, found_in, not_both, noted_on, search_on, strategies}
use Rattle.graph_search.proofs.WaitLemmas.{IsPutOff, get_dropped, in_put_off, is_put_off}

module _ {Node Label Key Note : Type 0} (after : Node → Label → Option Node) (IsKey : Node → Key → Type 0)
    (IsNote : Node → Note → Type 0) (cmp : Key → Key → Ordering) (start : Node)
    (p : Progress Label Key Note) (old : IsSearchAt after IsKey IsNote cmp start p) (left : length p.notes ≤ length p.edges)
    (m : Node) (here : IsFound after start p.edges (length p.notes) m) (told : List (Successor Label Key)) (all : AreEdges after IsKey m told) where
  abbrev from : ℕ
  from = length p.notes

  -- the edge of this label has a key of the node to which it leads
  record IsLed (label : Label) (next : Node) : Type 0 where
    place : ℕ
    s : Successor Label Key
    is : slice_get told place ≡ Some s
    of_next : IsKey next s.key

  led : (label : Label) (next : Node) → after m label ≡ Some next → IsLed label next
  led label next leads =
      let has : HasLabel after IsKey told label = all.all label next leads in
      let keyed : IsKeyAt after IsKey (after m has.edge.label) has.edge.key = all.each has.place has.edge has.is in
      let one : Some keyed.node ≡ Some next = sym keyed.there ∙ (ap (after m) has.label_is ∙ leads) in
      let next_is : keyed.node ≡ next = cc in
      record { place = has.place; s = has.edge; is = has.is; of_next = subst (λ (n : Node). IsKey n has.edge.key) next_is keyed.is_key }

  -- ---- breadth first

  module _ (breadth : p.strategy ≡ Breadth) (n : ℕ) (new : Progress Label Key Note)
      (turn : MeetsInTurn cmp from told n p new) where
    are_met : AreMet after IsKey cmp start from m told all.each n p new
    are_met = met after IsKey cmp start from m told all.each n p new (found_in after IsKey IsNote cmp start p old) here turn

    steps : Steps after IsKey IsNote cmp start p (p.edges ++ are_met.more) new.keys p.waiting
    steps = record {
      more = are_met.more;
      is = refl;
      found = are_met.found;
      in_order = subst (λ (st : Strategy). IsInOrder st (p.edges ++ are_met.more)) (sym breadth)
          (breadth_more p.edges are_met.more from (subst (λ (st : Strategy). IsInOrder st p.edges) breadth old.tells.in_order) old.keeps.before are_met.from_is);
      before = λ k e is. before k e (front_or_behind p.edges are_met.more k e is);
      awaited = λ i next waits. inr waits;
      waits = λ i w is. leaves_front after IsKey cmp start p.edges are_met.more w old.tells.tree (old.keeps.waiting i w is);
      none_waits = old.keeps.none_waits;
      all_but_last = λ depth. absurd (not_both p.strategy breadth depth);
      stacked = λ depth. absurd (not_both p.strategy breadth depth);
    }
      where
        before : (k : ℕ) (e : Edge Label) → (slice_get p.edges k ≡ Some e) ⊎ IsBehind p.edges are_met.more k e → e.from ≤ from
        before k e (inl h) = old.keeps.before k e h
        before k e (inr b) = let f = are_met.from_is b.place e b.is in omega (arith, f)

    abbrev q : Progress Label Key Note
    q = record p { edges = p.edges ++ are_met.more; keys = new.keys }

    met_search : IsSearchAt after IsKey IsNote cmp start q
    met_search = search_on after IsKey IsNote cmp start p old (p.edges ++ are_met.more) new.keys p.waiting steps

    pub some_met : IsSearchAt after IsKey IsNote cmp start new
    some_met = subst (IsSearchAt after IsKey IsNote cmp start) (sym are_met.is) met_search

    met_next : n ≡ length told → (label : Label) (next : Node) → after m label ≡ Some next
        → IsMetBy after IsKey cmp start p.strategy q.edges from next ⊎ IsAwaited after IsKey cmp start p.waiting next
    met_next whole label next leads =
        let l : IsLed label next = led label next leads in
        let within = slice_get_within told l.place l.s l.is in
        inl (record {
          found_key = l.s.key;
          found = are_met.found.seen l.s.key (are_met.there l.place l.s (omega (arith, within, whole)) l.is);
          by_then = λ b k e number at. met_search.keeps.before k e at;
          of_next = l.of_next;
        })

    pub all_met : n ≡ length told → (note : Note) → IsNote m note
        → IsSearchAt after IsKey IsNote cmp start (record new { notes = new.notes ++ note ∷ [] })
    all_met whole note right =
        let longer : length p.edges ≤ length q.edges = found_longer in
        subst (λ (r : Progress Label Key Note). IsSearchAt after IsKey IsNote cmp start (record r { notes = r.notes ++ note ∷ [] })) (sym are_met.is)
        (noted_on after IsKey IsNote cmp start q met_search (omega (arith, left, longer)) m
        (found_front after start p.edges are_met.more from m old.tells.tree here) note right (met_next whole))
      where
        found_longer : length p.edges ≤ length (p.edges ++ are_met.more)
        found_longer = omega (arith, length-append p.edges are_met.more)

  -- ---- depth first

  module _ (depth : p.strategy ≡ Depth) (n : ℕ) where
    abbrev waiting : List (Waiting Label Key)
    waiting = p.waiting ++ put_off from (drop n told)

    from_last : length p.edges ≡ from
    from_last = let few = old.keeps.all_but_last depth in omega (arith, left, few)

    new_leaves : (i : ℕ) (w : Waiting Label Key) → slice_get (put_off from (drop n told)) i ≡ Some w → LeavesFound after IsKey cmp start p.edges w
    new_leaves i w is =
        let one : IsPutOff from (drop n told) w = is_put_off from (drop n told) i w is in
        let keyed : IsKeyAt after IsKey (after m w.edge.label) w.edge.key = all.each (n + one.place) w.edge (get_dropped n told one.place w.edge one.is) in
        record {
          node = m;
          is = subst (λ (k : ℕ). IsFound after start p.edges k m) (sym one.from_is) here;
          next = keyed.node;
          leads = keyed.there;
          is_key = keyed.is_key;
        }

    leaves : (i : ℕ) (w : Waiting Label Key) → (slice_get p.waiting i ≡ Some w) ⊎ IsBehind p.waiting (put_off from (drop n told)) i w
        → LeavesFound after IsKey cmp start p.edges w
    leaves i w (inl h) = old.keeps.waiting i w h
    leaves i w (inr b) = new_leaves b.place w b.is

    new_from : (i : ℕ) (w : Waiting Label Key) → IsBehind p.waiting (put_off from (drop n told)) i w → w.from ≡ length p.edges
    new_from i w b = let one : IsPutOff from (drop n told) w = is_put_off from (drop n told) b.place w b.is in one.from_is ∙ sym from_last

    to_last : (i : ℕ) (w : Waiting Label Key) → (slice_get p.waiting i ≡ Some w) ⊎ IsBehind p.waiting (put_off from (drop n told)) i w
        → IsOnWay p.edges w.from (length p.edges)
    to_last i w (inl h) = (old.keeps.stacked depth).to_last i w h
    to_last i w (inr b) =
        subst (λ (k : ℕ). IsOnWay p.edges k (length p.edges)) (sym (new_from i w b)) (way_to_itself p.edges (length p.edges))

    along : (i j : ℕ) (w x : Waiting Label Key) → i ≤ j → (slice_get p.waiting i ≡ Some w) ⊎ IsBehind p.waiting (put_off from (drop n told)) i w
        → (slice_get p.waiting j ≡ Some x) ⊎ IsBehind p.waiting (put_off from (drop n told)) j x → IsOnWay p.edges w.from x.from
    along i j w x less (inl h) (inl h') = (old.keeps.stacked depth).along i j w x less h h'
    along i j w x less a (inr b') = subst (λ (k : ℕ). IsOnWay p.edges w.from k) (sym (new_from j x b')) (to_last i w a)
    along i j w x less (inr b) (inl h') =
        absurd (let within = slice_get_within p.waiting j x h' in let s = b.sum in let no : ⊥ = omega (arith, within, s, less) in no)

    awaited : (next : Node) → IsAwaited after IsKey cmp start p.waiting next → IsAwaited after IsKey cmp start waiting next
    awaited next a = record {
      place = a.place;
      w = a.w;
      is = slice_get-front p.waiting (put_off from (drop n told)) a.place (slice_get_within p.waiting a.place a.w a.is) ∙ a.is;
      of_next = a.of_next;
    }

    waits_steps : Steps after IsKey IsNote cmp start p p.edges p.keys waiting
    waits_steps = record {
      more = [];
      is = sym (append-nil p.edges);
      found = found_in after IsKey IsNote cmp start p old;
      in_order = old.tells.in_order;
      before = old.keeps.before;
      awaited = λ i next a. inr (awaited next a);
      waits = λ i w is. leaves i w (front_or_behind p.waiting (put_off from (drop n told)) i w is);
      none_waits = λ breadth. absurd (not_both p.strategy breadth depth);
      all_but_last = old.keeps.all_but_last;
      stacked = λ d. record {
        along = λ i j w x less is is'. along i j w x less (front_or_behind p.waiting (put_off from (drop n told)) i w is)
            (front_or_behind p.waiting (put_off from (drop n told)) j x is');
        to_last = λ i w is. to_last i w (front_or_behind p.waiting (put_off from (drop n told)) i w is);
      };
    }

    pub some_wait : IsSearchAt after IsKey IsNote cmp start (record p { waiting = waiting })
    some_wait = search_on after IsKey IsNote cmp start p old p.edges p.keys waiting waits_steps

  module _ (depth : p.strategy ≡ Depth) where
    waits_next : (label : Label) (next : Node) → after m label ≡ Some next
        → IsMetBy after IsKey cmp start p.strategy p.edges from next ⊎ IsAwaited after IsKey cmp start (p.waiting ++ put_off from told) next
    waits_next label next leads =
        let l : IsLed label next = led label next leads in
        let at : (i : ℕ) × (slice_get (put_off from told) i ≡ Some (record { from = from; edge = l.s })) = in_put_off from told l.place l.s l.is in
        inr (record {
          place = length p.waiting + at.0;
          w = record { from = from; edge = l.s };
          is = slice_get-behind p.waiting (put_off from told) at.0 ∙ at.1;
          of_next = l.of_next;
        })

    pub all_wait : (note : Note) → IsNote m note
        → IsSearchAt after IsKey IsNote cmp start (record p { waiting = p.waiting ++ put_off from told; notes = p.notes ++ note ∷ [] })
    all_wait note right =
        noted_on after IsKey IsNote cmp start (record p { waiting = p.waiting ++ put_off from told }) (some_wait depth 0) left m here note right waits_next

  -- ---- both

  some_left : (new : Progress Label Key Note) → LeavesSome cmp from p.strategy told p new → (p.strategy ≡ Breadth) ⊎ (p.strategy ≡ Depth)
      → IsSearchAt after IsKey IsNote cmp start new
  some_left new leaves (inl breadth) =
      let some : MeetsSome cmp from told p new = subst (λ (st : Strategy). LeavesSome cmp from st told p new) breadth leaves in
      some_met breadth some.met new some.in_turn
  some_left new leaves (inr depth) =
      let some : PutsOffSome cmp from told p new = subst (λ (st : Strategy). LeavesSome cmp from st told p new) depth leaves in
      subst (IsSearchAt after IsKey IsNote cmp start) (sym some.is) (some_wait depth some.left)

  all_left : (new : Progress Label Key Note) (note : Note) → IsNote m note → LeavesAll cmp from p.strategy told p new
      → (p.strategy ≡ Breadth) ⊎ (p.strategy ≡ Depth)
      → IsSearchAt after IsKey IsNote cmp start (record new { notes = new.notes ++ note ∷ [] })
  all_left new note right leaves (inl breadth) =
      all_met breadth (length told) new (subst (λ (st : Strategy). LeavesAll cmp from st told p new) breadth leaves) refl note right
  all_left new note right leaves (inr depth) =
      let is : new ≡ record p { waiting = p.waiting ++ put_off from told } = subst (λ (st : Strategy). LeavesAll cmp from st told p new) depth leaves in
      subst (λ (r : Progress Label Key Note). IsSearchAt after IsKey IsNote cmp start (record r { notes = r.notes ++ note ∷ [] })) (sym is)
      (all_wait depth note right)

  pub left_some : (n : ℕ) (new : Progress Label Key Note) → n ≡ length p.notes → LeavesSome cmp n p.strategy told p new
      → IsSearchAt after IsKey IsNote cmp start new
  left_some n new is leaves =
      some_left new (subst (λ (k : ℕ). LeavesSome cmp k p.strategy told p new) is leaves) (strategies p.strategy)

  pub left_all : (n : ℕ) (new : Progress Label Key Note) (note : Note) (notes : List Note) → n ≡ length p.notes → IsNote m note
      → LeavesAll cmp n p.strategy told p new → notes ≡ new.notes ++ note ∷ []
      → IsSearchAt after IsKey IsNote cmp start (record new { notes = notes })
  left_all n new note notes is right leaves notes_are =
      subst (λ (ns : List Note). IsSearchAt after IsKey IsNote cmp start (record new { notes = ns })) (sym notes_are)
      (all_left new note right (subst (λ (k : ℕ). LeavesAll cmp k p.strategy told p new) is leaves) (strategies p.strategy))

-- ---- what stays as it was

pub leaves_goes : {Label Key Note : Type 0} (cmp : Key → Key → Ordering) (n : ℕ) (strategy : Strategy) (told : List (Successor Label Key))
    (old new : Progress Label Key Note) → LeavesSome cmp n strategy told old new → GoesOn old new
leaves_goes cmp n Breadth told old new some = in_turn_goes cmp n told some.met old new some.in_turn
leaves_goes cmp n Depth told old new some = record {
  strategy = ap (λ (p : Progress _ _ _). p.strategy) some.is;
  notes = ap (λ (p : Progress _ _ _). p.notes) some.is;
  more = [];
  edges = ap (λ (p : Progress _ _ _). p.edges) some.is ∙ sym (append-nil old.edges);
}
