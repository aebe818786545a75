-- A search is followed node by node.
use Rattle.std.proofs.Common.{◌≡◌, ◌+◌, ◌-◌, ◌≤◌, ◌∙◌, inl, inr, ℕ, Bool, true, false, List, [], ◌∷◌, ◌++◌, drop, is_some, length, take, Result, Ok, refl, sym, ap, subst, arith}
use Rattle.std.specs.Prelude.{◌&&◌, ◌||◌}
use Rattle.std.specs.List.{list_any}
use Rattle.std.proofs.lemmas.Bool.Decides.{nat_tests}
use Rattle.std.specs.declared.cmp.Ordering.{Ordering}
use Rattle.std.proofs.lemmas.Bool.{false≢true}
use Rattle.std.proofs.lemmas.List.{append-nil, length-append, take-append-drop}
use Rattle.graph_search.specs.declared.following.Turn.{Turn}
use Rattle.graph_search.specs.declared.following.Turn.TheVariants.{Followed}
use Rattle.graph_search.specs.declared.found.Cut.TheVariants.{Stopped}
use Rattle.graph_search.specs.declared.found.Extent.{Extent}
use Rattle.graph_search.specs.declared.found.Extent.TheVariants.{Cut}
use Rattle.graph_search.specs.declared.search.Search.{Search}
use Rattle.graph_search.specs.Searches.{Goes}
use Rattle.order_model.specs.Asking.{asked_of}
use Rattle.order_model.specs.declared.moves.Move.{Move}
use Rattle.order_model.specs.declared.moves.Note.{Note}
use Rattle.order_model.specs.Searches.{IsSound, Telling}
use Rattle.order_search.specs.declared.quest.OrderFault.{OrderFault}
use Rattle.order_search.specs.declared.subject.Subject.{Subject}
use Rattle.order_search.specs.Found.{FindsAllOrders, FindsNodes, extent_after, so_far}
use Rattle.order_search.specs.Quests.{start_of}
use Rattle.program_status.specs.Notes.{SinkSide}
use Rattle.xousorders.proofs.KeptLemmas.{endings_kept, more_told}
use Rattle.order_text.specs.Endings.{failing_of, is_several}
use Rattle.xousorders.specs.Endings.{AddsOne, AreEndings}
use Rattle.xousorders.specs.Halts.{Follows, HasGot}
use Rattle.xousorders.specs.Reports.{MayStop, but_last, is_failure}
use Rattle.xousorders.specs.Searched.{telling_at}
use Rattle.order_text.specs.declared.endings.Ending.{Ending}
use Rattle.order_text.specs.declared.endings.Endings.{Endings}
use Rattle.xousorders.specs.declared.limits.Limits.{Limits}
use Rattle.xousorders.specs.declared.view.View.{View}

module _ (s : Subject) (view : View) (limit : ℕ) (old new : Search Move (List ℕ) Note) (result : Result Turn OrderFault)
    (goes : Goes limit old new result) where
  grown : (notes : List Note) → new.notes.items ≡ old.notes.items ++ notes → more_told (telling_at s old) goes.edges.0 notes ≡ telling_at s new
  grown notes is =
      λ i. record { asked = asked_of s.orders; start = start_of s; strategy = sym goes.strategy i; edges = sym goes.edges.1 i; notes = sym is i }

  pub one_longer : result ≡ Ok Followed → length new.notes.items ≡ length old.notes.items + 1
  one_longer is =
      let note = goes.followed is in
      ap length note.1 ∙ length-append old.notes.items (note.0 ∷ [])

  module _ (sound : IsSound (telling_at s old)) (endings : Endings)
      (are : AreEndings (telling_at s old) view (length old.notes.items) endings) where
    kept : (notes : List Note) → new.notes.items ≡ old.notes.items ++ notes
        → AreEndings (telling_at s new) view (length old.notes.items) endings
    kept notes is =
        subst (λ (t : Telling). AreEndings t view (length old.notes.items) endings) (grown notes is)
        (endings_kept (telling_at s old) view goes.edges.0 notes sound.tree sound.few (length old.notes.items) (omega arith) endings are)

    pub followed_kept : result ≡ Ok Followed → AreEndings (telling_at s new) view (length old.notes.items) endings
    followed_kept is = let note = goes.followed is in kept (note.0 ∷ []) note.1

    pub others_kept : (result ≡ Ok Followed → ⊥) → AreEndings (telling_at s new) view (length new.notes.items) endings
    others_kept other =
        let same : new.notes.items ≡ old.notes.items = goes.not_followed other in
        subst (λ (n : ℕ). AreEndings (telling_at s new) view n endings) (sym (ap length same)) (kept [] (same ∙ sym (append-nil old.notes.items)))

    -- as far as the node that was followed last, and with it
    pub before_node : (now : Subject) → now ≡ s → (node : ℕ) → node ≡ length old.notes.items → result ≡ Ok Followed
        → AreEndings (telling_at now new) view node endings
    before_node now same node at is =
        subst (λ (x : Subject). AreEndings (telling_at x new) view node endings) (sym same)
        (subst (λ (n : ℕ). AreEndings (telling_at s new) view n endings) (sym at) (followed_kept is))

    pub behind_node : (now : Subject) → now ≡ s → (node : ℕ) → node ≡ length old.notes.items → result ≡ Ok Followed → (after : Endings)
        → (AreEndings (telling_at now new) view node endings → AreEndings (telling_at now new) view (node + 1) after)
        → AreEndings (telling_at s new) view (length new.notes.items) after
    behind_node now same node at is after adds =
        let more = one_longer is in
        let last : node + 1 ≡ length new.notes.items = omega (arith, at, more) in
        subst (λ (n : ℕ). AreEndings (telling_at s new) view n after) last
        (subst (λ (x : Subject). AreEndings (telling_at x new) view (node + 1) after) same (adds (before_node now same node at is)))

-- ---- what was found

module _ (cmp : List ℕ → List ℕ → Ordering) (limit : ℕ) (s now : Subject) (same : now ≡ s) (search : Search Move (List ℕ) Note)
    (result r : Result Turn OrderFault) (is : result ≡ r) where
  pub nodes_found : FindsNodes limit (so_far now search (extent_after result)) → FindsNodes limit (so_far s search (extent_after r))
  nodes_found found =
      subst (λ (x : Subject). FindsNodes limit (so_far x search (extent_after r))) same
      (subst (λ (x : Result Turn OrderFault). FindsNodes limit (so_far now search (extent_after x))) is found)

  pub orders_found : FindsAllOrders cmp (so_far now search (extent_after result)) → FindsAllOrders cmp (so_far s search (extent_after r))
  orders_found found =
      subst (λ (x : Subject). FindsAllOrders cmp (so_far x search (extent_after r))) same
      (subst (λ (x : Result Turn OrderFault). FindsAllOrders cmp (so_far now search (extent_after x))) is found)

-- ---- no ending but the last is a failure

neither : (a b : Bool) → (a || b) ≡ false → (a ≡ false) × (b ≡ false)
neither true b e = absurd (false≢true (sym e))
neither false b e = (refl, e)

any_front : (f : Ending → Bool) (xs ys : List Ending) → list_any f (xs ++ ys) ≡ false → list_any f xs ≡ false
any_front f [] ys e = refl
any_front f (x ∷ xs) ys e =
    let parts = neither (f x) (list_any f (xs ++ ys)) e in
    (λ i. parts.0 i || any_front f xs ys parts.1 i)

few_front : (differ : Bool) (m n : ℕ) → m ≤ n → is_several differ n ≡ false → is_several differ m ≡ false
few_front false m n low e = refl
few_front true m n low e = grind (arith, nat_tests)

front_fine : (view : View) (xs ys : List Ending) → is_failure view (xs ++ ys) ≡ false → is_failure view xs ≡ false
front_fine view xs ys e =
    let fails : Ending → Bool = λ ending. is_some (failing_of view.fails.items ending.fails) in
    let parts = neither (list_any fails (xs ++ ys)) (is_several view.differ (length (xs ++ ys))) e in
    let size = length-append xs ys in
    (λ i. any_front fails xs ys parts.0 i || few_front view.differ (length xs) (length (xs ++ ys)) (omega (arith, size)) parts.1 i)

front_alone : (view : View) (list : List Ending) → is_failure view list ≡ false → is_failure view (but_last list) ≡ false
front_alone view list none =
    front_fine view (but_last list) (drop (length list - 1) list)
    (ap (is_failure view) (take-append-drop (length list - 1) list) ∙ none)

take_front : (xs ys : List Ending) → take (length xs) (xs ++ ys) ≡ xs
take_front [] ys = refl
take_front (x ∷ xs) ys = ap (λ (zs : List Ending). x ∷ zs) (take_front xs ys)

-- an ending was added to those of which none is
pub one_alone : (view : View) (old new : List Ending) → AddsOne old new → is_failure view old ≡ false → is_failure view (but_last new) ≡ false
one_alone view old new (inl same) none = front_alone view new (ap (is_failure view) same ∙ none)
one_alone view old new (inr more) none =
    let size = ap length more.1 ∙ length-append old (more.0 ∷ []) in
    let count : length new - 1 ≡ length old = omega (arith, size) in
    ap (is_failure view) ((λ i. take (count i) (more.1 i)) ∙ take_front old (more.0 ∷ [])) ∙ none

-- ---- a search goes no further

module _ (cmp : List ℕ → List ℕ → Ordering) (limits : Limits) (view : View) (s : Subject) (search : Search Move (List ℕ) Note)
    (endings : Endings) (sink : SinkSide) (extent : Extent) (nodes : FindsNodes limits.states (so_far s search extent))
    (orders : FindsAllOrders cmp (so_far s search extent)) (are : AreEndings (telling_at s search) view (length search.notes.items) endings)
    (got : HasGot view sink endings.list.items) where
  -- by itself
  pub follows_to_end : (extent ≡ Cut Stopped → ⊥) → (limits.first ≡ true → is_failure view endings.list.items ≡ false)
      → Follows cmp limits view s search endings sink extent
  follows_to_end other none = record {
    nodes = nodes;
    orders = orders;
    endings_are = are;
    got = got;
    stopped = λ is. absurd (other is);
    first = λ first fails. absurd (false≢true (sym (none first) ∙ fails));
    alone = λ first. front_alone view endings.list.items (none first);
  }

  -- .. or as it is stopped
  pub follows_to_stop : extent ≡ Cut Stopped → MayStop limits view endings.list.items
      → (limits.first ≡ true → is_failure view (but_last endings.list.items) ≡ false) → Follows cmp limits view s search endings sink extent
  follows_to_stop is may alone = record {
    nodes = nodes;
    orders = orders;
    endings_are = are;
    got = got;
    stopped = λ _. may;
    first = λ _ _. is;
    alone = alone;
  }

-- ---- no failure yet

both_false : (b : Bool) → (b && false) ≡ false
both_false true = refl
both_false false = refl

pub none_fail : (view : View) (list : List Ending) → list ≡ [] → is_failure view list ≡ false
none_fail view list none = ap (is_failure view) none ∙ both_false view.differ
