-- The endings of a search are told.
use Rattle.std.proofs.Common.{◌≡◌, ◌<◌, ◌≤◌, ◌+◌, ◌⊎◌, ◌∙◌, inl, inr, ℕ, zero, suc, Bool, true, false, List, [], ◌∷◌, ◌++◌, length, map, Option, Some, None, refl, sym, ap, subst, arith}
use Rattle.std.specs.Prelude.{All, slice_get, get_or, filter, ◌==◌, ◌&&◌, if◌then◌else◌}
use Rattle.std.specs.Option.{option_map_or}
use Rattle.std.proofs.lemmas.Bool.{false_from_ne_true, false≢true}
use Rattle.std.proofs.lemmas.Bool.Decides.{Decides-eqb}
use Rattle.std.proofs.lemmas.List.{append-nil, length-append, map-append}
use Rattle.std.proofs.lemmas.List.Elements.{All-append, All-cons, All-nil, filter-append}
use Rattle.std.proofs.lemmas.Option.{none-some, same_Some, slice_get_read, slice_get_within}
use Rattle.order_model.specs.declared.moves.Move.{Move}
use Rattle.order_model.specs.declared.moves.Note.{Note}
use Rattle.order_model.specs.Searches.{Telling}
use Rattle.graph_search.proofs.ListLemmas.{IsBehind, front_or_behind, slice_get-behind, slice_get-front}
use Rattle.graph_search.specs.Paths.{labels_to}
use Rattle.xk_base.proofs.CountingLemmas.{count_below-none}
use Rattle.xk_base.specs.Tables.Counting.{count_below, listed_below}
use Rattle.xousorders.proofs.ShownLemmas.{same_shown-Decides}
use Rattle.xousorders.specs.Endings.{Adds, AddsOne, AreDifferent, AreEndings, IsAt, IsEndingOf, IsFirst, IsLook, IsNew, IsWithin, Lists, NoneIs, Shown}
use Rattle.order_text.specs.Endings.{looks_at}
use Rattle.xousorders.specs.Endings.{ends_at, node_shown, nodes_like, same_shown, shown_in}
use Rattle.order_text.specs.declared.endings.Ending.{Ending}
use Rattle.order_text.specs.declared.endings.Endings.{Endings}
use Rattle.order_text.specs.declared.endings.Look.{Look}
use Rattle.xousorders.specs.declared.view.View.{View}

-- an ending was added, or none
pub one_added : (node : ℕ) (order : List Move) (shown : Shown) (old new : Endings) → Adds node order shown old new
    → AddsOne old.list.items new.list.items
one_added node order shown old new adds = go adds.list
  where
    go : Lists node order shown old.list.items new.list.items → AddsOne old.list.items new.list.items
    go (inl same) = inl same
    go (inr more) = inr (more.ending, more.list)

-- the ending at the end is that
pub last_added : (old new : List Ending) (known : ℕ) (x : Ending) → AddsOne old new → known ≡ length old → length old < length new
    → slice_get new known ≡ Some x → new ≡ old ++ x ∷ []
last_added old new known x (inl same) at longer there = absurd (let n : length new ≡ length old = ap length same in let no : ⊥ = omega (arith, n, longer) in no)
last_added old new known x (inr more) at longer there =
    let place : length old + 0 ≡ known = omega (arith, at) in
    let is : more.0 ≡ x =
    same_Some more.0 x
    (sym (slice_get-behind old (more.0 ∷ []) 0)
    ∙ (ap (λ (n : ℕ). slice_get (old ++ more.0 ∷ []) n) place ∙ (ap (λ (es : List Ending). slice_get es known) (sym more.1) ∙ there))) in
    more.1 ∙ ap (λ (e : Ending). old ++ e ∷ []) is

-- ---- tests

same_tests : (a b : Bool) → (a ≡ true → b ≡ true) → (b ≡ true → a ≡ true) → a ≡ b
same_tests true b to back = sym (to refl)
same_tests false true to back = back refl
same_tests false false to back = refl

both : (a b : Bool) → (a && b) ≡ true → (a ≡ true) × (b ≡ true)
both true b e = (refl, e)
both false b e = absurd (false≢true e)

-- there is a note that orders end
pub record HasEnd (o : Option Note) : Type 0 where
  pub note : Note
  pub is : o ≡ Some note
  pub ends : note.ends ≡ true

pub ended : (o : Option Note) → option_map_or (λ (note : Note). note.ends) o false ≡ true → HasEnd o
ended None e = absurd (false≢true e)
ended (Some note) e = record { note = note; is = refl; ends = e }

-- ---- counts go on

counted_on : (n : ℕ) (f : ℕ → Bool) → count_below (n + 1) f ≡ count_below n f + (if f n then 1 else 0)
unfolding count_below
counted_on n f = let e : n + 1 ≡ suc n = omega arith in ap (λ (k : ℕ). count_below k f) e

listed_on : (n : ℕ) (f : ℕ → Bool) → listed_below (n + 1) f ≡ listed_below n f ++ (if f n then n ∷ [] else [])
unfolding listed_below
listed_on n f = let e : n + 1 ≡ suc n = omega arith in ap (λ (k : ℕ). listed_below k f) e

none_more : (n : ℕ) (b : Bool) → b ≡ false → n + (if b then 1 else 0) ≡ n
none_more n true e = absurd (false≢true (sym e))
none_more n false e = omega arith

one_length : (look : Look) (b : Bool) → length (if b then look ∷ [] else []) ≡ (if b then 1 else 0)
one_length look true = refl
one_length look false = refl

one_look : (looks : List Look) (look : Look) (place : ℕ)
    → looks_at (looks ++ look ∷ []) place ≡ looks_at looks place + (if look.ending == place then 1 else 0)
one_look looks look place =
    let f : Look → Bool = λ l. l.ending == place in
    ap length (filter-append f looks (look ∷ []))
    ∙ (length-append (filter f looks) (filter f (look ∷ []))
    ∙ ap (λ (n : ℕ). length (filter f looks) + n) (one_length look (look.ending == place)))

-- ---- endings by how they are told

-- the ending at a place is told in one way
pub one_shown : (list : List Ending) (place : ℕ) (one other : Shown) → IsAt list place one → IsAt list place other → one ≡ other
one_shown list place one other a b = sym a.alike ∙ (ap shown_in (same_Some a.ending b.ending (sym a.there ∙ b.there)) ∙ b.alike)

-- an ending stays where it was
at_front : (old more : List Ending) (place : ℕ) (shown : Shown) → IsAt old place shown → IsAt (old ++ more) place shown
at_front old more place shown at = record {
  ending = at.ending;
  there = slice_get-front old more place (slice_get_within old place at.ending at.there) ∙ at.there;
  alike = at.alike;
}

-- the last ending
pub at_end : (old : List Ending) (last : Ending) (shown : Shown) → shown_in last ≡ shown → IsAt (old ++ last ∷ []) (length old) shown
at_end old last shown alike =
    let at : length old ≡ length old + 0 = omega arith in
    record {
      ending = last;
      there = ap (λ (n : ℕ). slice_get (old ++ last ∷ []) n) at ∙ slice_get-behind old (last ∷ []) 0;
      alike = alike;
    }

pub pushed_at : (old new : List Ending) (last : Ending) (place : ℕ) (shown : Shown) → new ≡ old ++ last ∷ [] → place ≡ length old
    → shown_in last ≡ shown → IsAt new place shown
pushed_at old new last place shown is at alike =
    subst (λ (es : List Ending). IsAt es place shown) (sym is)
    (subst (λ (n : ℕ). IsAt (old ++ last ∷ []) n shown) (sym at) (at_end old last shown alike))

-- the ending that was read at a place is told as a test says
module _ (list : List Ending) (place : ℕ) (ending : Ending) (low : place < length list) (is : ending ≡ get_or list place ending) where
  pub read_at : (shown : Shown) → shown_in ending ≡ shown → IsAt list place shown
  read_at shown alike = record {
    ending = ending;
    there = slice_get_read list (length list) place ending refl low is;
    alike = alike;
  }

  pub not_at : (other : Shown) → same_shown (shown_in ending) other ≡ false → IsAt list place other → ⊥
  not_at other differ at =
      let same = one_shown list place (shown_in ending) other (read_at (shown_in ending) refl) at in
      false≢true (sym differ ∙ (same_shown-Decides (shown_in ending) other).1 same)

-- an ending was there, or is the last
abbrev IsEither : List Ending → Ending → ℕ → Shown → Type 0
IsEither old last place shown = IsAt old place shown ⊎ ((place ≡ length old) × (shown_in last ≡ shown))

at_either : (old : List Ending) (last : Ending) (place : ℕ) (shown : Shown) → IsAt (old ++ last ∷ []) place shown → IsEither old last place shown
at_either old last place shown at = go (front_or_behind old (last ∷ []) place at.ending at.there)
  where
    only : (k : ℕ) → place ≡ length old + k → slice_get (last ∷ []) k ≡ Some at.ending → (place ≡ length old) × (shown_in last ≡ shown)
    only zero sum is = (omega (arith, sum), ap shown_in (same_Some last at.ending is) ∙ at.alike)
    only (suc k) sum is = absurd (none-some at.ending is)

    go : (slice_get old place ≡ Some at.ending) ⊎ IsBehind old (last ∷ []) place at.ending → IsEither old last place shown
    go (inl there) = inl (record { ending = at.ending; there = there; alike = at.alike })
    go (inr behind) = inr (only behind.place behind.sum behind.is)

-- endings stay different where the last one looks as none did
different_on : (old : List Ending) (last : Ending) (shown : Shown) → shown_in last ≡ shown → NoneIs old shown → AreDifferent old
    → AreDifferent (old ++ last ∷ [])
different_on old last shown is none differ j k other at_j at_k = go (at_either old last j other at_j) (at_either old last k other at_k)
  where
    like : (place : ℕ) → IsAt old place other → shown_in last ≡ other → IsAt old place shown
    like place at same = subst (IsAt old place) (sym same ∙ is) at

    go : IsEither old last j other → IsEither old last k other → j ≡ k
    go (inl a) (inl b) = differ j k other a b
    go (inl a) (inr b) = absurd (none j (like j a b.1))
    go (inr a) (inl b) = absurd (none k (like k b a.1))
    go (inr a) (inr b) = a.0 ∙ sym b.0

module _ (t : Telling) (view : View) where
  -- ---- none yet

  nothing_at : (list : List Ending) (place : ℕ) (shown : Shown) → list ≡ [] → IsAt list place shown → ⊥
  nothing_at list place shown none at = none-some at.ending (ap (λ (es : List Ending). slice_get es place) (sym none) ∙ at.there)

  pub no_endings : (endings : Endings) → endings.list.items ≡ [] → endings.looks.items ≡ [] → AreEndings t view 0 endings
  unfolding listed_below
  no_endings endings none no_looks = record {
    each = subst (All (IsEndingOf t view)) (sym none) (All-nil (IsEndingOf t view));
    first = λ place ending at. absurd (none-some ending (ap (λ (es : List Ending). slice_get es place) (sym none) ∙ at));
    different = λ j k shown at_j at_k. absurd (nothing_at endings.list.items j shown none at_j);
    all = λ node low ends. absurd (let no : ⊥ = omega (arith, low) in no);
    nodes = ap (λ (ls : List Look). map (λ (l : Look). l.node) ls) no_looks;
    counts = λ place shown at. absurd (nothing_at endings.list.items place shown none at);
    beyond = λ place far. ap (λ (ls : List Look). looks_at ls place) no_looks;
  }

  -- ---- one node after another

  abbrev is_like : Shown → ℕ → Bool
  is_like shown node = ends_at t node && same_shown (node_shown t view node) shown

  nodes_on : (n : ℕ) (shown : Shown) → nodes_like t view (n + 1) shown ≡ nodes_like t view n shown + (if is_like shown n then 1 else 0)
  unfolding nodes_like
  nodes_on n shown = counted_on n (is_like shown)

  -- where no ending looks so, no node does
  none_like : (n : ℕ) (shown : Shown) (endings : Endings)
      → ((node : ℕ) → node < n → ends_at t node ≡ true → IsLook t view endings node) → NoneIs endings.list.items shown
      → nodes_like t view n shown ≡ 0
  unfolding nodes_like
  none_like n shown endings all none = count_below-none n (is_like shown) (λ k low. false_from_ne_true (is_like shown k) (λ e.
      let parts = both (ends_at t k) (same_shown (node_shown t view k) shown) e in
      let look = all k low parts.0 in
      none look.look.ending
      (subst (IsAt endings.list.items look.look.ending) ((same_shown-Decides (node_shown t view k) shown).0 parts.1) look.alike)))

  -- a node was told
  module _ (node : ℕ) (order : List Move) (shown : Shown) (old new : Endings) (adds : Adds node order shown old new) where
    abbrev added : Look
    added = record { node = node; ending = adds.place }

    kept : (place : ℕ) (other : Shown) → IsAt old.list.items place other → IsAt new.list.items place other
    kept place other at = go adds.list
      where
        go : Lists node order shown old.list.items new.list.items → IsAt new.list.items place other
        go (inl same) = subst (λ (es : List Ending). IsAt es place other) (sym same) at
        go (inr more) =
            subst (λ (es : List Ending). IsAt es place other) (sym more.list) (at_front old.list.items (more.ending ∷ []) place other at)

    grown : length old.list.items ≤ length new.list.items
    grown = go adds.list
      where
        go : Lists node order shown old.list.items new.list.items → length old.list.items ≤ length new.list.items
        go (inl same) = let e : length new.list.items ≡ length old.list.items = ap length same in omega (arith, e)
        go (inr more) =
            let e : length new.list.items ≡ length (old.list.items ++ more.ending ∷ []) = ap length more.list in
            let size = length-append old.list.items (more.ending ∷ []) in
            omega (arith, e, size)

    differ : AreDifferent old.list.items → AreDifferent new.list.items
    differ before = go adds.list
      where
        go : Lists node order shown old.list.items new.list.items → AreDifferent new.list.items
        go (inl same) = subst AreDifferent (sym same) before
        go (inr more) =
            subst AreDifferent (sym more.list) (different_on old.list.items more.ending shown more.alike more.none before)

    -- a look stays one, and the new one is
    look_kept : (other : ℕ) → IsLook t view old other → IsLook t view new other
    look_kept other look =
        let there = slice_get_within old.looks.items look.place look.look look.is in
        record {
          place = look.place;
          look = look.look;
          is = ap (λ (ls : List Look). slice_get ls look.place) adds.looks
              ∙ (slice_get-front old.looks.items (added ∷ []) look.place there ∙ look.is);
          of_node = look.of_node;
          alike = kept look.look.ending (node_shown t view other) look.alike;
        }

    last_look : shown ≡ node_shown t view node → IsLook t view new node
    last_look as_there =
        let at : length old.looks.items ≡ length old.looks.items + 0 = omega arith in
        record {
          place = length old.looks.items;
          look = added;
          is = ap (λ (ls : List Look). slice_get ls (length old.looks.items)) adds.looks
              ∙ (ap (λ (n : ℕ). slice_get (old.looks.items ++ added ∷ []) n) at ∙ slice_get-behind old.looks.items (added ∷ []) 0);
          of_node = refl;
          alike = subst (IsAt new.list.items adds.place) as_there adds.alike;
        }

    looks_on : (place : ℕ) → looks_at new.looks.items place ≡ looks_at old.looks.items place + (if adds.place == place then 1 else 0)
    looks_on place = ap (λ (ls : List Look). looks_at ls place) adds.looks ∙ one_look old.looks.items added place

    -- .. as the count of the nodes that look so
    module _ (ends : ends_at t node ≡ true) (as_there : shown ≡ node_shown t view node) (are : AreEndings t view node old) where
      counted_before : (place : ℕ) (other : Shown) → IsAt new.list.items place other
          → looks_at old.looks.items place ≡ nodes_like t view node other
      counted_before place other at = go adds.list
        where
          last : (more : IsNew node order shown old.list.items new.list.items) → IsEither old.list.items more.ending place other
              → looks_at old.looks.items place ≡ nodes_like t view node other
          last more (inl before) = are.counts place other before
          last more (inr here) =
              let far : length old.list.items ≤ place = (let e = here.0 in omega (arith, e)) in
              let none : NoneIs old.list.items other = subst (NoneIs old.list.items) (sym more.alike ∙ here.1) more.none in
              are.beyond place far ∙ sym (none_like node other old are.all none)

          go : Lists node order shown old.list.items new.list.items → looks_at old.looks.items place ≡ nodes_like t view node other
          go (inl same) = are.counts place other (subst (λ (es : List Ending). IsAt es place other) same at)
          go (inr more) =
              last more
              (at_either old.list.items more.ending place other (subst (λ (es : List Ending). IsAt es place other) more.list at))

      tests : (place : ℕ) (other : Shown) → IsAt new.list.items place other → (adds.place == place) ≡ is_like other node
      tests place other at = same_tests (adds.place == place) (is_like other node) to back
        where
          to : (adds.place == place) ≡ true → is_like other node ≡ true
          to e =
              let here : IsAt new.list.items place shown =
              subst (λ (k : ℕ). IsAt new.list.items k shown) ((Decides-eqb adds.place place).0 e) adds.alike in
              let same : same_shown (node_shown t view node) other ≡ true =
              (same_shown-Decides (node_shown t view node) other).1 (sym as_there ∙ one_shown new.list.items place shown other here at) in
              λ i. ends i && same i

          back : is_like other node ≡ true → (adds.place == place) ≡ true
          back e =
              let same = (same_shown-Decides (node_shown t view node) other).0 (both (ends_at t node) (same_shown (node_shown t view node) other) e).1 in
              let there : IsAt new.list.items adds.place other = subst (IsAt new.list.items adds.place) (as_there ∙ same) adds.alike in
              (Decides-eqb adds.place place).1 (differ are.different adds.place place other there at)

      counts_on : (place : ℕ) (other : Shown) → IsAt new.list.items place other
          → looks_at new.looks.items place ≡ nodes_like t view (node + 1) other
      counts_on place other at =
          looks_on place
          ∙ ((λ i. counted_before place other at i + (if tests place other at i then 1 else 0)) ∙ sym (nodes_on node other))

      nodes_told : map (λ (l : Look). l.node) new.looks.items ≡ listed_below (node + 1) (ends_at t)
      nodes_told =
          ap (λ (ls : List Look). map (λ (l : Look). l.node) ls) adds.looks
          ∙ (map-append (λ (l : Look). l.node) old.looks.items (added ∷ [])
          ∙ ((λ i. are.nodes i ++ (if sym ends i then node ∷ [] else []))
          ∙ sym (listed_on node (ends_at t))))

    beyond_on : ((place : ℕ) → length old.list.items ≤ place → looks_at old.looks.items place ≡ 0) → (place : ℕ)
        → length new.list.items ≤ place → looks_at new.looks.items place ≡ 0
    beyond_on before place far =
        let within = slice_get_within new.list.items adds.place adds.alike.ending adds.alike.there in
        let other : (adds.place == place) ≡ false = false_from_ne_true (adds.place == place) (λ e.
        let same = (Decides-eqb adds.place place).0 e in let no : ⊥ = omega (arith, same, within, far) in no) in
        let so_far : looks_at old.looks.items place ≡ 0 = before place (omega (arith, far, grown)) in
        looks_on place ∙ (λ i. so_far i + (if other i then 1 else 0))

  split : (node other : ℕ) → other < node + 1 → (other < node) ⊎ (node ≡ other)
  split node other low = grind arith

  -- the first that looks so is the first of more nodes too
  first_on : (node : ℕ) (ending : Ending) → IsFirst t view node ending → IsFirst t view (node + 1) ending
  first_on node ending first = record {
    low = (let low = first.low in omega (arith, low));
    least = λ other low ends same. go other ends same (split node other low);
  }
    where
      go : (other : ℕ) → ends_at t other ≡ true → node_shown t view other ≡ shown_in ending → (other < node) ⊎ (node ≡ other) → ending.first ≤ other
      go other ends same (inl less) = first.least other less ends same
      go other ends same (inr is) = let low = first.low in omega (arith, low, is)

  not_before : (node other first : ℕ) → (other < node → ⊥) → other < node + 1 → first ≡ node → first ≤ other
  not_before node other first never low is = go (split node other low)
    where
      go : (other < node) ⊎ (node ≡ other) → first ≤ other
      go (inl less) = absurd (never less)
      go (inr same) = omega (arith, same, is)

  pub node_told : (node : ℕ) (order : List Move) (shown : Shown) (old new : Endings) → ends_at t node ≡ true
      → order ≡ labels_to t.edges node → shown ≡ node_shown t view node → IsWithin t node → Adds node order shown old new
      → AreEndings t view node old → AreEndings t view (node + 1) new
  node_told node order shown old new ends labels as_there within adds are = record {
    each = go adds.list;
    first = λ place ending at. firsts adds.list place ending at;
    different = differ node order shown old new adds are.different;
    all = λ other low at. by_place other at (split node other low);
    nodes = nodes_told node order shown old new adds here as_there are;
    counts = counts_on node order shown old new adds here as_there are;
    beyond = beyond_on node order shown old new adds are.beyond;
  }
    where
      here : ends_at t node ≡ true
      here = ends

      on : (ending : Ending) → IsFirst t view node ending → IsFirst t view (node + 1) ending
      on ending first = first_on node ending first

      -- the new ending is of this node, as no earlier one looks so
      last : (more : IsNew node order shown old.list.items new.list.items) → IsFirst t view (node + 1) more.ending
      last more = record {
        low = (let e = more.first in omega (arith, e));
        least = λ other low at same.
            (let e = more.first in
            let never : other < node → ⊥ = λ before.
            (let look = are.all other before at in
            more.none look.look.ending
            (subst (IsAt old.list.items look.look.ending) (same ∙ more.alike) look.alike)) in
            not_before node other more.ending.first never low e);
      }

      firsts : Lists node order shown old.list.items new.list.items → (place : ℕ) (ending : Ending)
          → slice_get new.list.items place ≡ Some ending → IsFirst t view (node + 1) ending
      firsts (inl same) place ending at =
          on ending (are.first place ending (ap (λ (es : List Ending). slice_get es place) (sym same) ∙ at))
      firsts (inr more) place ending at =
          by (front_or_behind old.list.items (more.ending ∷ []) place ending (ap (λ (es : List Ending). slice_get es place) (sym more.list) ∙ at))
        where
          only : (k : ℕ) → slice_get (more.ending ∷ []) k ≡ Some ending → IsFirst t view (node + 1) ending
          only zero is = subst (IsFirst t view (node + 1)) (same_Some more.ending ending is) (last more)
          only (suc k) is = absurd (none-some ending is)

          by : (slice_get old.list.items place ≡ Some ending) ⊎ IsBehind old.list.items (more.ending ∷ []) place ending
              → IsFirst t view (node + 1) ending
          by (inl there) = on ending (are.first place ending there)
          by (inr behind) = only behind.place behind.is

      go : Lists node order shown old.list.items new.list.items → All (IsEndingOf t view) new.list.items
      go (inl same) = subst (All (IsEndingOf t view)) (sym same) are.each
      go (inr more) =
          let is : IsEndingOf t view more.ending = record {
            ends = ap (ends_at t) more.first ∙ ends;
            order = more.order_is ∙ (labels ∙ ap (labels_to t.edges) (sym more.first));
            seen = more.alike ∙ (as_there ∙ ap (node_shown t view) (sym more.first));
            within = subst (IsWithin t) (sym more.first) within;
          } in
          subst (All (IsEndingOf t view)) (sym more.list)
          (All-append (IsEndingOf t view) old.list.items (more.ending ∷ []) are.each (All-cons (IsEndingOf t view) more.ending [] is (All-nil (IsEndingOf t view))))

      by_place : (other : ℕ) → ends_at t other ≡ true → (other < node) ⊎ (node ≡ other) → IsLook t view new other
      by_place other at (inl low) = look_kept node order shown old new adds other (are.all other low at)
      by_place other at (inr same) = subst (IsLook t view new) same (last_look node order shown old new adds as_there)

  pub node_passed : (node : ℕ) (endings : Endings) → ends_at t node ≡ false → AreEndings t view node endings → AreEndings t view (node + 1) endings
  node_passed node endings inner are = record {
    each = are.each;
    first = λ place ending at. first_on node ending (are.first place ending at);
    different = are.different;
    all = λ other low at. by_place other at (split node other low);
    nodes = are.nodes
        ∙ (sym (append-nil (listed_below node (ends_at t)))
        ∙ ((λ i. listed_below node (ends_at t) ++ (if sym not_here i then node ∷ [] else [])) ∙ sym (listed_on node (ends_at t))));
    counts = λ place shown at. are.counts place shown at ∙ same_count shown;
    beyond = are.beyond;
  }
    where
      not_here : ends_at t node ≡ false
      not_here = inner

      same_count : (shown : Shown) → nodes_like t view node shown ≡ nodes_like t view (node + 1) shown
      same_count shown =
          let no : is_like shown node ≡ false = ap (λ (b : Bool). b && same_shown (node_shown t view node) shown) not_here in
          sym (none_more (nodes_like t view node shown) (is_like shown node) no) ∙ sym (nodes_on node shown)

      by_place : (other : ℕ) → ends_at t other ≡ true → (other < node) ⊎ (node ≡ other) → IsLook t view endings other
      by_place other at (inl low) = are.all other low at
      by_place other at (inr same) = absurd (false≢true (sym inner ∙ (ap (ends_at t) same ∙ at)))
