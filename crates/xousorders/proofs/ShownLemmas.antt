-- How endings are told, and of what they fail.
use Rattle.std.proofs.Common.{◌≡◌, ℕ, ◌<◌, ◌≤◌, ◌⊎◌, inl, inr, Bool, true, false, List, length, get_or, Option, None, Some, Decides, refl, sym, ap, ◌∙◌, arith}
use Rattle.std.specs.Prelude.{◌&&◌, slice_get}
use Rattle.std.specs.List.{Contains}
use Rattle.std.specs.Option.{option_map_or}
use Rattle.std.specs.Str.{bytes_eq}
use Rattle.std.proofs.lemmas.Bool.{false≢true}
use Rattle.std.proofs.lemmas.Bool.Decides.{Decides-eqb}
use Rattle.std.proofs.lemmas.Option.{none-some, same_Some, slice_get-get_or, slice_get_cases}
use Rattle.std.proofs.lemmas.Slice.Eq.{bytes_eq-Decides}
use Rattle.xk_base.proofs.CountingLemmas.{least_below-bound, least_below-none, least_below-passes}
use Rattle.order_model.proofs.Moving.SeenLemmas.{nodes_are_seen_alike}
use Rattle.order_model.specs.declared.failing.Failing.{Failing}
use Rattle.order_model.specs.Endings.{seen_of}
use Rattle.order_model.specs.Failing.{fails_at, fails_of, first_failing}
use Rattle.order_model.specs.Moves.{Asked, Point}
use Rattle.order_model.specs.Nodes.{node_of}
use Rattle.order_text.specs.Texts.{seen_text}
use Rattle.order_text.specs.Endings.{failing_of}
use Rattle.xousorders.specs.Endings.{Shown, same_place, same_shown, shown_of}
use Rattle.xousorders.specs.declared.view.View.{View}

-- ---- two are told alike

same_place-Decides : (one other : Option ℕ) → Decides (same_place one other) (one ≡ other)
same_place-Decides None None = (λ e. refl, λ e. refl)
same_place-Decides None (Some k) = (λ e. absurd (false≢true e), λ e. absurd (none-some k e))
same_place-Decides (Some j) None = (λ e. absurd (false≢true e), λ e. absurd (none-some j (sym e)))
same_place-Decides (Some j) (Some k) = (λ e. ap Some ((Decides-eqb j k).0 e), λ e. (Decides-eqb j k).1 (same_Some j k e))

both : (a b : Bool) → (a && b) ≡ true → (a ≡ true) × (b ≡ true)
both true b e = (refl, e)
both false b e = absurd (false≢true e)

pub same_shown-Decides : (one other : Shown) → Decides (same_shown one other) (one ≡ other)
same_shown-Decides one other =
    let texts = bytes_eq-Decides one.text other.text in
    let places = same_place-Decides one.fails other.fails in
    let to : same_shown one other ≡ true → one ≡ other =
    λ e. (let parts = both (bytes_eq one.text other.text) (same_place one.fails other.fails) e in
    λ i. record { text = texts.0 parts.0 i; fails = places.0 parts.1 i }) in
    (to, λ e i. texts.1 (ap (λ (s : Shown). s.text) e) i && places.1 (ap (λ (s : Shown). s.fails) e) i)

-- points of one node are
pub shown_alike : (view : View) (asked : Asked) (one other : Point) → node_of asked one ≡ node_of asked other → shown_of view one ≡ shown_of view other
unfolding shown_of
shown_alike view asked one other same =
    let here = nodes_are_seen_alike asked one in
    let there = nodes_are_seen_alike asked other in
    let list : List Failing = view.fails.items in
    let seen : seen_of one ≡ seen_of other = sym here.seen ∙ (ap seen_of same ∙ there.seen) in
    let fails : first_failing list one ≡ first_failing list other =
    sym (here.failing list) ∙ (ap (first_failing list) same ∙ there.failing list) in
    λ i. record { text = seen_text view.sights view.hex (seen i); fails = fails i }

-- ---- of what an ending fails

module _ (list : List Failing) (p : Point) where
  there_fails : (place : ℕ) (failing : Failing) → slice_get list place ≡ Some failing → fails_at list p place ≡ fails_of failing p
  there_fails place failing there = ap (λ (o : Option Failing). option_map_or (λ f. fails_of f p) o false) there

  -- what is told of it is so
  pub fails_told : (failing : Failing) → failing_of list (first_failing list p) ≡ Some failing → fails_of failing p ≡ true
  fails_told failing told = go (first_failing list p) refl told
    where
      go : (o : Option ℕ) → first_failing list p ≡ o → failing_of list o ≡ Some failing → fails_of failing p ≡ true
      go None e is = absurd (none-some failing is)
      go (Some place) e is = sym (there_fails place failing is) ∙ least_below-passes (length list) (fails_at list p) place e

  none_there : (place : ℕ) → place < length list → slice_get list place ≡ None → ⊥
  none_there place low none = go (slice_get_cases list place).1
    where
      go : ((x : Failing) × (place < length list) × (slice_get list place ≡ Some x) × (get_or list place x ≡ x))
          ⊎ ((length list ≤ place) × (slice_get list place ≡ None))
          → ⊥
      go (inl at) = none-some at.0 (sym none ∙ at.2)
      go (inr past) = let far = past.0 in let no : ⊥ = omega (arith, low, far) in no

  -- where nothing is told, it fails of nothing
  untold : failing_of list (first_failing list p) ≡ None → first_failing list p ≡ None
  untold none = go (first_failing list p) refl none
    where
      go : (o : Option ℕ) → first_failing list p ≡ o → failing_of list o ≡ None → first_failing list p ≡ None
      go None e is = e
      go (Some place) e is = absurd (none_there place (least_below-bound (length list) (fails_at list p) place e) is)

  pub none_fails : failing_of list (first_failing list p) ≡ None → (failing : Failing) → Contains list failing → fails_of failing p ≡ false
  none_fails none failing among =
      let there : slice_get list among.0 ≡ Some failing = slice_get-get_or list among.0 failing among.1 ∙ ap Some among.2 in
      sym (there_fails among.0 failing there) ∙ least_below-none (length list) (fails_at list p) (untold none) among.0 among.1
