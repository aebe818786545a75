-- Keys are listed in ascending order, and so stand entries and rows.
use Rattle.std.proofs.Common.{◌≡◌, ℕ, suc, ◌+◌, ◌*◌, ◌/◌, ◌≤◌, ◌<◌, Bool, true, false, cond, eqb, ltb, List, [], ◌∷◌, ◌++◌, map, Option, Some, None, sym, subst, arith, inl, inr}
use Rattle.std.specs.List.{AllByRecursion, AllPairs}
use Rattle.std.specs.Option.{option_map_or}
use Rattle.std.proofs.lemmas.Bool.{cases_Bool, cases_lt, and_parts, eqb-true, ltb-true}
use Rattle.std.proofs.lemmas.List.Kept.{AllPairs-from_increasing}
use Rattle.xk_base.specs.declared.ids.Place.{Place}
use Rattle.xk_base.specs.declared.ids.ThreadId.{ThreadId}
use Rattle.xk_base.specs.Tables.Circle.{listed_ids, id_at}
use Rattle.xk_base.specs.Tables.Counting.{listed_below}
use Rattle.xk_base.proofs.CountingLemmas.{listed_below-ascends}
use Rattle.ledger_model.specs.Places.{listed_places, is_before}
use Rattle.ledger_model.proofs.Loans.NumberingLemmas.{listed_places-ascends}
use Rattle.suspend_image.specs.StateBytes.{entries}
use Rattle.snapshot_rows.specs.Order.{after, least_first, least_second, AreInOrder}
use Rattle.snapshot_rows.proofs.KeyLemmas.{Less, either}
use Rattle.suspend_image.proofs.Saved.RoomLemmas.{by_recursion}

-- each is below all behind it
abbrev pub Rises : {A : Type 0} → (A → A → Type 0) → List A → Type 0
Rises less [] = Unit {0}
Rises less (x ∷ xs) = AllByRecursion (λ y. less x y) xs × Rises less xs

rises_of : {A : Type 0} (less : A → A → Type 0) (xs : List A) → AllPairs less xs → Rises less xs
rises_of less [] pairs = tt
rises_of less (x ∷ xs) pairs = (
  by_recursion (λ y. less x y) xs (λ k d within. pairs 0 (suc k) d (omega arith) (omega (arith, within))),
  rises_of less xs (λ i j d low within. pairs (suc i) (suc j) d (omega (arith, low)) (omega (arith, within))),
)

all_map : {A B : Type 0} (P : B → Type 0) (g : A → B) (Q : A → Type 0) → ((x : A) → Q x → P (g x))
    → (xs : List A) → AllByRecursion Q xs → AllByRecursion P (map g xs)
all_map P g Q next [] all = tt
all_map P g Q next (x ∷ xs) all = (next x all.0, all_map P g Q next xs all.1)

pub rises_map : {A B : Type 0} (less : A → A → Type 0) (other : B → B → Type 0) (g : A → B) → ((x y : A) → less x y → other (g x) (g y))
    → (xs : List A) → Rises less xs → Rises other (map g xs)
rises_map less other g next [] rises = tt
rises_map less other g next (x ∷ xs) rises = (
  all_map (λ z. other (g x) z) g (λ y. less x y) (λ y low. next x y low) xs rises.0,
  rises_map less other g next xs rises.1,
)

rises_weaker : {A : Type 0} (less other : A → A → Type 0) → ((x y : A) → less x y → other x y) → (xs : List A) → Rises less xs → Rises other xs
rises_weaker less other next [] rises = tt
rises_weaker {A = A} less other next (x ∷ xs) rises = (go xs rises.0, rises_weaker less other next xs rises.1)
  where
    go : (ys : List A) → AllByRecursion (λ y. less x y) ys → AllByRecursion (λ y. other x y) ys
    go [] all = tt
    go (y ∷ ys) all = (next x y all.0, go ys all.1)

-- ---- the listings

pub numbers_rise : (n : ℕ) (f : ℕ → Bool) → Rises (λ a b. a < b) (listed_below n f)
numbers_rise n f = rises_of (λ a b. a < b) (listed_below n f) (AllPairs-from_increasing (listed_below n f) (listed_below-ascends n f))

abbrev pub id_key : ThreadId → ℕ × ℕ
id_key id = (id.pid.0, id.tid.0)

abbrev pub place_key : Place → ℕ × ℕ
place_key p = (p.pid.0, p.vpn.0)

ids_low : (a b : ℕ) → a < b → Less (id_key (id_at a)) (id_key (id_at b))
ids_low a b low = elim (cases_lt (a / 31) (b / 31)) [
  | inl less ↦ inl (omega (arith, less))
  | inr high ↦ (let same : a / 31 ≡ b / 31 = omega (arith, high, low) in inr (omega (arith, same), omega (arith, same, low)))
]

pub ids_rise : (n : ℕ) (f : ThreadId → Bool) → Rises (λ a b. Less (id_key a) (id_key b)) (listed_ids n f)
unfolding listed_ids
ids_rise n f =
    rises_map (λ a b. a < b) (λ a b. Less (id_key a) (id_key b)) id_at ids_low (listed_below (n * 31) (λ k. f (id_at k)))
    (numbers_rise (n * 31) (λ k. f (id_at k)))

places_low : (p q : Place) → is_before p q ≡ true → Less (place_key p) (place_key q)
places_low p q before = elim (cases_lt p.pid.0 q.pid.0) [
  | inl less ↦ inl less
  | inr high ↦ (
      let not_less : (p.pid.0 < q.pid.0) → ⊥ = λ less. omega (arith, less, high) in
      let second = either _ _ (not_below p.pid.0 q.pid.0 not_less) before in
      let both = and_parts (eqb p.pid.0 q.pid.0) _ second in
      inr (eqb-true p.pid.0 q.pid.0 both.0, ltb-true p.vpn.0 q.vpn.0 both.1)
      )
]
  where
    not_below : (a b : ℕ) → ((a < b) → ⊥) → ltb a b ≡ false
    not_below a b never = elim (cases_Bool (ltb a b)) [
      | inl is ↦ absurd (never (ltb-true a b is))
      | inr isnt ↦ isnt
    ]

pub places_rise : (n : ℕ) (f : Place → Bool) → Rises (λ a b. Less (place_key a) (place_key b)) (listed_places n f)
places_rise n f =
    rises_weaker (λ p q. is_before p q ≡ true) (λ a b. Less (place_key a) (place_key b)) places_low (listed_places n f)
    (rises_of (λ p q. is_before p q ≡ true) (listed_places n f) (listed_places-ascends n f))

-- ---- entries

module _ {K V : Type 0} (f : K → Option V) where
  pub entries_all : (P : K → Type 0) (keys : List K) → AllByRecursion P keys → AllByRecursion (λ e. P e.0) (entries f keys)
  entries_all P [] all = tt
  entries_all P (k ∷ keys) all = go (f k) (entries_all P keys all.1)
    where
      go : (o : Option V) → AllByRecursion (λ e. P e.0) (entries f keys) → AllByRecursion (λ e. P e.0) (option_map_or (λ v. (k, v) ∷ []) o [] ++ entries f keys)
      go None rest = rest
      go (Some v) rest = (all.0, rest)

  pub entries_rise : (less : K → K → Type 0) (keys : List K) → Rises less keys → Rises (λ a b. less a.0 b.0) (entries f keys)
  entries_rise less [] rises = tt
  entries_rise less (k ∷ keys) rises = go (f k) (entries_all (λ z. less k z) keys rises.0) (entries_rise less keys rises.1)
    where
      go : (o : Option V) → AllByRecursion (λ e. less k e.0) (entries f keys) → Rises (λ a b. less a.0 b.0) (entries f keys)
          → Rises (λ a b. less a.0 b.0) (option_map_or (λ v. (k, v) ∷ []) o [] ++ entries f keys)
      go None all rest = rest
      go (Some v) all rest = (all, rest)

-- ---- rows

-- a key stands behind the one before it, where there is one
abbrev pub Follows : {K : Type 0} → (K → K → Type 0) → Option K → K → Type 0
Follows less None k = Unit {0}
Follows less (Some before) k = less before k

pub all_follow_none : {A K : Type 0} (less : K → K → Type 0) (key : A → K) (xs : List A) → AllByRecursion (λ x. Follows less None (key x)) xs
all_follow_none less key [] = tt
all_follow_none less key (x ∷ xs) = (tt, all_follow_none less key xs)

module _ {E R K : Type 0} (less : K → K → Type 0) (form : Option K → R → Type 0) (key : R → K) (row : E → R) (P : E → Type 0)
    (each : (before : Option K) (e : E) → P e → Follows less before (key (row e)) → form before (row e)) where
  pub in_order : (before : Option K) (es : List E) → AllByRecursion P es → Rises (λ a b. less (key (row a)) (key (row b))) es
      → AllByRecursion (λ e. Follows less before (key (row e))) es → AreInOrder form key before (map row es)
  in_order before [] all rises follow = tt
  in_order before (e ∷ es) all rises follow = (each before e all.0 follow.0, in_order (Some (key (row e))) es all.1 rises.1 rises.0)

-- the least that a form lets a key be
pub first_low : (least : ℕ) (before : Option (ℕ × ℕ)) (k : ℕ × ℕ) → least ≤ k.0 → Follows Less before k → least_first least before ≤ k.0
first_low least None k low follows = low
first_low least (Some b) k low (inl less) = omega (arith, less)
first_low least (Some b) k low (inr same) = (let is = same.0 in omega (arith, is))

pub second_low : (least : ℕ) (before : Option (ℕ × ℕ)) (k : ℕ × ℕ) → least ≤ k.1 → Follows Less before k → least_second least before k.0 ≤ k.1
second_low least None k low follows = low
second_low least (Some b) k low follows = elim (cases_Bool (eqb b.0 k.0)) [
  | inl same ↦ subst (λ (c : Bool). cond c (b.1 + 1) least ≤ k.1) (sym same) (go follows (eqb-true b.0 k.0 same))
  | inr other ↦ subst (λ (c : Bool). cond c (b.1 + 1) least ≤ k.1) (sym other) low
]
  where
    go : Less b k → b.0 ≡ k.0 → b.1 + 1 ≤ k.1
    go (inl less) is = absurd (omega (arith, less, is))
    go (inr same) is = (let less = same.1 in omega (arith, less))

pub number_low : (before : Option ℕ) (k : ℕ) → Follows (λ a b. a < b) before k → after before ≤ k
number_low None k follows = omega arith
number_low (Some b) k follows = omega (arith, follows)
