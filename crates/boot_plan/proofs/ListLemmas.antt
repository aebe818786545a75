-- Lists of pages: what holds along a run, of joined lists and of any element.
use Rattle.std.proofs.Common.{◌≡◌, ◌∙◌, ap, sym, subst, refl, ℕ, ◌+◌, ◌-◌, ◌<◌, Bool, true, false, List, ◌++◌, map, length, get_or, length-append, arith, inl, inr, All, AllPairs, Any}
use Rattle.std.specs.List.{list_any, range_with_len}
use Rattle.std.proofs.lemmas.List.{get_or_append_left, get_or-append_right}
use Rattle.std.proofs.lemmas.List.Elements.{All-from_get_or, All-map}
use Rattle.std.proofs.lemmas.List.FromFn.{length-range_with_len, get_or-range_with_len, length-map-range_with_len, get_or-map-range_with_len}
use Rattle.std.proofs.lemmas.List.Folds.{list_any_at}
use Rattle.std.proofs.lemmas.Bool.{cases_lt}

-- what holds of each number of a run
pub All-range : (P : ℕ → Type 0) (a n : ℕ) → ((i : ℕ) → i < n → P (a + i)) → All P (range_with_len a n)
All-range P a n each =
    All-from_get_or P (range_with_len a n) 0
    (λ i h. let below : i < n = omega (arith, length-range_with_len a n) in
    subst P (sym (get_or-range_with_len a n i 0 below)) (each i below))

-- what holds of what f makes of each number of a run
pub All-made : {X : Type 0} (P : X → Type 0) (f : ℕ → X) (a n : ℕ) → ((i : ℕ) → i < n → P (f (a + i))) → All P (map f (range_with_len a n))
All-made P f a n each = All-map P f (range_with_len a n) (All-range (λ i. P (f i)) a n each)

-- what holds of any two of those
pub AllPairs-made : {X : Type 0} (R : X → X → Type 0) (f : ℕ → X) (a n : ℕ) → ((i j : ℕ) → i < j → R (f (a + i)) (f (a + j))) → AllPairs R (map f (range_with_len a n))
AllPairs-made R f a n each i j d less within =
    let below : j < n = omega (arith, length-map-range_with_len f a n) in
    subst (λ x. R x (get_or (map f (range_with_len a n)) j d)) (sym (get_or-map-range_with_len f a n i (a + i) d (omega arith) refl))
    (subst (λ y. R (f (a + i)) y) (sym (get_or-map-range_with_len f a n j (a + j) d below refl)) (each i j less))

pub AllPairs-append : {X : Type 0} (R : X → X → Type 0) (xs ys : List X) → AllPairs R xs → AllPairs R ys → All (λ x. All (R x) ys) xs → AllPairs R (xs ++ ys)
AllPairs-append R xs ys left right cross i j d less within =
    let end : j < length xs + length ys = omega (arith, length-append xs ys) in
    elim (cases_lt j (length xs)) [
      | inl h ↦
          subst (λ x. R x (get_or (xs ++ ys) j d)) (sym (get_or_append_left xs ys d i (omega arith)))
          (subst (λ y. R (get_or xs i d) y) (sym (get_or_append_left xs ys d j h)) (left i j d less h))
      | inr h ↦ elim (cases_lt i (length xs)) [
        | inl k ↦
            subst (λ x. R x (get_or (xs ++ ys) j d)) (sym (get_or_append_left xs ys d i k))
            (subst (λ y. R (get_or xs i d) y) (sym (get_or-append_right xs ys (length xs) j d refl h)) (cross i d k (j - length xs) d (omega arith)))
        | inr k ↦
            subst (λ x. R x (get_or (xs ++ ys) j d)) (sym (get_or-append_right xs ys (length xs) i d refl k))
            (subst (λ y. R (get_or ys (i - length xs) d) y) (sym (get_or-append_right xs ys (length xs) j d refl h))
            (right (i - length xs) (j - length xs) d (omega arith) (omega arith)))
      ]
    ]

-- where a test holds of none, it fails at each place
fails : (b any : Bool) → (b ≡ true → any ≡ true) → any ≡ false → b ≡ false
fails true any at none = let found = at refl in cc
fails false any at none = refl

pub none_at : {X : Type 0} (p : X → Bool) (xs : List X) (i : ℕ) (d : X) → i < length xs → list_any p xs ≡ false → p (get_or xs i d) ≡ false
none_at p xs i d h none = fails (p (get_or xs i d)) (list_any p xs) (λ e. list_any_at p xs i d h e) none

-- some element of joined lists
pub Any-left : {X : Type 0} (P : X → Type 0) (xs ys : List X) → Any P xs → Any P (xs ++ ys)
Any-left P xs ys (k, x, h, at, holds) =
    (k, x, omega (arith, length-append xs ys), get_or_append_left xs ys x k h ∙ at, holds)

pub Any-right : {X : Type 0} (P : X → Type 0) (xs ys : List X) → Any P ys → Any P (xs ++ ys)
Any-right P xs ys (k, x, h, at, holds) = (
  length xs + k,
  x,
  omega (arith, length-append xs ys),
  get_or-append_right xs ys (length xs) (length xs + k) x refl (omega arith) ∙ ap (λ n. get_or ys n x) (omega arith) ∙ at,
  holds,
)
