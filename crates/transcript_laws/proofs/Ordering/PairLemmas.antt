-- Lists in which each element stands before each later one.
use Rattle.std.proofs.Common.{zero, suc, List, [], ◌∷◌, ◌++◌, map, slice_index_or, arith}
use Rattle.std.specs.List.{All, AllPairs}
use Rattle.std.proofs.lemmas.List.Elements.{All-append}
use Rattle.std.proofs.lemmas.List.Kept.{AllPairs-cons}

module _ {X : Type 0} (R : X → X → Type 0) where
  pub pairs_none : AllPairs R []
  pairs_none i j d lt within = absurd (omega arith)

  pub pairs_one : (x : X) → AllPairs R (x ∷ [])
  pairs_one x i j d lt within = absurd (omega arith)

  pub pairs_head : (x : X) (xs : List X) → AllPairs R (x ∷ xs) → All (R x) xs
  pairs_head x xs h k d lt = h 0 (suc k) d (omega arith) (omega arith)

  pub pairs_tail : (x : X) (xs : List X) → AllPairs R (x ∷ xs) → AllPairs R xs
  pairs_tail x xs h i j d lt within = h (suc i) (suc j) d (omega arith) (omega arith)

  -- one list after the other
  pub pairs_append : (xs ys : List X) → AllPairs R xs → AllPairs R ys → All (λ x. All (R x) ys) xs → AllPairs R (xs ++ ys)
  pairs_append [] ys h k cross = k
  pairs_append (x ∷ xs) ys h k cross =
      AllPairs-cons R x (xs ++ ys) (All-append (R x) xs ys (pairs_head x xs h) (cross 0 x (omega arith)))
      (pairs_append xs ys (pairs_tail x xs h) k (λ j d lt. cross (suc j) d (omega arith)))

-- ---- of images

all_from_map : {X Y : Type 0} (P : Y → Type 0) (f : X → Y) (xs : List X) → All P (map f xs) → All (λ x. P (f x)) xs
all_from_map P f [] h k d lt = absurd (omega arith)
all_from_map P f (x ∷ xs) h zero d lt = h 0 (f x) (omega arith)
all_from_map P f (x ∷ xs) h (suc k) d lt = all_from_map P f xs (λ j y low. h (suc j) y (omega arith)) k d (omega arith)

all_to_map : {X Y : Type 0} (P : Y → Type 0) (f : X → Y) (xs : List X) → All (λ x. P (f x)) xs → All P (map f xs)
all_to_map P f [] h k d lt = absurd (omega arith)
all_to_map P f (x ∷ xs) h zero d lt = h 0 x (omega arith)
all_to_map P f (x ∷ xs) h (suc k) d lt = all_to_map P f xs (λ j y low. h (suc j) y (omega arith)) k d (omega arith)

pub pairs_from_map : {X Y : Type 0} (R : Y → Y → Type 0) (f : X → Y) (xs : List X) → AllPairs R (map f xs) → AllPairs (λ a b. R (f a) (f b)) xs
pairs_from_map R f [] h = pairs_none (λ a b. R (f a) (f b))
pairs_from_map R f (x ∷ xs) h =
    AllPairs-cons (λ a b. R (f a) (f b)) x xs (all_from_map (R (f x)) f xs (pairs_head R (f x) (map f xs) h))
    (pairs_from_map R f xs (pairs_tail R (f x) (map f xs) h))

pub pairs_to_map : {X Y : Type 0} (R : Y → Y → Type 0) (f : X → Y) (xs : List X) → AllPairs (λ a b. R (f a) (f b)) xs → AllPairs R (map f xs)
pairs_to_map R f [] h = pairs_none R
pairs_to_map R f (x ∷ xs) h =
    AllPairs-cons R (f x) (map f xs) (all_to_map (R (f x)) f xs (pairs_head (λ a b. R (f a) (f b)) x xs h))
    (pairs_to_map R f xs (pairs_tail (λ a b. R (f a) (f b)) x xs h))

-- what two properties of each pair give
pub pairs_both : {X : Type 0} (P : X → Type 0) (R S : X → X → Type 0) → ((a b : X) → P a → P b → R a b → S a b)
    → (xs : List X) → All P xs → AllPairs R xs → AllPairs S xs
pairs_both P R S step xs all pairs i j d lt within =
    step (slice_index_or xs i d) (slice_index_or xs j d) (all i d (omega arith)) (all j d (omega arith)) (pairs i j d lt within)
