-- Elements of lists by their places.
use Rattle.std.proofs.Common.{◌≡◌, ◌<◌, ◌+◌, ℕ, zero, suc, List, [], ◌∷◌, ◌++◌, length, Some, refl, ap, arith, ◌⊎◌, inl, inr}
use Rattle.std.specs.Prelude.{slice_get}

module _ {A : Type 0} where
  -- an element of the front stays where it was
  pub slice_get-front : (xs ys : List A) (k : ℕ) → k < length xs → slice_get (xs ++ ys) k ≡ slice_get xs k
  slice_get-front [] ys k within = absurd (omega arith)
  slice_get-front (x ∷ xs) ys zero within = refl
  slice_get-front (x ∷ xs) ys (suc k) within = slice_get-front xs ys k (omega arith)

  -- the element at that place behind the front
  pub record IsBehind (xs ys : List A) (k : ℕ) (x : A) : Type 0 where
    pub place : ℕ
    pub sum : k ≡ length xs + place
    pub is : slice_get ys place ≡ Some x

  one_more : (x : A) (xs ys : List A) (k : ℕ) (y : A) → IsBehind xs ys k y → IsBehind (x ∷ xs) ys (suc k) y
  one_more x xs ys k y b = record { place = b.place; sum = (let h = b.sum in omega arith); is = b.is }

  -- an element stands in the front or behind it
  pub front_or_behind : (xs ys : List A) (k : ℕ) (x : A) → slice_get (xs ++ ys) k ≡ Some x
      → (slice_get xs k ≡ Some x) ⊎ IsBehind xs ys k x
  front_or_behind [] ys k x is = inr (record { place = k; sum = omega arith; is = is })
  front_or_behind (y ∷ xs) ys zero x is = inl is
  front_or_behind (y ∷ xs) ys (suc k) x is = go (front_or_behind xs ys k x is)
    where
      go : (slice_get xs k ≡ Some x) ⊎ IsBehind xs ys k x → (slice_get xs k ≡ Some x) ⊎ IsBehind (y ∷ xs) ys (suc k) x
      go (inl h) = inl h
      go (inr b) = inr (one_more y xs ys k x b)

  pub slice_get-behind : (xs ys : List A) (k : ℕ) → slice_get (xs ++ ys) (length xs + k) ≡ slice_get ys k
  slice_get-behind [] ys k = ap (slice_get ys) (omega arith)
  slice_get-behind (x ∷ xs) ys k =
      let e : length (x ∷ xs) + k ≡ suc (length xs + k) = omega arith in
      rw e (slice_get-behind xs ys k)

  -- there is an element at each place within the list
  pub element_at : (xs : List A) (k : ℕ) → k < length xs → (x : A) × (slice_get xs k ≡ Some x)
  element_at [] k within = absurd (omega arith)
  element_at (x ∷ xs) zero within = (x, refl)
  element_at (x ∷ xs) (suc k) within = element_at xs k (omega arith)
