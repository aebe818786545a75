-- What passes a test once: at which place of a list, and of lists one behind the other.
use Rattle.std.proofs.Common.{◌≡◌, ℕ, zero, suc, ◌+◌, ◌-◌, ◌≤◌, ◌<◌, Bool, true, false, cond, List, [], ◌∷◌, ◌++◌, length, take, Some, refl, sym, ap, ◌∙◌, arith, inl, inr}
use Rattle.std.specs.Prelude.{◌||◌, slice_get}
use Rattle.std.specs.List.{count_by, flat_map, list_any}
use Rattle.std.proofs.lemmas.Bool.{cases_Bool, false≢true, or_cases}
use Rattle.std.proofs.lemmas.List.Sums.{sum_by-append, sum_by-cons}
use Rattle.std.proofs.lemmas.Option.{none-some, same_Some}

-- ---- counted

count_append : {A : Type 0} (p : A → Bool) (xs ys : List A) → count_by p (xs ++ ys) ≡ count_by p xs + count_by p ys
count_append p xs ys = sum_by-append (λ x. cond (p x) 1 0) xs ys

count_first : {A : Type 0} (p : A → Bool) (x : A) (xs : List A) → count_by p (x ∷ xs) ≡ cond (p x) 1 0 + count_by p xs
count_first p x xs = sum_by-cons (λ y. cond (p y) 1 0) x xs

count_own : {A : Type 0} (p : A → Bool) (x : A) (xs : List A) → p x ≡ true → count_by p (x ∷ xs) ≡ 1 + count_by p xs
count_own p x xs does = count_first p x xs ∙ ap (λ (b : Bool). cond b 1 0 + count_by p xs) does

count_at : {A : Type 0} (p : A → Bool) (xs : List A) (k : ℕ) (x : A) → slice_get xs k ≡ Some x → p x ≡ true → 1 ≤ count_by p xs
count_at p [] k x at does = absurd (none-some x at)
count_at p (y ∷ ys) zero x at does =
    let first = count_own p y ys (ap p (same_Some y x at) ∙ does) in omega (arith, first)
count_at p (y ∷ ys) (suc k) x at does =
    let first = count_first p y ys in
    let rest = count_at p ys k x at does in
    omega (arith, first, rest)

-- where it passes once at most, two that pass stand at one place
pub once_at : {A : Type 0} (p : A → Bool) (xs : List A) (j k : ℕ) (x y : A) → count_by p xs ≤ 1 → slice_get xs j ≡ Some x → slice_get xs k ≡ Some y
    → p x ≡ true → p y ≡ true → j ≡ k
once_at p [] j k x y once at here does too = absurd (none-some x at)
once_at p (z ∷ zs) zero zero x y once at here does too = refl
once_at p (z ∷ zs) zero (suc k) x y once at here does too =
    let first = count_own p z zs (ap p (same_Some z x at) ∙ does) in
    let some = count_at p zs k y here too in
    absurd (omega (arith, once, first, some))
once_at p (z ∷ zs) (suc j) zero x y once at here does too =
    let first = count_own p z zs (ap p (same_Some z y here) ∙ too) in
    let some = count_at p zs j x at does in
    absurd (omega (arith, once, first, some))
once_at p (z ∷ zs) (suc j) (suc k) x y once at here does too =
    let first = count_first p z zs in
    ap suc (once_at p zs j k x y (omega (arith, once, first)) at here does too)

-- ---- lists of rows one behind the other

module _ {A B : Type 0} (parts : B → List A) (p : A → Bool) where
  count_in_row : (rows : List B) (j k : ℕ) (row : B) (x : A) → slice_get rows j ≡ Some row → slice_get (parts row) k ≡ Some x → p x ≡ true
      → 1 ≤ count_by p (flat_map parts rows)
  count_in_row [] j k row x at here does = absurd (none-some row at)
  count_in_row (r ∷ rows) zero k row x at here does =
      let both = count_append p (parts r) (flat_map parts rows) in
      let some = count_at p (parts r) k x (ap (λ z. slice_get (parts z) k) (same_Some r row at) ∙ here) does in
      omega (arith, both, some)
  count_in_row (r ∷ rows) (suc j) k row x at here does =
      let both = count_append p (parts r) (flat_map parts rows) in
      let some = count_in_row rows j k row x at here does in
      omega (arith, both, some)

  -- two that pass stand at one place of one row
  pub once_in_rows : (rows : List B) (i k j l : ℕ) (a b : B) (x y : A) → count_by p (flat_map parts rows) ≤ 1
      → slice_get rows i ≡ Some a → slice_get (parts a) k ≡ Some x → slice_get rows j ≡ Some b → slice_get (parts b) l ≡ Some y
      → p x ≡ true → p y ≡ true → (i ≡ j) × (k ≡ l)
  once_in_rows [] i k j l a b x y once at x_at to y_at does too = absurd (none-some a at)
  once_in_rows (r ∷ rows) zero k zero l a b x y once at x_at to y_at does too =
      let both = count_append p (parts r) (flat_map parts rows) in (
        refl,
        once_at p (parts r) k l x y (omega (arith, once, both)) (ap (λ z. slice_get (parts z) k) (same_Some r a at) ∙ x_at)
            (ap (λ z. slice_get (parts z) l) (same_Some r b to) ∙ y_at) does too,
      )
  once_in_rows (r ∷ rows) zero k (suc j) l a b x y once at x_at to y_at does too =
      let both = count_append p (parts r) (flat_map parts rows) in
      let one = count_at p (parts r) k x (ap (λ z. slice_get (parts z) k) (same_Some r a at) ∙ x_at) does in
      let other = count_in_row rows j l b y to y_at too in
      absurd (omega (arith, once, both, one, other))
  once_in_rows (r ∷ rows) (suc i) k zero l a b x y once at x_at to y_at does too =
      let both = count_append p (parts r) (flat_map parts rows) in
      let one = count_at p (parts r) l y (ap (λ z. slice_get (parts z) l) (same_Some r b to) ∙ y_at) too in
      let other = count_in_row rows i k a x at x_at does in
      absurd (omega (arith, once, both, one, other))
  once_in_rows (r ∷ rows) (suc i) k (suc j) l a b x y once at x_at to y_at does too =
      let both = count_append p (parts r) (flat_map parts rows) in
      let same = once_in_rows rows i k j l a b x y (omega (arith, once, both)) at x_at to y_at does too in
      (ap suc same.0, same.1)

-- ---- some element

pub any_at : {A : Type 0} (p : A → Bool) (xs : List A) (k : ℕ) (x : A) → slice_get xs k ≡ Some x → p x ≡ true → list_any p xs ≡ true
any_at p [] k x at does = absurd (none-some x at)
any_at p (y ∷ ys) zero x at does = rw (ap p (same_Some y x at) ∙ does) refl
any_at p (y ∷ ys) (suc k) x at does =
    let rest = any_at p ys k x at does in
    elim (cases_Bool (p y)) [
      | inl first ↦ rw first refl
      | inr other ↦ rw (other, rest) refl
    ]

pub any_append : {A : Type 0} (p : A → Bool) (xs ys : List A) → list_any p (xs ++ ys) ≡ (list_any p xs || list_any p ys)
any_append p [] ys = refl
any_append p (x ∷ xs) ys = elim (cases_Bool (p x)) [
  | inl does ↦ rw does refl
  | inr doesnt ↦ rw doesnt (any_append p xs ys)
]

-- an element that passes, among the first n
pub record PassesBefore {A : Type 0} (p : A → Bool) (xs : List A) (n : ℕ) : Type 0 where
  pub place : ℕ
  pub low : place < n
  pub element : A
  pub there : slice_get xs place ≡ Some element
  pub passes : p element ≡ true

pub any_taken : {A : Type 0} (p : A → Bool) (xs : List A) (n : ℕ) → list_any p (take n xs) ≡ true → PassesBefore p xs n
any_taken p xs zero any = absurd (false≢true any)
any_taken p [] (suc n) any = absurd (false≢true any)
any_taken p (x ∷ xs) (suc n) any = elim (or_cases (p x) (list_any p (take n xs)) any) [
  | inl does ↦ record { place = zero; low = omega arith; element = x; there = refl; passes = does }
  | inr rest ↦
      let found = any_taken p xs n rest in
      record { place = suc found.place; low = omega (arith, found.low); element = found.element; there = found.there; passes = found.passes }
]

-- .. and in one of the first n rows
pub record PassesInRows {A B : Type 0} (parts : B → List A) (p : A → Bool) (rows : List B) (n : ℕ) : Type 0 where
  pub row_place : ℕ
  pub low : row_place < n
  pub row : B
  pub row_there : slice_get rows row_place ≡ Some row
  pub place : ℕ
  pub element : A
  pub there : slice_get (parts row) place ≡ Some element
  pub passes : p element ≡ true

any_of_all : {A : Type 0} (p : A → Bool) (xs : List A) → list_any p xs ≡ true → PassesBefore p xs (length xs)
any_of_all p [] any = absurd (false≢true any)
any_of_all p (x ∷ xs) any = elim (or_cases (p x) (list_any p xs) any) [
  | inl does ↦ record { place = zero; low = omega arith; element = x; there = refl; passes = does }
  | inr rest ↦
      let found = any_of_all p xs rest in
      record { place = suc found.place; low = omega (arith, found.low); element = found.element; there = found.there; passes = found.passes }
]

pub any_in_rows : {A B : Type 0} (parts : B → List A) (p : A → Bool) (rows : List B) (n : ℕ) → list_any p (flat_map parts (take n rows)) ≡ true
    → PassesInRows parts p rows n
any_in_rows parts p rows zero any = absurd (false≢true any)
any_in_rows parts p [] (suc n) any = absurd (false≢true any)
any_in_rows parts p (r ∷ rows) (suc n) any =
    elim (or_cases (list_any p (parts r)) (list_any p (flat_map parts (take n rows))) (sym (any_append p (parts r) (flat_map parts (take n rows))) ∙ any)) [
      | inl here ↦
          let found = any_of_all p (parts r) here in
          record {
            row_place = zero;
            low = omega arith;
            row = r;
            row_there = refl;
            place = found.place;
            element = found.element;
            there = found.there;
            passes =
                found.passes;
          }
      | inr rest ↦
          let found = any_in_rows parts p rows n rest in
          record {
            row_place = suc found.row_place;
            low = omega (arith, found.low);
            row = found.row;
            row_there = found.row_there;
            place = found.place;
            element = found.element;
            there = found.there;
            passes = found.passes;
          }
    ]

pub any_row_at : {A B : Type 0} (parts : B → List A) (p : A → Bool) (rows : List B) (n j k : ℕ) (row : B) (x : A) → j < n
    → slice_get rows j ≡ Some row → slice_get (parts row) k ≡ Some x → p x ≡ true → list_any p (flat_map parts (take n rows)) ≡ true
any_row_at parts p rows zero j k row x low at here does = absurd (omega (arith, low))
any_row_at parts p [] (suc n) j k row x low at here does = absurd (none-some row at)
any_row_at parts p (r ∷ rows) (suc n) zero k row x low at here does =
    let first = any_at p (parts r) k x (ap (λ z. slice_get (parts z) k) (same_Some r row at) ∙ here) does in
    any_append p (parts r) (flat_map parts (take n rows)) ∙ ap (λ b. b || list_any p (flat_map parts (take n rows))) first
any_row_at parts p (r ∷ rows) (suc n) (suc j) k row x low at here does =
    let rest = any_row_at parts p rows n j k row x (omega (arith, low)) at here does in
    any_append p (parts r) (flat_map parts (take n rows)) ∙ (ap (λ b. list_any p (parts r) || b) rest ∙ or_true (list_any p (parts r)))
  where
    or_true : (b : Bool) → (b || true) ≡ true
    or_true true = refl
    or_true false = refl

pub any_taken_at : {A : Type 0} (p : A → Bool) (xs : List A) (n k : ℕ) (x : A) → k < n → slice_get xs k ≡ Some x → p x ≡ true → list_any p (take n xs) ≡ true
any_taken_at p xs zero k x low at does = absurd (omega (arith, low))
any_taken_at p [] (suc n) k x low at does = absurd (none-some x at)
any_taken_at p (y ∷ ys) (suc n) zero x low at does = rw (ap p (same_Some y x at) ∙ does) refl
any_taken_at p (y ∷ ys) (suc n) (suc k) x low at does =
    let rest = any_taken_at p ys n k x (omega (arith, low)) at does in
    elim (cases_Bool (p y)) [
      | inl first ↦ rw first refl
      | inr other ↦ rw (other, rest) refl
    ]

-- where some are counted, one passes
pub any_counted : {A : Type 0} (p : A → Bool) (xs : List A) → 1 ≤ count_by p xs → list_any p xs ≡ true
any_counted p [] some = absurd (omega (arith, some))
any_counted p (x ∷ xs) some = elim (cases_Bool (p x)) [
  | inl does ↦ rw does refl
  | inr doesnt ↦
      let first : count_by p (x ∷ xs) ≡ 0 + count_by p xs = count_first p x xs ∙ ap (λ (b : Bool). cond b 1 0 + count_by p xs) doesnt in
      rw doesnt (any_counted p xs (omega (arith, some, first)))
]

-- ---- an element of two lists one behind the other

pub get_left : {A : Type 0} (xs ys : List A) (k : ℕ) (x : A) → slice_get xs k ≡ Some x → slice_get (xs ++ ys) k ≡ Some x
get_left [] ys k x at = absurd (none-some x at)
get_left (z ∷ zs) ys zero x at = at
get_left (z ∷ zs) ys (suc k) x at = get_left zs ys k x at

pub get_right : {A : Type 0} (xs ys : List A) (k : ℕ) → slice_get (xs ++ ys) (length xs + k) ≡ slice_get ys k
get_right [] ys k = let same : 0 + k ≡ k = omega arith in ap (slice_get ys) same
get_right (z ∷ zs) ys k =
    let same : length (z ∷ zs) + k ≡ suc (length zs + k) = omega arith in
    ap (slice_get (z ∷ (zs ++ ys))) same ∙ get_right zs ys k

pub get_first : {A : Type 0} (xs ys : List A) (k : ℕ) → k < length xs → slice_get (xs ++ ys) k ≡ slice_get xs k
get_first [] ys k low = absurd (omega (arith, low))
get_first (z ∷ zs) ys zero low = refl
get_first (z ∷ zs) ys (suc k) low = get_first zs ys k (omega (arith, low))

pub get_second : {A : Type 0} (xs ys : List A) (k : ℕ) → length xs ≤ k → slice_get (xs ++ ys) k ≡ slice_get ys (k - length xs)
get_second xs ys k high =
    let there : k ≡ length xs + (k - length xs) = omega (arith, high) in
    ap (slice_get (xs ++ ys)) there ∙ get_right xs ys (k - length xs)
