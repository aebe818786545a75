-- How many of a list pass a test; keys of which no two are equal are counted once.
use Rattle.std.proofs.Common.{◌≡◌, ℕ, ◌+◌, ◌≤◌, Bool, true, false, cond, List, [], ◌∷◌, refl, sym, ap, subst, ◌∙◌, arith, inl, inr, ◌↔◌}
use Rattle.std.specs.List.{count_by, AllByRecursion, IsDistinct}
use Rattle.std.proofs.lemmas.Bool.{cases_Bool}
use Rattle.std.proofs.lemmas.List.Sums.{sum_by-cons}
use Rattle.std.proofs.lemmas.Map.Keys.{IsDistinct-head, IsDistinct-tail, IsDistinct-cons}
use Rattle.snapshot_rows.specs.PageParts.{same_key}
use Rattle.snapshot_rows.proofs.Keys.DifferLemmas.{same_is, same_own, same_flips}

-- ---- of any test

pub count_first : {A : Type 0} (test : A → Bool) (x : A) (xs : List A) → count_by test (x ∷ xs) ≡ cond (test x) 1 0 + count_by test xs
count_first test x xs = sum_by-cons (λ y. cond (test y) 1 0) x xs

pub count_yes : {A : Type 0} (test : A → Bool) (x : A) (xs : List A) → test x ≡ true → count_by test (x ∷ xs) ≡ 1 + count_by test xs
count_yes test x xs is = count_first test x xs ∙ ap (λ (b : Bool). cond b 1 0 + count_by test xs) is

pub count_no : {A : Type 0} (test : A → Bool) (x : A) (xs : List A) → test x ≡ false → count_by test (x ∷ xs) ≡ count_by test xs
count_no test x xs isnt = count_first test x xs ∙ ap (λ (b : Bool). cond b 1 0 + count_by test xs) isnt ∙ omega arith

pub count_none : {A : Type 0} (test : A → Bool) (xs : List A) → AllByRecursion (λ x. test x ≡ false) xs → count_by test xs ≡ 0
count_none test [] none = refl
count_none test (x ∷ xs) none = count_no test x xs none.0 ∙ count_none test xs none.1

pub none_of_count : {A : Type 0} (test : A → Bool) (xs : List A) → count_by test xs ≡ 0 → AllByRecursion (λ x. test x ≡ false) xs
none_of_count test [] none = tt
none_of_count test (x ∷ xs) none = elim (cases_Bool (test x)) [
  | inl is ↦ (let one = count_yes test x xs is in absurd (omega arith))
  | inr isnt ↦ (isnt, none_of_count test xs (sym (count_no test x xs isnt) ∙ none))
]

-- ---- keys of two numbers

abbrev pub is_key : ℕ × ℕ → ℕ × ℕ → Bool
is_key k a = same_key a k

abbrev pub AreOnce : List (ℕ × ℕ) → Type 0
AreOnce keys = (k : ℕ × ℕ) → count_by (is_key k) keys ≤ 1

flipped : (k : ℕ × ℕ) (keys : List (ℕ × ℕ)) → AllByRecursion (λ a. same_key k a ≡ false) keys → AllByRecursion (λ a. is_key k a ≡ false) keys
flipped k [] all = tt
flipped k (a ∷ keys) all = (same_flips a k ∙ all.0, flipped k keys all.1)

back : (k : ℕ × ℕ) (keys : List (ℕ × ℕ)) → AllByRecursion (λ a. is_key k a ≡ false) keys → AllByRecursion (λ a. same_key k a ≡ false) keys
back k [] all = tt
back k (a ∷ keys) all = (same_flips k a ∙ all.0, back k keys all.1)

once_of_distinct : (keys : List (ℕ × ℕ)) → IsDistinct same_key keys → AreOnce keys
once_of_distinct [] distinct k = omega arith
once_of_distinct (a ∷ keys) distinct k = elim (cases_Bool (is_key k a)) [
  | inl is ↦ (
      let none = flipped k keys (subst (λ (z : ℕ × ℕ). AllByRecursion (λ b. same_key z b ≡ false) keys) (same_is a k is)
      (IsDistinct-head same_key a keys distinct)) in
      let one = count_yes (is_key k) a keys is in
      let zero = count_none (is_key k) keys none in
      omega arith
      )
  | inr isnt ↦ (
      let same = count_no (is_key k) a keys isnt in
      let few = once_of_distinct keys (IsDistinct-tail same_key a keys distinct) k in
      omega arith
      )
]

distinct_of_once : (keys : List (ℕ × ℕ)) → AreOnce keys → IsDistinct same_key keys
distinct_of_once [] once = unfold IsDistinct in tt
distinct_of_once (a ∷ keys) once =
    let one = count_yes (is_key a) a keys (same_own a) in
    let few = once a in
    let none : count_by (is_key a) keys ≡ 0 = omega arith in
    IsDistinct-cons same_key a keys (back a keys (none_of_count (is_key a) keys none)) (distinct_of_once keys (λ k. (
    let first = count_first (is_key k) a keys in
    let all = once k in
    omega arith
    )))

pub distinct_told : (keys : List (ℕ × ℕ)) → IsDistinct same_key keys ↔ AreOnce keys
distinct_told keys = (once_of_distinct keys, distinct_of_once keys)
