-- Laws of the words of specs/Tables/Counting.antt: counts, the least number, listings and sums below n.
use Rattle.std.proofs.Common.{◌≡◌, ℕ, zero, suc, ◌+◌, ◌-◌, ◌<◌, ◌≤◌, min, Bool, true, false, not, ◌&&◌, List, [], ◌∷◌, ◌++◌, length, get_or, Option, Some, None, refl, sym, ap, length-append, append-nil, subst, ◌∙◌, arith, ◌⊎◌, inl, inr}
use Rattle.std.specs.Option.{option_or}
use Rattle.std.specs.List.{All, Contains}
use Rattle.std.specs.List.Sorted.{IsStrictlyIncreasing}
use Rattle.std.specs.Prelude.{◌==◌, if◌then◌else◌}
use Rattle.std.proofs.lemmas.Bool.{cases_lt, cases_order, cond_both, cond-true, cond-false, both_ways, false_from_ne_true, eq-eqb, ne_eqb}
use Rattle.std.proofs.lemmas.List.{get_or_append_left}
use Rattle.std.proofs.lemmas.Grind.{common_steps}
use Rattle.std.proofs.lemmas.Option.{none-some, same_Some}
use Rattle.std.proofs.lemmas.List.Elements.{All-nil, All-weaker, All-push, Contains-append_left, Contains-append_right}
use Rattle.xk_base.specs.Tables.Counting.{count_below, least_below, listed_below, sum_below, put_at}

-- ---- equal tests

-- two tests that agree below n count the same
pub count_below-same : (n : ℕ) (f g : ℕ → Bool) → ((k : ℕ) → k < n → f k ≡ g k) → count_below n f ≡ count_below n g
unfolding count_below
count_below-same zero f g h = refl
count_below-same (suc n) f g h =
    let here : f n ≡ g n = h n (omega arith) in
    let before : count_below n f ≡ count_below n g = count_below-same n f g (λ k l. h k (omega arith)) in
    cc

-- .. have the same least number
pub least_below-same : (n : ℕ) (f g : ℕ → Bool) → ((k : ℕ) → k < n → f k ≡ g k) → least_below n f ≡ least_below n g
unfolding least_below
least_below-same zero f g h = refl
least_below-same (suc n) f g h =
    let here : f n ≡ g n = h n (omega arith) in
    let before : least_below n f ≡ least_below n g = least_below-same n f g (λ k l. h k (omega arith)) in
    cc

-- .. and list the same
pub listed_below-same : (n : ℕ) (f g : ℕ → Bool) → ((k : ℕ) → k < n → f k ≡ g k) → listed_below n f ≡ listed_below n g
unfolding listed_below
listed_below-same zero f g h = refl
listed_below-same (suc n) f g h =
    let here : f n ≡ g n = h n (omega arith) in
    let before : listed_below n f ≡ listed_below n g = listed_below-same n f g (λ k l. h k (omega arith)) in
    cc

-- equal terms have equal sums
pub sum_below-same : (n : ℕ) (f g : ℕ → ℕ) → ((k : ℕ) → k < n → f k ≡ g k) → sum_below n f ≡ sum_below n g
unfolding sum_below
sum_below-same zero f g h = refl
sum_below-same (suc n) f g h =
    let here : f n ≡ g n = h n (omega arith) in
    let before : sum_below n f ≡ sum_below n g = sum_below-same n f g (λ k l. h k (omega arith)) in
    cc

-- ---- counting

-- a number is inside a run or outside it
inside_or_outside : (m low high : ℕ) → ((low ≤ m) × (m < high)) ⊎ ((m < low) ⊎ (high ≤ m))
inside_or_outside m low high =
    elim (cases_lt m low) [ inl a ↦ inr (inl a) | inr b ↦ elim (cases_lt m high) [ inl c ↦ inl (b, c) | inr d ↦ inr (inr d) ] ]

-- the step of the counting law: one number more
one_more_inside : (m low high a b : ℕ) (s t : Bool) → low ≤ m → m < high → s ≡ true → t ≡ false
    → a ≡ b + (min m high - low)
    → a + (if s then 1 else 0) ≡ b + (if t then 1 else 0) + (min (suc m) high - low)
one_more_inside m low high a b s t l h yes' no' e = rw (yes', no') (omega arith)

one_more_outside : (m low high a b : ℕ) (s t : Bool) → low ≤ high → ((m < low) ⊎ (high ≤ m)) → s ≡ t
    → a ≡ b + (min m high - low)
    → a + (if s then 1 else 0) ≡ b + (if t then 1 else 0) + (min (suc m) high - low)
one_more_outside m low high a b s true o out same e = rw same (omega arith)
one_more_outside m low high a b s false o out same e = rw same (omega arith)

-- THE COUNTING LAW. Where f holds and g fails from low up to high, and they agree at every other
-- number below m, f counts as many more as lie between low and high and below m.
pub count_below-run : (m low high : ℕ) (f g : ℕ → Bool) → low ≤ high
    → ((k : ℕ) → k < m → low ≤ k → k < high → (f k ≡ true) × (g k ≡ false))
    → ((k : ℕ) → k < m → (k < low) ⊎ (high ≤ k) → f k ≡ g k)
    → count_below m f ≡ count_below m g + (min m high - low)
unfolding count_below
count_below-run zero low high f g o inside outside = omega arith
count_below-run (suc m) low high f g o inside outside =
    let before : count_below m f ≡ count_below m g + (min m high - low) =
    count_below-run m low high f g o (λ k l. inside k (omega arith)) (λ k l. outside k (omega arith)) in
    elim (inside_or_outside m low high) [
      | inl i ↦ let here : (f m ≡ true) × (g m ≡ false) = inside m (omega arith) i.0 i.1 in
          one_more_inside m low high (count_below m f) (count_below m g) (f m) (g m) i.0 i.1 here.0 here.1 before
      | inr out ↦ one_more_outside m low high (count_below m f) (count_below m g) (f m) (g m) o out (outside m (omega arith) out) before
    ]

-- a test that holds at k and a test that fails there, and that agree elsewhere, differ by one
pub count_below-one : (m k : ℕ) (f g : ℕ → Bool) → k < m → f k ≡ true → g k ≡ false
    → ((j : ℕ) → j < m → (j ≡ k → ⊥) → f j ≡ g j) → count_below m f ≡ count_below m g + 1
count_below-one m k f g l here gone same =
    let run : count_below m f ≡ count_below m g + (min m (k + 1) - k) =
    count_below-run m k (k + 1) f g (omega arith)
    (λ j b low high. let e : k ≡ j = omega arith in (subst (λ i. f i ≡ true) e here, subst (λ i. g i ≡ false) e gone))
    (λ j b out. same j b (λ e. elim out [ inl a ↦ omega arith | inr c ↦ omega arith ])) in
    omega arith

-- a test that nothing passes counts nothing
pub count_below-none : (n : ℕ) (f : ℕ → Bool) → ((k : ℕ) → k < n → f k ≡ false) → count_below n f ≡ 0
unfolding count_below
count_below-none zero f h = refl
count_below-none (suc n) f h =
    let before : count_below n f ≡ 0 = count_below-none n f (λ k l. h k (omega arith)) in
    rw (before, h n (omega arith)) refl

-- no more than n pass
pub count_below-bound : (n : ℕ) (f : ℕ → Bool) → count_below n f ≤ n
unfolding count_below
count_below-bound zero f = omega arith
count_below-bound (suc n) f =
    let before : count_below n f ≤ n = count_below-bound n f in
    cond_both (f n) 1 0 (λ x. count_below n f + x ≤ suc n) (λ e. omega arith) (λ e. omega arith)

-- what passes is counted
pub count_below-positive : (n k : ℕ) (f : ℕ → Bool) → k < n → f k ≡ true → 0 < count_below n f
unfolding count_below
count_below-positive zero k f l e = absurd (omega arith)
count_below-positive (suc n) k f l e =
    elim (cases_lt k n) [
      | inl below ↦ let before : 0 < count_below n f = count_below-positive n k f below e in omega arith
      | inr above ↦ let here : f n ≡ true = subst (λ i. f i ≡ true) (let same : k ≡ n = omega arith in same) e in rw here (omega arith)
    ]

-- where a count is 0, nothing passes
pub none_from_count_below : (n : ℕ) (f : ℕ → Bool) → count_below n f ≡ 0 → (k : ℕ) → k < n → f k ≡ false
none_from_count_below n f e k l =
    false_from_ne_true (f k) (λ t. let some : 0 < count_below n f = count_below-positive n k f l t in omega arith)

-- a test that implies another counts no more
pub count_below-le : (n : ℕ) (f g : ℕ → Bool) → ((k : ℕ) → k < n → f k ≡ true → g k ≡ true) → count_below n f ≤ count_below n g
unfolding count_below
count_below-le zero f g h = omega arith
count_below-le (suc n) f g h =
    let before : count_below n f ≤ count_below n g = count_below-le n f g (λ k l. h k (omega arith)) in
    cond_both (f n) 1 0 (λ x. count_below n f + x ≤ count_below n g + (if g n then 1 else 0))
    (λ e. let also : g n ≡ true = h n (omega arith) e in rw also (omega arith)) (λ e. omega arith)

split_more : (a b c : ℕ) (s t : Bool) → a ≡ b + c
    → a + (if s then 1 else 0) ≡ b + (if s && t then 1 else 0) + (c + (if s && not t then 1 else 0))
split_more a b c true true e = omega arith
split_more a b c true false e = omega arith
split_more a b c false t e = omega arith

-- what passes f passes g too or doesn't
pub count_below-split : (n : ℕ) (f g : ℕ → Bool)
    → count_below n f ≡ count_below n (λ k. f k && g k) + count_below n (λ k. f k && not (g k))
unfolding count_below
count_below-split zero f g = refl
count_below-split (suc n) f g =
    split_more (count_below n f) (count_below n (λ k. f k && g k)) (count_below n (λ k. f k && not (g k))) (f n) (g n) (count_below-split n f g)

-- ---- the least number

least_step : (o : Option ℕ) (b : Bool) (n k : ℕ) → option_or o (if b then Some n else None) ≡ Some k
    → (o ≡ Some k) ⊎ ((o ≡ None) × (b ≡ true) × (n ≡ k))
least_step (Some j) b n k e = inl e
least_step None true n k e = inr (refl, refl, same_Some n k e)
least_step None false n k e = absurd (none-some k e)

none_step : (o : Option ℕ) (b : Bool) (n : ℕ) → option_or o (if b then Some n else None) ≡ None → (o ≡ None) × (b ≡ false)
none_step (Some j) b n e = absurd (none-some j (sym e))
none_step None true n e = absurd (none-some n (sym e))
none_step None false n e = (refl, refl)

-- none is found only where none passes
pub least_below-none : (n : ℕ) (f : ℕ → Bool) → least_below n f ≡ None → (k : ℕ) → k < n → f k ≡ false
unfolding least_below
least_below-none zero f e k l = absurd (omega arith)
least_below-none (suc n) f e k l =
    let parts : (least_below n f ≡ None) × (f n ≡ false) = none_step (least_below n f) (f n) n e in
    elim (cases_lt k n) [
      | inl below ↦ least_below-none n f parts.0 k below
      | inr above ↦ subst (λ i. f i ≡ false) (let same : n ≡ k = omega arith in same) parts.1
    ]

-- what is found is a number below n ..
pub least_below-bound : (n : ℕ) (f : ℕ → Bool) (k : ℕ) → least_below n f ≡ Some k → k < n
unfolding least_below
least_below-bound zero f k e = absurd (none-some k e)
least_below-bound (suc n) f k e =
    elim (least_step (least_below n f) (f n) n k e) [
      | inl before ↦ let l : k < n = least_below-bound n f k before in omega arith
      | inr here ↦ let s : n ≡ k = here.2 in omega arith
    ]

-- .. that passes ..
pub least_below-passes : (n : ℕ) (f : ℕ → Bool) (k : ℕ) → least_below n f ≡ Some k → f k ≡ true
unfolding least_below
least_below-passes zero f k e = absurd (none-some k e)
least_below-passes (suc n) f k e =
    elim (least_step (least_below n f) (f n) n k e) [
      | inl before ↦ least_below-passes n f k before
      | inr here ↦ subst (λ i. f i ≡ true) here.2 here.1
    ]

-- .. and the first that does
pub least_below-first : (n : ℕ) (f : ℕ → Bool) (k : ℕ) → least_below n f ≡ Some k → (j : ℕ) → j < k → f j ≡ false
unfolding least_below
least_below-first zero f k e j l = absurd (none-some k e)
least_below-first (suc n) f k e j l =
    elim (least_step (least_below n f) (f n) n k e) [
      | inl before ↦ least_below-first n f k before j l
      | inr here ↦ least_below-none n f here.0 j (let s : n ≡ k = here.2 in omega arith)
    ]

-- the first that passes is what is found
pub least_below-Some : (n : ℕ) (f : ℕ → Bool) (k : ℕ) → k < n → f k ≡ true → ((j : ℕ) → j < k → f j ≡ false) → least_below n f ≡ Some k
least_below-Some n f k l e first = found (least_below n f) refl
  where
    found : (o : Option ℕ) → least_below n f ≡ o → least_below n f ≡ Some k
    found None q = absurd (both_ways (f k) (least_below-none n f q k l) e)
    found (Some j) q = q ∙ ap Some (elim (cases_order j k) [
      | inl same ↦ same
      | inr apart ↦ elim apart [
        | inl before ↦ absurd (both_ways (f j) (first j before) (least_below-passes n f j q))
        | inr after ↦ absurd (both_ways (f k) (least_below-first n f j q k after) e)
      ]
    ])

-- where none passes, none is found
pub least_below-None : (n : ℕ) (f : ℕ → Bool) → ((k : ℕ) → k < n → f k ≡ false) → least_below n f ≡ None
unfolding least_below
least_below-None zero f h = refl
least_below-None (suc n) f h =
    let before : least_below n f ≡ None = least_below-None n f (λ k l. h k (omega arith)) in
    rw (before, h n (omega arith)) refl

-- ---- listing

-- a list has as many numbers as pass
pub length-listed_below : (n : ℕ) (f : ℕ → Bool) → length (listed_below n f) ≡ count_below n f
unfolding listed_below count_below
length-listed_below zero f = refl
length-listed_below (suc n) f =
    let before : length (listed_below n f) ≡ count_below n f = length-listed_below n f in
    cond_both (f n) (n ∷ []) [] (λ xs. length (listed_below n f ++ xs) ≡ count_below n f + (if f n then 1 else 0))
    (λ e. rw (length-append, before, e) refl) (λ e. rw (length-append, before, e) refl)

-- what is listed passes ..
pub listed_below-passes : (n : ℕ) (f : ℕ → Bool) → All (λ k. (k < n) × (f k ≡ true)) (listed_below n f)
unfolding listed_below
listed_below-passes zero f = All-nil (λ k. (k < zero) × (f k ≡ true))
listed_below-passes (suc n) f =
    let before : All (λ k. (k < suc n) × (f k ≡ true)) (listed_below n f) =
    All-weaker (λ k. (k < n) × (f k ≡ true)) (λ k. (k < suc n) × (f k ≡ true)) (λ k h. (let l : k < n = h.0 in omega arith, h.1)) (listed_below n f) (listed_below-passes n f) in
    cond_both (f n) (n ∷ []) [] (λ xs. All (λ k. (k < suc n) × (f k ≡ true)) (listed_below n f ++ xs))
    (λ e. All-push (λ k. (k < suc n) × (f k ≡ true)) (listed_below n f) n before (omega arith, e))
    (λ e. rw append-nil before)

-- .. and what passes is listed
pub listed_below-contains : (n k : ℕ) (f : ℕ → Bool) → k < n → f k ≡ true → Contains (listed_below n f) k
unfolding listed_below
listed_below-contains zero k f l e = absurd (omega arith)
listed_below-contains (suc n) k f l e =
    elim (cases_lt k n) [
      | inl below ↦ Contains-append_left (listed_below n f) (if f n then n ∷ [] else []) k (listed_below-contains n k f below e)
      | inr above ↦
          let same : k ≡ n = omega arith in
          let here : f n ≡ true = subst (λ i. f i ≡ true) same e in
          let one : Contains (n ∷ []) k = (0, omega arith, sym same) in
          rw here (Contains-append_right (listed_below n f) (n ∷ []) k one)
    ]

increasing_push : (xs : List ℕ) (n : ℕ) → IsStrictlyIncreasing xs → All (λ k. k < n) xs → IsStrictlyIncreasing (xs ++ n ∷ [])
increasing_push xs n up below k l =
    let size : length (xs ++ n ∷ []) ≡ length xs + 1 = length-append xs (n ∷ []) in
    let here : k < length xs = omega arith in
    let left : get_or (xs ++ n ∷ []) k 0 ≡ get_or xs k 0 = get_or_append_left xs (n ∷ []) 0 k here in
    elim (cases_lt (k + 1) (length xs)) [
      | inl inside ↦
          let right : get_or (xs ++ n ∷ []) (k + 1) 0 ≡ get_or xs (k + 1) 0 = get_or_append_left xs (n ∷ []) 0 (k + 1) inside in
          let rises : get_or xs k 0 < get_or xs (k + 1) 0 = up k inside in
          rw (left, right) rises
      | inr last ↦
          let right : get_or (xs ++ n ∷ []) (k + 1) 0 ≡ n = grind (arith, common_steps) in
          let small : get_or xs k 0 < n = below k 0 here in
          rw (left, right) small
    ]

-- the listing ascends, so that it has each number once
pub listed_below-ascends : (n : ℕ) (f : ℕ → Bool) → IsStrictlyIncreasing (listed_below n f)
unfolding listed_below
listed_below-ascends zero f = λ k l. absurd (omega arith)
listed_below-ascends (suc n) f =
    let before : IsStrictlyIncreasing (listed_below n f) = listed_below-ascends n f in
    let below : All (λ k. k < n) (listed_below n f) =
    All-weaker (λ k. (k < n) × (f k ≡ true)) (λ k. k < n) (λ k h. h.0) (listed_below n f) (listed_below-passes n f) in
    cond_both (f n) (n ∷ []) [] (λ xs. IsStrictlyIncreasing (listed_below n f ++ xs))
    (λ e. increasing_push (listed_below n f) n before below) (λ e. rw append-nil before)

-- ---- sums

-- a change at one number changes the sum by as much
pub sum_below-put : (n k x : ℕ) (f : ℕ → ℕ) → k < n → sum_below n (put_at ◌==◌ f k x) + f k ≡ sum_below n f + x
unfolding sum_below
sum_below-put zero k x f l = absurd (omega arith)
sum_below-put (suc n) k x f l =
    elim (cases_lt k n) [
      | inl below ↦
          let before : sum_below n (put_at ◌==◌ f k x) + f k ≡ sum_below n f + x = sum_below-put n k x f below in
          let here : put_at ◌==◌ f k x n ≡ f n = cond-false (n == k) x (f n) (ne_eqb n k (λ e. omega arith)) in
          rw here (omega arith)
      | inr above ↦
          let same : k ≡ n = omega arith in
          let before : sum_below n (put_at ◌==◌ f k x) ≡ sum_below n f =
          sum_below-same n (put_at ◌==◌ f k x) f (λ j b. cond-false (j == k) x (f j) (ne_eqb j k (λ e. omega arith))) in
          let here : put_at ◌==◌ f k x n ≡ x = cond-true (n == k) x (f n) (eq-eqb n k (sym same)) in
          let value : f k ≡ f n = ap f same in
          rw (before, here) (omega arith)
    ]

-- no sum is below one of its terms
pub sum_below-term : (n k : ℕ) (f : ℕ → ℕ) → k < n → f k ≤ sum_below n f
unfolding sum_below
sum_below-term zero k f l = absurd (omega arith)
sum_below-term (suc n) k f l =
    elim (cases_lt k n) [
      | inl below ↦ let before : f k ≤ sum_below n f = sum_below-term n k f below in omega arith
      | inr above ↦ let value : f k ≡ f n = ap f (let same : k ≡ n = omega arith in same) in omega arith
    ]
