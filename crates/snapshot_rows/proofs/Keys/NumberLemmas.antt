-- Numbers that are compared as keys of two numbers, of which the second is 0.
use Rattle.std.proofs.Common.{◌≡◌, ℕ, ◌+◌, ◌≤◌, Bool, true, false, cond, eqb, List, [], ◌∷◌, map, sym, ap, ◌∙◌, arith, inl, inr, refl, ◌↔◌}
use Rattle.std.specs.Prelude.{◌&&◌}
use Rattle.std.specs.List.{count_by, IsDistinct}
use Rattle.std.proofs.lemmas.Bool.{cases_Bool, and_parts}
use Rattle.snapshot_rows.specs.PageParts.{same_key}
use Rattle.snapshot_rows.proofs.Keys.CountLemmas.{count_first, count_yes, count_no, is_key, distinct_told}

and_true : (b : Bool) → (b && true) ≡ b
and_true true = refl
and_true false = refl

module _ {A : Type 0} (number : A → ℕ) where
  abbrev pub key_of : A → ℕ × ℕ
  key_of x = (number x, 0)

  abbrev pub has : ℕ → A → Bool
  has n x = eqb (number x) n

  pub keys_counted : (n : ℕ) (xs : List A) → count_by (is_key (n, 0)) (map key_of xs) ≡ count_by (has n) xs
  keys_counted n [] = refl
  keys_counted n (x ∷ xs) =
      count_first (is_key (n, 0)) (key_of x) (map key_of xs)
      ∙ ap (λ (b : Bool). cond b 1 0 + count_by (is_key (n, 0)) (map key_of xs)) (and_true (has n x))
      ∙ ap (λ (m : ℕ). cond (has n x) 1 0 + m) (keys_counted n xs) ∙ sym (count_first (has n) x xs)

  pub keys_few : (k : ℕ × ℕ) (xs : List A) → count_by (is_key k) (map key_of xs) ≤ count_by (has k.0) xs
  keys_few k [] = omega arith
  keys_few k (x ∷ xs) =
      let few = keys_few k xs in
      elim (cases_Bool (is_key k (key_of x))) [
        | inl is ↦ (
            let one = count_yes (is_key k) (key_of x) (map key_of xs) is in
            let other = count_yes (has k.0) x xs (and_parts (has k.0 x) (eqb 0 k.1) is).0 in
            omega arith
            )
        | inr isnt ↦ (
            let one = count_no (is_key k) (key_of x) (map key_of xs) isnt in
            elim (cases_Bool (has k.0 x)) [
              | inl does ↦ (let other = count_yes (has k.0) x xs does in omega arith)
              | inr doesnt ↦ (let other = count_no (has k.0) x xs doesnt in omega arith)
            ]
            )
      ]

  -- no two keys are equal exactly where no number is that of two
  pub numbers_told : (xs : List A) → IsDistinct same_key (map key_of xs) ↔ ((n : ℕ) → count_by (has n) xs ≤ 1)
  numbers_told xs = (
    λ distinct n. (let few = (distinct_told (map key_of xs)).0 distinct (n, 0) in let same = keys_counted n xs in omega arith),
    λ apart. (distinct_told (map key_of xs)).1 (λ k. (let few = apart k.0 in let less = keys_few k xs in omega arith)),
  )
