-- No two keys of a list are equal exactly where each is below the next once they are sorted.
use Rattle.std.proofs.Common.{◌≡◌, ℕ, ◌+◌, Bool, true, false, List, get_or, refl, sym, subst, ◌∙◌, arith, inl, inr, ◌↔◌}
use Rattle.std.specs.Prelude.{IsTrue}
use Rattle.std.specs.List.{IsDistinct, IsAllAdjacentAnswer}
use Rattle.std.specs.List.Sorted.{IsPermutation, IsSorted}
use Rattle.std.specs.declared.cmp.Ordering.{Ordering}
use Rattle.std.specs.declared.cmp.Ordering.TheVariants.{Less, Equal, Greater}
use Rattle.std.specs.Cmp.{IsTotalOrder}
use Rattle.std.specs.Ordering.{is_lt, is_eq, eq_by_cmp}
use Rattle.std.proofs.lemmas.Bool.{cases_Bool}
use Rattle.std.proofs.lemmas.Cmp.{then_total, on_total, nat_cmp_total}
use Rattle.std.proofs.lemmas.List.Sorted.{IsPermutation-sym}
use Rattle.std.proofs.lemmas.Map.Keys.{sorted_from_all_adjacent, IsDistinct-from_sorted, IsDistinct-IsPermutation, IsDistinct-from_apart, apart_from_distinct}
use Rattle.snapshot_rows.specs.PageParts.{same_key}
use Rattle.snapshot_rows.proofs.KeyLemmas.{Less as IsLess, pair_is, pair_own, less_apart, less_through}
use Rattle.snapshot_rows.proofs.Keys.SearchLemmas.{order_of, Ranked, ranked}

pub total : IsTotalOrder order_of
total = then_total (on_total (λ (p : ℕ × ℕ). p.0) nat_cmp_total) (on_total (λ (p : ℕ × ℕ). p.1) nat_cmp_total)

-- ---- one test of keys

pub same_is : (a b : ℕ × ℕ) → same_key a b ≡ true → a ≡ b
same_is a b same = pair_is (λ (k : ℕ × ℕ). k) b a same

pub same_own : (a : ℕ × ℕ) → same_key a a ≡ true
same_own a = pair_own (λ (k : ℕ × ℕ). k) a

pub less_differs : (a b : ℕ × ℕ) → IsLess a b → same_key a b ≡ false
less_differs a b low = elim (cases_Bool (same_key a b)) [
  | inl same ↦ absurd (less_apart b (subst (λ (z : ℕ × ℕ). IsLess z b) (same_is a b same) low))
  | inr differ ↦ differ
]

pub same_flips : (a b : ℕ × ℕ) → same_key a b ≡ same_key b a
same_flips a b = elim (cases_Bool (same_key a b)) [
  | inl same ↦ subst (λ (z : ℕ × ℕ). same_key a z ≡ same_key z a) (same_is a b same) refl
  | inr differ ↦ elim (cases_Bool (same_key b a)) [
    | inl same ↦ subst (λ (z : ℕ × ℕ). same_key z b ≡ same_key b z) (same_is b a same) refl
    | inr other ↦ differ ∙ sym other
  ]
]

eq_told : (a b : ℕ × ℕ) → eq_by_cmp order_of a b ≡ same_key a b
eq_told a b = go (order_of a b) (ranked a b)
  where
    go : (o : Ordering) → Ranked o a b → is_eq o ≡ same_key a b
    go Less low = sym (less_differs a b low)
    go Equal same = sym (subst (λ (z : ℕ × ℕ). same_key a z ≡ true) same (same_own a))
    go Greater high = sym (same_flips a b ∙ less_differs b a high)

lt_told : (a b : ℕ × ℕ) → IsLess a b → is_lt (order_of a b) ≡ true
lt_told a b low = go (order_of a b) (ranked a b)
  where
    go : (o : Ordering) → Ranked o a b → is_lt o ≡ true
    go Less other = refl
    go Equal same = absurd (less_apart b (subst (λ (z : ℕ × ℕ). IsLess z b) same low))
    go Greater high = absurd (less_apart a (less_through a b a low high))

less_is : (o : Ordering) → true ≡ is_lt o → o ≡ Less
less_is Less e = refl
less_is Equal e = absurd cc
less_is Greater e = absurd cc

-- neither is below the other
pub tied : (a b : ℕ × ℕ) → false ≡ is_lt (order_of a b) → is_lt (order_of b a) ≡ false → same_key a b ≡ true
tied a b one other = go (order_of a b) (ranked a b) one
  where
    go : (o : Ordering) → Ranked o a b → false ≡ is_lt o → same_key a b ≡ true
    go Less low e = absurd cc
    go Equal same e = subst (λ (z : ℕ × ℕ). same_key a z ≡ true) same (same_own a)
    go Greater high e = (let up = lt_told b a high in absurd cc)

-- ---- lists of keys

distinct_sorted : (sorted : List (ℕ × ℕ)) → IsDistinct (eq_by_cmp order_of) sorted → IsDistinct same_key sorted
distinct_sorted sorted distinct =
    IsDistinct-from_apart same_key sorted
    (λ i j d low within. sym (eq_told (get_or sorted i d) (get_or sorted j d)) ∙ apart_from_distinct (eq_by_cmp order_of) sorted i j d distinct low within)

pub differ_told : (keys sorted : List (ℕ × ℕ)) (told : Bool) → IsPermutation keys sorted → IsSorted order_of sorted
    → IsAllAdjacentAnswer (λ x y b. b ≡ is_lt (order_of x y)) sorted told → IsTrue told ↔ IsDistinct same_key keys
differ_told keys sorted true moved ascends answer = (
  λ holds.
      IsDistinct-IsPermutation same_key same_flips sorted keys (IsPermutation-sym keys sorted moved)
      (distinct_sorted sorted (IsDistinct-from_sorted order_of sorted
      (sorted_from_all_adjacent total sorted (0, 0)
      (λ k within. less_is (order_of (get_or sorted k (0, 0)) (get_or sorted (k + 1) (0, 0))) (answer k (0, 0) within))))),
  λ distinct. refl,
)
differ_told keys sorted false moved ascends answer = (
  λ holds. absurd cc,
  λ distinct. (
      let k = answer.0 in
      let a = get_or sorted k (0, 0) in
      let b = get_or sorted (k + 1) (0, 0) in
      let apart : same_key a b ≡ false =
      apart_from_distinct same_key sorted k (k + 1) (0, 0) (IsDistinct-IsPermutation same_key same_flips keys sorted moved distinct) (omega arith) answer.1 in
      let same : same_key a b ≡ true = tied a b (answer.2 (0, 0)) (ascends k (0, 0) (omega arith) answer.1) in
      absurd cc
      ),
)
