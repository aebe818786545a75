-- A search for a key of two numbers finds a row exactly where one has that key.
use Rattle.std.proofs.Common.{◌≡◌, ℕ, zero, suc, ◌≤◌, ◌<◌, Bool, true, false, eqb, List, [], ◌∷◌, length, get_or, Option, Some, None, Result, Ok, Err, refl, sym, ap, subst, ◌∙◌, arith, inl, inr}
use Rattle.std.specs.Prelude.{◌&&◌}
use Rattle.std.specs.List.{list_any}
use Rattle.std.specs.List.Sorted.{IsBinarySearchResult, IsSearchInRange}
use Rattle.std.specs.declared.cmp.Ordering.{Ordering}
use Rattle.std.specs.declared.cmp.Ordering.TheVariants.{Less, Equal, Greater}
use Rattle.std.specs.Ordering.{MatchOrdering, nat_cmp, ordering_then, ordering_index}
use Rattle.std.specs.Result.{is_ok}
use Rattle.std.proofs.lemmas.Cmp.{ranked as ranks}
use Rattle.std.proofs.lemmas.Bool.{cases_Bool, cases_lt, eq-eqb}
use Rattle.snapshot_rows.specs.Order.{least_first, least_second, AscendInTwo, AreInOrder}
use Rattle.snapshot_rows.proofs.KeyLemmas.{Less as IsLess, pair_is, less_apart, less_through, less_behind}

abbrev pub order_of : ℕ × ℕ → ℕ × ℕ → Ordering
order_of a k = ordering_then (nat_cmp a.0 k.0) (nat_cmp a.1 k.1)

abbrev pub Ranked : Ordering → ℕ × ℕ → ℕ × ℕ → Type 0
Ranked o a k = MatchOrdering o (IsLess a k) (a ≡ k) (IsLess k a)

ranked_by : (a k : ℕ × ℕ) (one two : Ordering) → MatchOrdering one (a.0 < k.0) (a.0 ≡ k.0) (k.0 < a.0) → MatchOrdering two (a.1 < k.1) (a.1 ≡ k.1) (k.1 < a.1)
    → Ranked (ordering_then one two) a k
ranked_by a k Less two first second = inl first
ranked_by a k Greater two first second = inl first
ranked_by a k Equal Less first second = inr (first, second)
ranked_by a k Equal Equal first second = ap (λ (n : ℕ). (n, a.1)) first ∙ ap (λ (n : ℕ). (k.0, n)) second
ranked_by a k Equal Greater first second = inr (sym first, second)

pub ranked : (a k : ℕ × ℕ) → Ranked (order_of a k) a k
ranked a k = ranked_by a k (nat_cmp a.0 k.0) (nat_cmp a.1 k.1) (ranks a.0 k.0 _ refl) (ranks a.1 k.1 _ refl)

-- the answers rise
rises_by : (a b k : ℕ × ℕ) (one two : Ordering) → Ranked one a k → Ranked two b k → IsLess a b → ordering_index one ≤ ordering_index two
rises_by a b k Less two first second low = omega arith
rises_by a b k Equal Less first second low = absurd (less_apart b (less_through b a b (subst (λ (z : ℕ × ℕ). IsLess b z) (sym first) second) low))
rises_by a b k Equal Equal first second low = omega arith
rises_by a b k Equal Greater first second low = omega arith
rises_by a b k Greater Less first second low = absurd (less_apart k (less_through k b k (less_through k a b first low) second))
rises_by a b k Greater Equal first second low = absurd (less_apart k (subst (λ (z : ℕ × ℕ). IsLess k z) second (less_through k a b first low)))
rises_by a b k Greater Greater first second low = omega arith

-- ---- of any test

any_at : {A : Type 0} (test : A → Bool) (rows : List A) (i : ℕ) → i < length rows → ((d : A) → test (get_or rows i d) ≡ true) → list_any test rows ≡ true
any_at test [] i within passes = absurd (omega (arith, within))
any_at test (x ∷ rows) zero within passes = rw (passes x) refl
any_at test (x ∷ rows) (suc i) within passes =
    let rest : list_any test rows ≡ true = any_at test rows i (omega (arith, within)) passes in
    elim (cases_Bool (test x)) [
      | inl does ↦ rw does refl
      | inr doesnt ↦ rw (doesnt, rest) refl
    ]

none_at : {A : Type 0} (test : A → Bool) (rows : List A) → ((i : ℕ) (d : A) → i < length rows → test (get_or rows i d) ≡ false) → list_any test rows ≡ false
none_at test [] fails = refl
none_at test (x ∷ rows) fails = rw (fails zero x (omega arith), none_at test rows (λ i d within. fails (suc i) d (omega (arith, within)))) refl

module _ {A : Type 0} (key : A → ℕ × ℕ) where
  abbrev Form : Option (ℕ × ℕ) → A → Type 0
  Form before x = (least_first 0 before ≤ (key x).0) × (least_second 0 before (key x).0 ≤ (key x).1)

  above_at : (before : ℕ × ℕ) (rows : List A) (j : ℕ) (d : A) → AreInOrder Form key (Some before) rows → j < length rows → IsLess before (key (get_or rows j d))
  above_at before [] j d forms within = absurd (omega (arith, within))
  above_at before (x ∷ rows) zero d forms within = less_behind 0 0 before (key x) forms.0.0 forms.0.1
  above_at before (x ∷ rows) (suc j) d forms within =
      less_through before (key x) _ (less_behind 0 0 before (key x) forms.0.0 forms.0.1) (above_at (key x) rows j d forms.1 (omega (arith, within)))

  less_at : (before : Option (ℕ × ℕ)) (rows : List A) (i j : ℕ) (d : A) → AreInOrder Form key before rows → i < j → j < length rows
      → IsLess (key (get_or rows i d)) (key (get_or rows j d))
  less_at before [] i j d forms low within = absurd (omega (arith, within))
  less_at before (x ∷ rows) i zero d forms low within = absurd (omega (arith, low))
  less_at before (x ∷ rows) zero (suc j) d forms low within = above_at (key x) rows j d forms.1 (omega (arith, within))
  less_at before (x ∷ rows) (suc i) (suc j) d forms low within = less_at (Some (key x)) rows i j d forms.1 (omega (arith, low)) (omega (arith, within))

  module _ (k : ℕ × ℕ) where
    abbrev is_at : A → Bool
    is_at x = eqb (key x).0 k.0 && eqb (key x).1 k.1

    at_equal : (x : A) → order_of (key x) k ≡ Equal → is_at x ≡ true
    at_equal x e =
        let same : key x ≡ k = subst (λ (o : Ordering). Ranked o (key x) k) e (ranked (key x) k) in
        rw (eq-eqb (key x).0 k.0 (ap (λ (z : ℕ × ℕ). z.0) same), eq-eqb (key x).1 k.1 (ap (λ (z : ℕ × ℕ). z.1) same)) refl

    not_less : (x : A) → IsLess (key x) k → is_at x ≡ false
    not_less x low = elim (cases_Bool (is_at x)) [
      | inl does ↦ absurd (less_apart k (subst (λ (z : ℕ × ℕ). IsLess z k) (pair_is key k x does) low))
      | inr doesnt ↦ doesnt
    ]

    not_greater : (x : A) → IsLess k (key x) → is_at x ≡ false
    not_greater x high = elim (cases_Bool (is_at x)) [
      | inl does ↦ absurd (less_apart k (subst (λ (z : ℕ × ℕ). IsLess k z) (pair_is key k x does) high))
      | inr doesnt ↦ doesnt
    ]

    -- what a binary search says
    pub search_told : (rows : List A) (r : Result ℕ ℕ) → AscendInTwo key rows → IsSearchInRange r (length rows)
        → IsBinarySearchResult (λ x. order_of (key x) k) rows r → is_ok r ≡ list_any is_at rows
    search_told rows (Ok i) ascend within found = sym (any_at is_at rows i within (λ d. at_equal (get_or rows i d) (found d)))
    search_told rows (Err i) ascend within found =
        let parted = found (λ a b d le lt. elim (cases_lt a b) [
          | inl low ↦ rises_by _ _ k _ _ (ranked (key (get_or rows a d)) k) (ranked (key (get_or rows b d)) k) (less_at None rows a b d ascend low lt)
          | inr high ↦ (let same : a ≡ b = omega arith in subst (λ (n : ℕ). ordering_index (order_of (key (get_or rows a d)) k) ≤ ordering_index (order_of (key (get_or rows n d)) k)) same (omega arith))
        ]) in
        sym (none_at is_at rows (λ j d lt. elim (cases_lt j i) [
          | inl low ↦ (
              let below = subst (λ (o : Ordering). Ranked o (key (get_or rows j d)) k) (parted.0 j d (omega arith) low) (ranked (key (get_or rows j d)) k) in
              not_less (get_or rows j d) below
              )
          | inr high ↦ (
              let above = subst (λ (o : Ordering). Ranked o (key (get_or rows j d)) k) (parted.1 j d high lt) (ranked (key (get_or rows j d)) k) in
              not_greater (get_or rows j d) above
              )
        ]))
