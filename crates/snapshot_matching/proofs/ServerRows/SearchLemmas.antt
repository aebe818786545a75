-- Servers stand in order of their serials: a search for one finds the row that a test of that serial can hold of.
use Rattle.std.proofs.Common.{◌≡◌, ℕ, zero, suc, ◌≤◌, ◌<◌, Bool, true, false, eqb, List, [], ◌∷◌, length, get_or, Option, Some, None, Result, Ok, Err, refl, sym, ap, subst, ◌∙◌, arith, inl, inr}
use Rattle.std.specs.Prelude.{◌&&◌}
use Rattle.std.specs.List.{list_any}
use Rattle.std.specs.List.Sorted.{IsBinarySearchResult, IsSearchInRange}
use Rattle.std.specs.declared.cmp.Ordering.{Ordering}
use Rattle.std.specs.declared.cmp.Ordering.TheVariants.{Less, Equal, Greater}
use Rattle.std.specs.Ordering.{MatchOrdering, nat_cmp, ordering_index}
use Rattle.std.proofs.lemmas.List.{get_or_default}
use Rattle.std.proofs.lemmas.List.Folds.{list_any_at, list_any_none}
use Rattle.std.proofs.lemmas.Cmp.{ranked as ranks}
use Rattle.std.proofs.lemmas.Bool.{cases_Bool, cases_lt, eqb-true, and_parts}
use Rattle.snapshot_rows.specs.Order.{after, Ascend, AreInOrder}

-- the answers rise
rises : (a b k : ℕ) (one two : Ordering) → MatchOrdering one (a < k) (a ≡ k) (k < a) → MatchOrdering two (b < k) (b ≡ k) (k < b) → a ≤ b
    → ordering_index one ≤ ordering_index two
rises a b k Less two first second low = omega arith
rises a b k Equal Less first second low = absurd (omega arith)
rises a b k Equal Equal first second low = omega arith
rises a b k Equal Greater first second low = omega arith
rises a b k Greater Less first second low = absurd (omega arith)
rises a b k Greater Equal first second low = absurd (omega arith)
rises a b k Greater Greater first second low = omega arith

module _ {A : Type 0} (key : A → ℕ) where
  abbrev Form : Option ℕ → A → Type 0
  Form before x = after before ≤ key x

  above_at : (before : ℕ) (rows : List A) (j : ℕ) (d : A) → AreInOrder Form key (Some before) rows → j < length rows → before < key (get_or rows j d)
  above_at before [] j d forms within = absurd (omega (arith, within))
  above_at before (x ∷ rows) zero d forms within = let low = forms.0 in omega arith
  above_at before (x ∷ rows) (suc j) d forms within =
      let low = forms.0 in
      let next = above_at (key x) rows j d forms.1 (omega (arith, within)) in
      omega arith

  less_at : (before : Option ℕ) (rows : List A) (i j : ℕ) (d : A) → AreInOrder Form key before rows → i < j → j < length rows
      → key (get_or rows i d) < key (get_or rows j d)
  less_at before [] i j d forms low within = absurd (omega (arith, within))
  less_at before (x ∷ rows) i zero d forms low within = absurd (omega (arith, low))
  less_at before (x ∷ rows) zero (suc j) d forms low within = above_at (key x) rows j d forms.1 (omega (arith, within))
  less_at before (x ∷ rows) (suc i) (suc j) d forms low within = less_at (Some (key x)) rows i j d forms.1 (omega (arith, low)) (omega (arith, within))

  module _ (k : ℕ) (rest : A → Bool) where
    abbrev passes : A → Bool
    passes x = eqb (key x) k && rest x

    order_of : (x : A) → MatchOrdering (nat_cmp (key x) k) (key x < k) (key x ≡ k) (k < key x)
    order_of x = ranks (key x) k _ refl

    fails_apart : (x : A) → (key x ≡ k → ⊥) → passes x ≡ false
    fails_apart x differ = elim (cases_Bool (passes x)) [
      | inl does ↦ absurd (differ (eqb-true (key x) k (and_parts (eqb (key x) k) (rest x) does).0))
      | inr doesnt ↦ doesnt
    ]

    -- the one that was found is the only one of the key
    alone : (rows : List A) (i : ℕ) (x : A) → Ascend key rows → i < length rows → ((d : A) → nat_cmp (key (get_or rows i d)) k ≡ Equal)
        → x ≡ get_or rows i x → list_any passes rows ≡ passes x
    alone rows i x ascend within equal at =
        let is : (d : A) → get_or rows i d ≡ x = λ d. get_or_default rows i d x within ∙ sym at in
        let own : key (get_or rows i x) ≡ k =
        subst (λ (o : Ordering). MatchOrdering o (key (get_or rows i x) < k) (key (get_or rows i x) ≡ k) (k < key (get_or rows i x))) (equal x)
        (order_of (get_or rows i x)) in
        let own_at : (d : A) → key (get_or rows i d) ≡ k = λ d. ap key (get_or_default rows i d x within) ∙ own in
        elim (cases_Bool (passes x)) [
          | inl does ↦ list_any_at passes rows i x within (ap passes (is x) ∙ does) ∙ sym does
          | inr doesnt ↦ list_any_none passes rows (λ j d lt. elim (cases_lt j i) [
            | inl low ↦ (
                let less = less_at None rows j i d ascend low within in
                let there = own_at d in
                fails_apart (get_or rows j d) (λ same. omega (arith, less, there, same))
                )
            | inr high ↦ elim (cases_lt i j) [
              | inl above ↦ (
                  let less = less_at None rows i j d ascend above lt in
                  let there = own_at d in
                  fails_apart (get_or rows j d) (λ same. omega (arith, less, there, same))
                  )
              | inr below ↦ (
                  let here : j ≡ i = omega arith in
                  ap (λ (n : ℕ). passes (get_or rows n d)) here ∙ ap passes (is d) ∙ doesnt
                  )
            ]
          ]) ∙ sym doesnt
        ]

    pub found_alone : (rows : List A) (r : Result ℕ ℕ) (i : ℕ) (x : A) → r ≡ Ok i → Ascend key rows → IsSearchInRange r (length rows)
        → IsBinarySearchResult (λ y. nat_cmp (key y) k) rows r → x ≡ get_or rows i x → list_any passes rows ≡ passes x
    found_alone rows r i x is ascend within found at =
        alone rows i x ascend (subst (λ (o : Result ℕ ℕ). IsSearchInRange o (length rows)) is within)
        (subst (λ (o : Result ℕ ℕ). IsBinarySearchResult (λ y. nat_cmp (key y) k) rows o) is found) at

    -- where none was found, none has the key
    none : (rows : List A) (i : ℕ) → Ascend key rows → i ≤ length rows
        → IsBinarySearchResult (λ y. nat_cmp (key y) k) rows (Err i) → list_any passes rows ≡ false
    none rows i ascend within found =
        let parted = found (λ a b d le lt. elim (cases_lt a b) [
          | inl low ↦ (
              let less = less_at None rows a b d ascend low lt in
              rises _ _ k _ _ (order_of (get_or rows a d)) (order_of (get_or rows b d)) (omega arith))
          | inr high ↦ (let same : a ≡ b = omega arith in
              subst (λ (n : ℕ). ordering_index (nat_cmp (key (get_or rows a d)) k) ≤ ordering_index (nat_cmp (key (get_or rows n d)) k)) same (omega arith))
        ]) in
        list_any_none passes rows (λ j d lt. elim (cases_lt j i) [
          | inl low ↦ (
              let below = subst (λ (o : Ordering). MatchOrdering o (key (get_or rows j d) < k) (key (get_or rows j d) ≡ k) (k < key (get_or rows j d)))
              (parted.0 j d (omega arith) low) (order_of (get_or rows j d)) in
              fails_apart (get_or rows j d) (λ same. omega (arith, same, below))
              )
          | inr high ↦ (
              let above = subst (λ (o : Ordering). MatchOrdering o (key (get_or rows j d) < k) (key (get_or rows j d) ≡ k) (k < key (get_or rows j d)))
              (parted.1 j d high lt) (order_of (get_or rows j d)) in
              fails_apart (get_or rows j d) (λ same. omega (arith, same, above))
              )
        ])

    pub none_found : (rows : List A) (r : Result ℕ ℕ) (i : ℕ) → r ≡ Err i → Ascend key rows → IsSearchInRange r (length rows)
        → IsBinarySearchResult (λ y. nat_cmp (key y) k) rows r → list_any passes rows ≡ false
    none_found rows r i is ascend within found =
        none rows i ascend (subst (λ (o : Result ℕ ℕ). IsSearchInRange o (length rows)) is within)
        (subst (λ (o : Result ℕ ℕ). IsBinarySearchResult (λ y. nat_cmp (key y) k) rows o) is found)
