-- The first row that tells something. Rows are looked at one behind the other.
use Rattle.std.proofs.Common.{◌≡◌, ℕ, ◌+◌, ◌≤◌, ◌<◌, Bool, true, false, cond, eqb, List, [], ◌∷◌, length, get_or, drop, Option, Some, None, refl, sym, ap, ◌∙◌, arith, inl, inr}
use Rattle.std.specs.Prelude.{is_some}
use Rattle.std.specs.List.{find}
use Rattle.std.specs.Option.{option_and_then, option_or}
use Rattle.std.proofs.lemmas.Bool.{cases_Bool, eqb-true}
use Rattle.std.proofs.lemmas.List.{at_drop_more}
use Rattle.snapshot_rows.proofs.KeyLemmas.{found_behind, key_above, number_is, number_own}
use Rattle.snapshot_rows.specs.Order.{AreInOrder, after}
use Rattle.xk_base.specs.Tables.Counting.{least_below}
use Rattle.xk_base.proofs.CountingLemmas.{least_below-None, least_below-Some, least_below-same}

-- ---- the row at a place

module _ {A : Type 0} (test : A → Bool) (rows : List A) (i : ℕ) (x : A) (low : i < length rows) (is : x ≡ get_or rows i x) where
  pub found_at : test x ≡ true → find test (drop i rows) ≡ Some x
  found_at does =
      at_drop_more (find test) rows i x low
      ∙ (ap (λ (y : A). find test (y ∷ drop (i + 1) rows)) (sym is) ∙ ap (λ (b : Bool). cond b (Some x) (find test (drop (i + 1) rows))) does)

  pub missed_at : test x ≡ false → find test (drop i rows) ≡ find test (drop (i + 1) rows)
  missed_at doesnt =
      at_drop_more (find test) rows i x low
      ∙ (ap (λ (y : A). find test (y ∷ drop (i + 1) rows)) (sym is) ∙ ap (λ (b : Bool). cond b (Some x) (find test (drop (i + 1) rows))) doesnt)

-- ---- what the first row tells that tells anything

abbrev pub first_told : {A B : Type 0} → (A → Option B) → List A → Option B
first_told tell [] = None
first_told tell (x ∷ rows) = option_or (tell x) (first_told tell rows)

module _ {A B : Type 0} (tell : A → Option B) (rows : List A) (i : ℕ) (x : A) (low : i < length rows) (is : x ≡ get_or rows i x) where
  at_place : first_told tell (drop i rows) ≡ option_or (tell x) (first_told tell (drop (i + 1) rows))
  at_place = at_drop_more (first_told tell) rows i x low ∙ ap (λ (y : A). option_or (tell y) (first_told tell (drop (i + 1) rows))) (sym is)

  pub told_at : (b : B) → tell x ≡ Some b → first_told tell (drop i rows) ≡ Some b
  told_at b tells = at_place ∙ ap (λ (o : Option B). option_or o (first_told tell (drop (i + 1) rows))) tells

  pub untold_at : tell x ≡ None → first_told tell (drop i rows) ≡ first_told tell (drop (i + 1) rows)
  untold_at tells = at_place ∙ ap (λ (o : Option B). option_or o (first_told tell (drop (i + 1) rows))) tells

-- ---- rows in order of numbers: the first that tells is that of the least number whose row does

module _ {A B : Type 0} (key : A → ℕ) (next : ℕ) (tell : A → Option B) where
  abbrev IsBehind : Option ℕ → A → Type 0
  IsBehind before x = after before ≤ key x

  abbrev row_of : List A → ℕ → Option A
  row_of rows n = find (λ x. eqb (key x) n) rows

  -- what the row of a number tells
  abbrev pub told_by : List A → ℕ → Option B
  told_by rows n = option_and_then tell (row_of rows n)

  -- no row behind a key has that key, or a lower one
  absent : (k before : ℕ) (rows : List A) → k ≤ before → AreInOrder IsBehind key (Some before) rows → row_of rows k ≡ None
  absent k before rows low forms = go (row_of rows k) refl
    where
      go : (o : Option A) → row_of rows k ≡ o → row_of rows k ≡ None
      go None e = e
      go (Some x) e =
          let above = key_above key (λ k r. eqb (key r) k) (λ a b. a < b) IsBehind (λ before x low. omega arith) (number_is key) (number_own key)
          (λ k low. omega arith) (λ a b c low next. omega arith) before k rows x forms e in
          absurd (omega (arith, above))

  other : (y : A) (rows : List A) → AreInOrder IsBehind key (Some (key y)) rows → tell y ≡ None → (n : ℕ) → told_by (y ∷ rows) n ≡ told_by rows n
  other y rows forms none n = elim (cases_Bool (eqb (key y) n)) [
    | inl own ↦ (
        let same : n ≡ key y = sym (eqb-true (key y) n own) in
        let low : n ≤ key y = omega (arith, same) in
        ap (λ (b : Bool). option_and_then tell (cond b (Some y) (row_of rows n))) own
        ∙ (none ∙ sym (ap (option_and_then tell) (absent n (key y) rows low forms)))
        )
    | inr not ↦ ap (λ (b : Bool). option_and_then tell (cond b (Some y) (row_of rows n))) not
  ]

  pub least_is_first : (before : Option ℕ) (rows : List A) → AreInOrder IsBehind key before rows
      → ((n : ℕ) (x : A) → row_of rows n ≡ Some x → n < next)
      → option_and_then (told_by rows) (least_below next (λ n. is_some (told_by rows n))) ≡ first_told tell rows
  least_is_first before [] forms below = ap (option_and_then (told_by [])) (least_below-None next (λ n. false) (λ k low. refl))
  least_is_first before (y ∷ rows) forms below =
      go (tell y) refl
      (least_is_first (Some (key y)) rows forms.1
      (λ n x found. below n x (found_behind key (λ k r. eqb (key r) k) (λ a b. a < b) IsBehind (λ before x low. omega arith) (number_is key)
      (number_own key) (λ k low. omega arith) (λ a b c low next. omega arith) n y rows x forms.1 found)))
    where
      own : told_by (y ∷ rows) (key y) ≡ tell y
      own = ap (λ (b : Bool). option_and_then tell (cond b (Some y) (row_of rows (key y)))) (number_own key y)

      each : (o : Option ℕ) → ((n : ℕ) → told_by (y ∷ rows) n ≡ told_by rows n)
          → option_and_then (told_by (y ∷ rows)) o ≡ option_and_then (told_by rows) o
      each None alike = refl
      each (Some n) alike = alike n

      go : (o : Option B) → tell y ≡ o
          → option_and_then (told_by rows) (least_below next (λ n. is_some (told_by rows n))) ≡ first_told tell rows
          → option_and_then (told_by (y ∷ rows)) (least_below next (λ n. is_some (told_by (y ∷ rows) n))) ≡ first_told tell (y ∷ rows)
      go (Some b) e rest =
          let passes : is_some (told_by (y ∷ rows) (key y)) ≡ true = ap is_some (own ∙ e) in
          let low : key y < next = below (key y) y (ap (λ (b : Bool). cond b (Some y) (row_of rows (key y))) (number_own key y)) in
          ap (option_and_then (told_by (y ∷ rows)))
          (least_below-Some next (λ n. is_some (told_by (y ∷ rows) n)) (key y) low passes
          (λ j less. ap (λ o. is_some (option_and_then tell o)) (absent j j (y ∷ rows) (omega arith) (omega arith, forms.1))))
          ∙ (own ∙ (e ∙ sym (ap (λ (o : Option B). option_or o (first_told tell rows)) e)))
      go None e rest =
          let alike = other y rows forms.1 e in
          ap (option_and_then (told_by (y ∷ rows)))
          (least_below-same next (λ n. is_some (told_by (y ∷ rows) n)) (λ n. is_some (told_by rows n)) (λ k low. ap is_some (alike k)))
          ∙ (each (least_below next (λ n. is_some (told_by rows n))) alike
          ∙ (rest ∙ sym (ap (λ (o : Option B). option_or o (first_told tell rows)) e)))
