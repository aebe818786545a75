-- Rows that come back one after the other: what is found among the first of them, and among one more.
use Rattle.std.proofs.Common.{◌≡◌, ℕ, zero, suc, ◌+◌, ◌≤◌, ◌<◌, Bool, true, false, cond, List, [], ◌∷◌, length, take, get_or, Option, Some, None, refl, sym, ap, subst, ◌∙◌, arith, inl, inr, add-one}
use Rattle.std.specs.Prelude.{◌||◌, if◌then◌else◌}
use Rattle.std.specs.List.{find, list_any}
use Rattle.std.specs.Option.{option_map}
use Rattle.std.proofs.lemmas.Bool.{cases_Bool}
use Rattle.snapshot_rows.specs.Order.{AreInOrder}
use Rattle.suspend_image.specs.Forms.{ArePlaced}

-- the first k rows are all where there are no more
pub take_past : {A : Type 0} (k : ℕ) (rows : List A) → length rows ≤ k → take k rows ≡ rows
take_past zero [] all = refl
take_past zero (x ∷ rows) all = absurd (omega arith)
take_past (suc k) [] all = refl
take_past (suc k) (x ∷ rows) all = ap (λ others. x ∷ others) (take_past k rows (omega (arith, all)))

-- ---- one row more

-- among one row more a test finds that row, or what it found before
more_found : {A B : Type 0} (view : A → B) (test : A → Bool) (rows : List A) (k : ℕ) (d : A) → k < length rows
    → (test (get_or rows k d) ≡ true → find test (take k rows) ≡ None)
    → option_map view (find test (take (suc k) rows)) ≡ (if test (get_or rows k d) then Some (view (get_or rows k d)) else option_map view (find test (take k rows)))
more_found view test [] k d low none = absurd (omega arith)
more_found view test (y ∷ rows) zero d low none = elim (cases_Bool (test y)) [
  | inl does ↦ rw does refl
  | inr doesnt ↦ rw doesnt refl
]
more_found view test (y ∷ rows) (suc k) d low none = elim (cases_Bool (test y)) [
  | inl does ↦ elim (cases_Bool (test (get_or rows k d))) [
    | inl found ↦ absurd (not_found (sym (ap (λ (b : Bool). cond b (Some y) (find test (take k rows))) does) ∙ none found))
    | inr other ↦ rw (does, other) refl
  ]
  | inr doesnt ↦
      let before : find test (y ∷ take k rows) ≡ find test (take k rows) = ap (λ (b : Bool). cond b (Some y) (find test (take k rows))) doesnt in
      ap (λ (b : Bool). option_map view (cond b (Some y) (find test (take (suc k) rows)))) doesnt
      ∙ (more_found view test rows k d (omega (arith, low)) (λ found. sym before ∙ none found)
      ∙ ap (λ o. if test (get_or rows k d) then Some (view (get_or rows k d)) else option_map view o) (sym before))
]
  where
    not_found : {A : Type 0} {y : A} → Some y ≡ None → ⊥
    not_found e = absurd cc

pub next_found : {A B : Type 0} (view : A → B) (test : A → Bool) (rows : List A) (k : ℕ) (d : A) → k < length rows
    → (test (get_or rows k d) ≡ true → find test (take k rows) ≡ None)
    → option_map view (find test (take (k + 1) rows)) ≡ (if test (get_or rows k d) then Some (view (get_or rows k d)) else option_map view (find test (take k rows)))
next_found view test rows k d low none =
    ap (λ n. option_map view (find test (take n rows))) (add-one k) ∙ more_found view test rows k d low none

-- ---- rows in order of their keys

module _ {A K : Type 0} (key : A → K) (test : K → A → Bool) (less : K → K → Type 0) (form : Option K → A → Type 0)
    (behind : (before : K) (x : A) → form (Some before) x → less before (key x)) (is_key : (k : K) (x : A) → test k x ≡ true → key x ≡ k)
    (apart : (k : K) → less k k → ⊥) (through : (a b c : K) → less a b → less b c → less a c) where
  above_at : (before : K) (rows : List A) (k : ℕ) (d : A) → AreInOrder form key (Some before) rows → k < length rows → less before (key (get_or rows k d))
  above_at before [] k d forms low = absurd (omega arith)
  above_at before (y ∷ rows) zero d forms low = behind before y forms.0
  above_at before (y ∷ rows) (suc k) d forms low =
      through before (key y) (key (get_or rows k d)) (behind before y forms.0) (above_at (key y) rows k d forms.1 (omega (arith, low)))

  -- of two rows the first has the lower key
  pub less_at : (before : Option K) (rows : List A) (i j : ℕ) (d : A) → AreInOrder form key before rows → i < j → j < length rows
      → less (key (get_or rows i d)) (key (get_or rows j d))
  less_at before [] i j d forms low within = absurd (omega (arith, within))
  less_at before (y ∷ rows) i zero d forms low within = absurd (omega (arith, low))
  less_at before (y ∷ rows) zero (suc j) d forms low within = above_at (key y) rows j d forms.1 (omega (arith, within))
  less_at before (y ∷ rows) (suc i) (suc j) d forms low within =
      less_at (Some (key y)) rows i j d forms.1 (omega (arith, low)) (omega (arith, within))

  -- no row before it has the key of a row
  pub none_before : (before : Option K) (rows : List A) (k : ℕ) (d : A) → AreInOrder form key before rows → k < length rows
      → find (test (key (get_or rows k d))) (take k rows) ≡ None
  none_before before [] k d forms low = absurd (omega arith)
  none_before before (y ∷ rows) zero d forms low = refl
  none_before before (y ∷ rows) (suc k) d forms low = elim (cases_Bool (test (key (get_or rows k d)) y)) [
    | inl does ↦ absurd (apart (key y) (subst (λ (z : K). less (key y) z) (sym (is_key (key (get_or rows k d)) y does)) (above_at (key y) rows k d forms.1 (omega (arith, low)))))
    | inr doesnt ↦
        ap (λ (b : Bool). cond b (Some y) (find (test (key (get_or rows k d))) (take k rows))) doesnt
        ∙ none_before (Some (key y)) rows k d forms.1 (omega (arith, low))
  ]

  module _ (own : (x : A) → test (key x) x ≡ true) where
    -- a row is the one of its key
    pub found_own : (before : Option K) (rows : List A) (k : ℕ) (d : A) → AreInOrder form key before rows → k < length rows
        → find (test (key (get_or rows k d))) rows ≡ Some (get_or rows k d)
    found_own before [] k d forms low = absurd (omega arith)
    found_own before (y ∷ rows) zero d forms low = ap (λ (b : Bool). cond b (Some y) (find (test (key y)) rows)) (own y)
    found_own before (y ∷ rows) (suc k) d forms low =
        let rest = found_own (Some (key y)) rows k d forms.1 (omega (arith, low)) in
        elim (cases_Bool (test (key (get_or rows k d)) y)) [
          | inl does ↦ absurd (apart (key y) (subst (λ (z : K). less (key y) z) (sym (is_key (key (get_or rows k d)) y does)) (above_at (key y) rows k d forms.1 (omega (arith, low)))))
          | inr doesnt ↦ ap (λ (b : Bool). cond b (Some y) (find (test (key (get_or rows k d))) rows)) doesnt ∙ rest
        ]

-- ---- what the form of rows says of each

pub each_in_order : {A K : Type 0} (form : Option K → A → Type 0) (key : A → K) (P : A → Type 0) → ((before : Option K) (x : A) → form before x → P x)
    → (before : Option K) (rows : List A) (k : ℕ) (d : A) → AreInOrder form key before rows → k < length rows → P (get_or rows k d)
each_in_order form key P says before [] k d forms low = absurd (omega arith)
each_in_order form key P says before (x ∷ rows) zero d forms low = says before x forms.0
each_in_order form key P says before (x ∷ rows) (suc k) d forms low = each_in_order form key P says (Some (key x)) rows k d forms.1 (omega (arith, low))

-- ---- whether some row passes

pub none_any : {A : Type 0} (test : A → Bool) (rows : List A) → find test rows ≡ None → list_any test rows ≡ false
none_any test [] e = refl
none_any test (y ∷ rows) e = elim (cases_Bool (test y)) [
  | inl does ↦ absurd (some_none y (sym (ap (λ (b : Bool). cond b (Some y) (find test rows)) does) ∙ e))
  | inr doesnt ↦ ap (λ b. b || list_any test rows) doesnt ∙ none_any test rows (sym (ap (λ (b : Bool). cond b (Some y) (find test rows)) doesnt) ∙ e)
]
  where
    some_none : {A : Type 0} (y : A) → Some y ≡ None → ⊥
    some_none y e = absurd cc

any_more : {A : Type 0} (test : A → Bool) (rows : List A) (k : ℕ) (d : A) → k < length rows
    → list_any test (take (suc k) rows) ≡ (list_any test (take k rows) || test (get_or rows k d))
any_more test [] k d low = absurd (omega arith)
any_more test (y ∷ rows) zero d low = or_false (test y)
  where
    or_false : (b : Bool) → (b || false) ≡ b
    or_false true = refl
    or_false false = refl
any_more test (y ∷ rows) (suc k) d low = elim (cases_Bool (test y)) [
  | inl does ↦ rw does refl
  | inr doesnt ↦ rw doesnt (any_more test rows k d (omega (arith, low)))
]

pub more_any : {A : Type 0} (test : A → Bool) (rows : List A) (k : ℕ) (d : A) → k < length rows
    → list_any test (take (k + 1) rows) ≡ (list_any test (take k rows) || test (get_or rows k d))
more_any test rows k d low = ap (λ n. list_any test (take n rows)) (add-one k) ∙ any_more test rows k d low

pub each_placed : {A K : Type 0} (form : Option K → ℕ → A → Type 0) (key : A → K) (spell : A → List ℕ) (P : A → Type 0)
    → ((before : Option K) (left : ℕ) (x : A) → form before left x → P x)
    → (left : ℕ) (before : Option K) (rows : List A) (k : ℕ) (d : A) → ArePlaced form key spell left before rows → k < length rows → P (get_or rows k d)
each_placed form key spell P says left before [] k d forms low = absurd (omega arith)
each_placed form key spell P says left before (x ∷ rows) zero d forms low = says before _ x forms.0
each_placed form key spell P says left before (x ∷ rows) (suc k) d forms low =
    each_placed form key spell P says left (Some (key x)) rows k d forms.1 (omega (arith, low))
