-- Rows by their keys: what the row of a key is, where keys stand in order.
use Rattle.std.proofs.Common.{◌≡◌, ℕ, zero, suc, ◌+◌, ◌≤◌, ◌<◌, Bool, true, false, cond, eqb, List, [], ◌∷◌, get_or, Option, Some, None, refl, sym, ap, subst, ◌∙◌, arith, inl, inr, ◌⊎◌}
use Rattle.std.specs.Prelude.{◌&&◌, ◌||◌, is_some}
use Rattle.std.specs.List.{find, list_any, list_all}
use Rattle.std.specs.Option.{option_map}
use Rattle.std.proofs.lemmas.Bool.{cases_Bool, eqb-true, eq-eqb, eqb-false, and_parts}
use Rattle.snapshot_rows.specs.Order.{least_first, least_second, AreInOrder}

abbrev pub some : {A : Type 0} → A → Option A
some x = Some x

pub some_same : {A : Type 0} (x y : A) → some x ≡ some y → x ≡ y
some_same x y e = cc

pub mapped : {A B : Type 0} (f : A → B) (o : Option A) (y : B) → option_map f o ≡ Some y → (x : A) × (o ≡ Some x) × (f x ≡ y)
mapped f None y e = absurd cc
mapped f (Some x) y e = (x, refl, some_same (f x) y e)

-- ---- whatever the test

-- one was found exactly where there is one
pub found_any : {A B : Type 0} (f : A → B) (test : A → Bool) (rows : List A) → is_some (option_map f (find test rows)) ≡ list_any test rows
found_any f test [] = refl
found_any f test (x ∷ rows) =
    elim (cases_Bool (test x)) [
      | inl does ↦ rw does refl
      | inr doesnt ↦ rw doesnt (found_any f test rows)
    ]

-- what was found passes each test that all rows pass
pub found_passes : {A : Type 0} (test good : A → Bool) (rows : List A) (x : A) → list_all good rows ≡ true → find test rows ≡ Some x → good x ≡ true
found_passes test good [] x all e = absurd cc
found_passes {A = A} test good (y ∷ rows) x all e =
    let both = and_parts (good y) (list_all good rows) all in
    elim (cases_Bool (test y)) [
      | inl does ↦ (
          let here : some y ≡ some x = sym (ap (λ (b : Bool). cond b (some y) (find test rows)) does) ∙ e in
          subst (λ (z : A). good z ≡ true) (some_same y x here) both.0
          )
      | inr doesnt ↦ found_passes test good rows x both.1 (sym (ap (λ (b : Bool). cond b (some y) (find test rows)) doesnt) ∙ e)
    ]

pub either : (a b : Bool) → a ≡ false → (a || b) ≡ true → b ≡ true
either true b is e = absurd cc
either false b is e = e

pub any_where_found : {A : Type 0} (test good : A → Bool) (rows : List A) (x : A) → find test rows ≡ Some x → good x ≡ true → list_any (λ y. test y && good y) rows ≡ true
any_where_found test good [] x e is = absurd cc
any_where_found {A = A} test good (y ∷ rows) x e is =
    elim (cases_Bool (test y)) [
      | inl does ↦ (
          let here : some y ≡ some x = sym (ap (λ (b : Bool). cond b (some y) (find test rows)) does) ∙ e in
          let passes = subst (λ (z : A). good z ≡ true) (sym (some_same y x here)) is in
          rw (does, passes) refl
          )
      | inr doesnt ↦ rw doesnt (any_where_found test good rows x (sym (ap (λ (b : Bool). cond b (some y) (find test rows)) doesnt) ∙ e) is)
    ]

pub any_of_found : {A : Type 0} (test good : A → Bool) (rows : List A) (x : A) → find test rows ≡ Some x → good x ≡ true → list_any good rows ≡ true
any_of_found test good [] x e is = absurd cc
any_of_found {A = A} test good (y ∷ rows) x e is =
    elim (cases_Bool (test y)) [
      | inl does ↦ (
          let here : some y ≡ some x = sym (ap (λ (b : Bool). cond b (some y) (find test rows)) does) ∙ e in
          let passes = subst (λ (z : A). good z ≡ true) (sym (some_same y x here)) is in
          rw passes refl
          )
      | inr doesnt ↦ (
          let rest = any_of_found test good rows x (sym (ap (λ (b : Bool). cond b (some y) (find test rows)) doesnt) ∙ e) is in
          elim (cases_Bool (good y)) [
            | inl first ↦ rw first refl
            | inr other ↦ rw (other, rest) refl
          ]
          )
    ]

-- ---- rows by their places

pub passes_at : {A : Type 0} (good : A → Bool) (d : A) (rows : List A) (i : ℕ) → list_all good rows ≡ true → good d ≡ true → good (get_or rows i d) ≡ true
passes_at good d [] i all default = default
passes_at good d (x ∷ rows) zero all default = (and_parts (good x) (list_all good rows) all).0
passes_at good d (x ∷ rows) (suc i) all default = passes_at good d rows i (and_parts (good x) (list_all good rows) all).1 default

pub all_from_places : {A : Type 0} (good : A → Bool) (d : A) (rows : List A) → ((i : ℕ) → good (get_or rows i d) ≡ true) → list_all good rows ≡ true
all_from_places good d [] each = refl
all_from_places good d (x ∷ rows) each = rw (each 0, all_from_places good d rows (λ i. each (suc i))) refl

-- ---- in order of their keys

-- A key that a test looks for, and an order of keys; the form of a row says that its key is behind the one before.
module _ {A K : Type 0} (key : A → K) (test : K → A → Bool) (less : K → K → Type 0) (form : Option K → A → Type 0)
    (behind : (before : K) (x : A) → form (Some before) x → less before (key x)) (is_key : (k : K) (x : A) → test k x ≡ true → key x ≡ k)
    (own : (x : A) → test (key x) x ≡ true) (apart : (k : K) → less k k → ⊥) (through : (a b c : K) → less a b → less b c → less a c) where
  -- what stands behind a key has a greater one
  pub key_above : (before k : K) (rows : List A) (x : A) → AreInOrder form key (Some before) rows → find (test k) rows ≡ Some x → less before k
  key_above before k [] x forms e = absurd cc
  key_above before k (y ∷ rows) x forms e =
      let low = behind before y forms.0 in
      elim (cases_Bool (test k y)) [
        | inl does ↦ subst (λ (z : K). less before z) (is_key k y does) low
        | inr doesnt ↦ (
            let rest : find (test k) rows ≡ Some x = sym (ap (λ (b : Bool). cond b (some y) (find (test k) rows)) doesnt) ∙ e in
            through before (key y) k low (key_above (key y) k rows x forms.1 rest)
            )
      ]

  -- a row is the one of its key, and stands there behind another one too
  pub found_first : (y : A) (rows : List A) → find (test (key y)) (y ∷ rows) ≡ Some y
  found_first y rows = ap (λ (b : Bool). cond b (some y) (find (test (key y)) rows)) (own y)

  pub found_behind : (k : K) (y : A) (rows : List A) (x : A) → AreInOrder form key (Some (key y)) rows → find (test k) rows ≡ Some x → find (test k) (y ∷ rows) ≡ Some x
  found_behind k y rows x forms e =
      elim (cases_Bool (test k y)) [
        | inl does ↦ absurd (apart k (subst (λ (z : K). less z k) (is_key k y does) (key_above (key y) k rows x forms e)))
        | inr doesnt ↦ ap (λ (b : Bool). cond b (some y) (find (test k) rows)) doesnt ∙ e
      ]

  -- where the row of each key passes a test, all rows do
  pub all_pass : (good : A → Bool) (before : Option K) (rows : List A) → AreInOrder form key before rows
      → ((k : K) (x : A) → find (test k) rows ≡ Some x → good x ≡ true) → list_all good rows ≡ true
  all_pass good before [] forms each = refl
  all_pass good before (y ∷ rows) forms each =
      let others = all_pass good (Some (key y)) rows forms.1 (λ k x e. each k x (found_behind k y rows x forms.1 e)) in
      rw (each (key y) y (found_first y rows), others) refl

  -- some row of a key passes a test exactly where the row of that key does
  pub any_found : (good : A → Bool) (k : K) (before : Option K) (rows : List A) → AreInOrder form key before rows → list_any (λ x. test k x && good x) rows ≡ true
      → (x : A) × (find (test k) rows ≡ Some x) × (good x ≡ true)
  any_found good k before [] forms e = absurd cc
  any_found good k before (y ∷ rows) forms e =
      elim (cases_Bool (test k y && good y)) [
        | inl does ↦ (
            let both = and_parts (test k y) (good y) does in
            (y, ap (λ (b : Bool). cond b (some y) (find (test k) rows)) both.0, both.1)
            )
        | inr doesnt ↦ (
            let rest = any_found good k (Some (key y)) rows forms.1 (either (test k y && good y) _ doesnt e) in
            (rest.0, found_behind k y rows rest.0 forms.1 rest.1, rest.2)
            )
      ]

  -- where some row passes a test, one is there by its own key
  pub any_own : (good : A → Bool) (before : Option K) (rows : List A) → AreInOrder form key before rows → list_any good rows ≡ true
      → (x : A) × (find (test (key x)) rows ≡ Some x) × (good x ≡ true)
  any_own good before [] forms e = absurd cc
  any_own good before (y ∷ rows) forms e =
      elim (cases_Bool (good y)) [
        | inl does ↦ (y, found_first y rows, does)
        | inr doesnt ↦ (
            let rest = any_own good (Some (key y)) rows forms.1 (either (good y) _ doesnt e) in
            (rest.0, found_behind (key rest.0) y rows rest.0 forms.1 rest.1, rest.2)
            )
      ]

-- ---- keys of one number and of two

pub number_is : {A : Type 0} (key : A → ℕ) (k : ℕ) (x : A) → eqb (key x) k ≡ true → key x ≡ k
number_is key k x same = eqb-true (key x) k same

pub number_own : {A : Type 0} (key : A → ℕ) (x : A) → eqb (key x) (key x) ≡ true
number_own key x = eq-eqb (key x) (key x) refl

-- the first number is lower, or the same and the second is lower
abbrev pub Less : ℕ × ℕ → ℕ × ℕ → Type 0
Less a b = (a.0 < b.0) ⊎ ((a.0 ≡ b.0) × (a.1 < b.1))

pub pair_is : {A : Type 0} (key : A → ℕ × ℕ) (k : ℕ × ℕ) (x : A) → (eqb (key x).0 k.0 && eqb (key x).1 k.1) ≡ true → key x ≡ k
pair_is key k x same =
    let both = and_parts (eqb (key x).0 k.0) (eqb (key x).1 k.1) same in
    let first = eqb-true (key x).0 k.0 both.0 in
    let second = eqb-true (key x).1 k.1 both.1 in
    ap (λ (n : ℕ). (n, (key x).1)) first ∙ ap (λ (n : ℕ). (k.0, n)) second

pub pair_own : {A : Type 0} (key : A → ℕ × ℕ) (x : A) → (eqb (key x).0 (key x).0 && eqb (key x).1 (key x).1) ≡ true
pair_own key x = rw (eq-eqb (key x).0 (key x).0 refl, eq-eqb (key x).1 (key x).1 refl) refl

pub less_apart : (k : ℕ × ℕ) → Less k k → ⊥
less_apart k (inl low) = omega arith
less_apart k (inr same) = let low = same.1 in omega arith

pub less_through : (a b c : ℕ × ℕ) → Less a b → Less b c → Less a c
less_through a b c (inl p) (inl q) = inl (omega arith)
less_through a b c (inl p) (inr q) = let same = q.0 in inl (omega arith)
less_through a b c (inr p) (inl q) = let same = p.0 in inl (omega arith)
less_through a b c (inr p) (inr q) = let low = p.1 in let next = q.1 in inr (p.0 ∙ q.0, omega arith)

pub less_behind : (least_one least_two : ℕ) (before x : ℕ × ℕ) → least_first least_one (Some before) ≤ x.0 → least_second least_two (Some before) x.0 ≤ x.1 → Less before x
less_behind least_one least_two before x first second =
    elim (cases_Bool (eqb before.0 x.0)) [
      | inl same ↦ (
          let next : before.1 + 1 ≤ x.1 = subst (λ (b : Bool). cond b (before.1 + 1) least_two ≤ x.1) same second in
          inr (eqb-true before.0 x.0 same, omega arith)
          )
      | inr other ↦ (let differ = eqb-false before.0 x.0 other in inl (omega (arith, differ)))
    ]
