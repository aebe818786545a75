-- Lists that stand in one order, with each thing equally often, are one list, where no two things of one have one key.
use Rattle.std.proofs.Common.{◌≡◌, ℕ, zero, suc, ◌+◌, ◌≤◌, ◌<◌, Bool, true, cond, List, [], ◌∷◌, length, get_or, refl, sym, ap, subst, ◌∙◌, arith, inl, inr}
use Rattle.std.specs.Cmp.Lexicographic.{pointwise}
use Rattle.std.specs.List.{count_by, AllByRecursion}
use Rattle.std.proofs.lemmas.Bool.{cases_Bool, and_parts}
use Rattle.snapshot_rows.proofs.Keys.CountLemmas.{count_first, count_yes, count_no}

-- what passes one test passes another
pub count_some : {A : Type 0} (one other : A → Bool) → ((x : A) → one x ≡ true → other x ≡ true) → (xs : List A) → 1 ≤ count_by one xs → 1 ≤ count_by other xs
count_some one other next [] some = absurd (omega arith)
count_some one other next (x ∷ xs) some = elim (cases_Bool (one x)) [
  | inl is ↦ (let own = count_yes other x xs (next x is) in omega arith)
  | inr isnt ↦ (
      let rest = count_no one x xs isnt in
      let more = count_some one other next xs (omega arith) in
      let first = count_first other x xs in
      omega arith
      )
]

pub count_less : {A : Type 0} (one other : A → Bool) → ((x : A) → one x ≡ true → other x ≡ true) → (xs : List A) → count_by one xs ≤ count_by other xs
count_less one other next [] = omega arith
count_less one other next (x ∷ xs) =
    let few = count_less one other next xs in
    elim (cases_Bool (one x)) [
      | inl is ↦ (let own = count_yes one x xs is in let wide = count_yes other x xs (next x is) in omega arith)
      | inr isnt ↦ (let rest = count_no one x xs isnt in let first = count_first other x xs in omega arith)
    ]

-- one is counted that has what all have
pub counted_has : {A : Type 0} (test : A → Bool) (P : A → Type 0) (xs : List A) → 1 ≤ count_by test xs → AllByRecursion P xs → (x : A) × (test x ≡ true) × P x
counted_has test P [] some all = absurd (omega arith)
counted_has test P (x ∷ xs) some all = elim (cases_Bool (test x)) [
  | inl is ↦ (x, is, all.0)
  | inr isnt ↦ (let rest = count_no test x xs isnt in counted_has test P xs (omega arith) all.1)
]

module _ {A : Type 0} (eq : A → A → Bool) (is : (x y : A) → eq x y ≡ true → x ≡ y) (own : (x : A) → eq x x ≡ true)
    (low : A → A → Type 0) (low_own : (x : A) → low x x) (key : A → A → Bool) (key_own : (x : A) → key x x ≡ true)
    (anti : (x y : A) → low x y → low y x → key x y ≡ true) where
  -- each stands before those behind it
  abbrev pub InOrder : List A → Type 0
  InOrder [] = Unit {0}
  InOrder (x ∷ xs) = AllByRecursion (λ y. low x y) xs × InOrder xs

  all_low : (x : A) (xs : List A) → ((j : ℕ) (d : A) → j < length xs → low x (get_or xs j d)) → AllByRecursion (λ y. low x y) xs
  all_low x [] each = tt
  all_low x (y ∷ xs) each = (each zero y (omega arith), all_low x xs (λ j d within. each (suc j) d (omega (arith, within))))

  pub in_order : (xs : List A) → ((i j : ℕ) (d : A) → i ≤ j → j < length xs → low (get_or xs i d) (get_or xs j d)) → InOrder xs
  in_order [] each = tt
  in_order (x ∷ xs) each = (
    all_low x xs (λ j d within. each zero (suc j) d (omega arith) (omega (arith, within))),
    in_order xs (λ i j d below within. each (suc i) (suc j) d (omega (arith, below)) (omega (arith, within))),
  )

  abbrev pub AreSame : List A → List A → Type 0
  AreSame xs ys = (x : A) → count_by (eq x) xs ≡ count_by (eq x) ys

  abbrev pub AreOfKeys : List A → Type 0
  AreOfKeys ys = (x : A) → count_by (key x) ys ≤ 1

  same_first : (x : A) (xs : List A) (y : A) (ys : List A) → InOrder (x ∷ xs) → InOrder (y ∷ ys) → AreSame (x ∷ xs) (y ∷ ys) → AreOfKeys (y ∷ ys) → x ≡ y
  same_first x xs y ys ord_x ord_y same few = elim (cases_Bool (eq x y)) [
    | inl equal ↦ is x y equal
    | inr differ ↦ (
        let own_x = count_yes (eq x) x xs (own x) in
        let own_y = count_yes (eq y) y ys (own y) in
        let e_x = same x in
        let e_y = same y in
        let in_y = counted_has (eq x) (λ z. low y z) (y ∷ ys) (omega arith) (low_own y, ord_y.0) in
        let in_x = counted_has (eq y) (λ z. low x z) (x ∷ xs) (omega arith) (low_own x, ord_x.0) in
        let y_x = subst (λ (z : A). low y z) (sym (is x in_y.0 in_y.1)) in_y.2 in
        let x_y = subst (λ (z : A). low x z) (sym (is y in_x.0 in_x.1)) in_x.2 in
        let one_key = anti y x y_x x_y in
        let behind = count_no (eq x) y ys differ in
        let more = count_some (eq x) (key y) (λ z at. subst (λ (w : A). key y w ≡ true) (is x z at) one_key) ys (omega arith) in
        let first = count_yes (key y) y ys (key_own y) in
        let most = few y in
        absurd (omega arith)
        )
  ]

  pub same_list : (xs ys : List A) → InOrder xs → InOrder ys → AreSame xs ys → AreOfKeys ys → xs ≡ ys
  same_list [] [] ord_x ord_y same few = refl
  same_list [] (y ∷ ys) ord_x ord_y same few = (let one = count_yes (eq y) y ys (own y) in let e = same y in absurd (omega arith))
  same_list (x ∷ xs) [] ord_x ord_y same few = (let one = count_yes (eq x) x xs (own x) in let e = same x in absurd (omega arith))
  same_list (x ∷ xs) (y ∷ ys) ord_x ord_y same few =
      let first = same_first x xs y ys ord_x ord_y same few in
      let rest : xs ≡ ys = same_list xs ys ord_x.1 ord_y.1 (λ z. (
      let e = same z in
      let one = count_first (eq z) x xs in
      let two = count_first (eq z) y ys ∙ ap (λ (w : A). cond (eq z w) 1 0 + count_by (eq z) ys) (sym first) in
      omega arith
      )) (λ z. (let most = few z in let one = count_first (key z) y ys in omega arith)) in
      ap (λ (z : A). z ∷ xs) first ∙ ap (λ (zs : List A). y ∷ zs) rest

  -- ---- compared place by place

  pub pointwise_same : (xs ys : List A) → pointwise eq xs ys ≡ true → xs ≡ ys
  pointwise_same [] [] e = refl
  pointwise_same [] (y ∷ ys) e = absurd cc
  pointwise_same (x ∷ xs) [] e = absurd cc
  pointwise_same (x ∷ xs) (y ∷ ys) e =
      let both = and_parts (eq x y) (pointwise eq xs ys) e in
      ap (λ (z : A). z ∷ xs) (is x y both.0) ∙ ap (λ (zs : List A). y ∷ zs) (pointwise_same xs ys both.1)

  pub pointwise_own : (xs : List A) → pointwise eq xs xs ≡ true
  pointwise_own [] = refl
  pointwise_own (x ∷ xs) = rw (own x, pointwise_own xs) refl
