-- One element more of a list passes a test: where it stands among those that pass.
use Rattle.std.proofs.Common.{◌≡◌, ℕ, zero, suc, ◌≤◌, ◌<◌, Bool, true, false, cond, List, [], ◌∷◌, ◌++◌, length, map, take, drop, Some, refl, sym, ap, subst, ◌∙◌, arith, inl, inr}
use Rattle.std.specs.Prelude.{◌≢◌, slice_get}
use Rattle.std.specs.List.{filter, insert}
use Rattle.std.proofs.lemmas.Bool.{cases_Bool}
use Rattle.std.specs.List.{drop-map}
use Rattle.std.proofs.lemmas.List.{length-take-le, map-append, take-map}
use Rattle.std.proofs.lemmas.List.Edits.{insert_end}
use Rattle.std.proofs.lemmas.List.Sums.{count_by-le-length, length-filter}
use Rattle.std.proofs.lemmas.Option.{none-some, same_Some, slice_get_within}

-- two tests that agree at each place keep the same elements
pub same_kept : {A : Type 0} (p q : A → Bool) (xs : List A) → ((k : ℕ) (x : A) → slice_get xs k ≡ Some x → q x ≡ p x) → filter q xs ≡ filter p xs
same_kept p q [] each = refl
same_kept p q (x ∷ xs) each =
    let here : q x ≡ p x = each zero x refl in
    let rest = same_kept p q xs (λ k y e. each (suc k) y e) in
    λ i. cond (here i) (x ∷ rest i) (rest i)

-- WHERE the k-th passes a second test besides, it stands behind those before it that passed the first
pub kept_more : {A : Type 0} (p q : A → Bool) (xs : List A) (k : ℕ) (x : A) → slice_get xs k ≡ Some x → p x ≡ false → q x ≡ true
    → ((j : ℕ) (y : A) → slice_get xs j ≡ Some y → j ≢ k → q y ≡ p y) → filter q xs ≡ insert (filter p xs) (length (filter p (take k xs))) x
kept_more p q [] k x at fails passes others = absurd (none-some x at)
kept_more p q (y ∷ ys) zero x at fails passes others =
    let own : y ≡ x = same_Some y x at in
    let q_own : q y ≡ true = ap q own ∙ passes in
    let p_own : p y ≡ false = ap p own ∙ fails in
    let rest : filter q ys ≡ filter p ys = same_kept p q ys (λ j z e. others (suc j) z e (λ same. absurd (omega arith))) in
    ap (λ b. cond b (y ∷ filter q ys) (filter q ys)) q_own
    ∙ ((λ i. own i ∷ rest i) ∙ ap (λ b. x ∷ cond b (y ∷ filter p ys) (filter p ys)) (sym p_own))
kept_more p q (y ∷ ys) (suc k) x at fails passes others =
    let same : q y ≡ p y = others zero y refl (λ e. absurd (omega arith)) in
    let rest = kept_more p q ys k x at fails passes (λ j z e differ. others (suc j) z e (λ both. differ (omega (arith, both)))) in
    elim (cases_Bool (p y)) [
      | inl does ↦ rw (same ∙ does, does) (ap (λ (zs : List _). y ∷ zs) rest)
      | inr doesnt ↦ rw (same ∙ doesnt, doesnt) rest
    ]

-- none passes from the k-th on
pub none_behind : {A : Type 0} (p : A → Bool) (xs : List A) (k : ℕ) → ((j : ℕ) (y : A) → slice_get xs j ≡ Some y → k ≤ j → p y ≡ false)
    → filter p (take k xs) ≡ filter p xs
none_behind p [] zero fails = refl
none_behind p [] (suc k) fails = refl
none_behind p (y ∷ ys) zero fails =
    let here : p y ≡ false = fails zero y refl (omega arith) in
    let rest : filter p (take zero ys) ≡ filter p ys = none_behind p ys zero (λ j z e low. fails (suc j) z e (omega arith)) in
    rest ∙ ap (λ b. cond b (y ∷ filter p ys) (filter p ys)) (sym here)
none_behind p (y ∷ ys) (suc k) fails =
    let rest = none_behind p ys k (λ j z e low. fails (suc j) z e (omega (arith, low))) in
    ap (λ (zs : List _). cond (p y) (y ∷ zs) zs) rest

-- all pass before the k-th
pub all_before : {A : Type 0} (p : A → Bool) (xs : List A) (k : ℕ) → ((j : ℕ) (y : A) → slice_get xs j ≡ Some y → j < k → p y ≡ true)
    → filter p (take k xs) ≡ take k xs
all_before p [] zero pass = refl
all_before p [] (suc k) pass = refl
all_before p (y ∷ ys) zero pass = refl
all_before p (y ∷ ys) (suc k) pass =
    let here : p y ≡ true = pass zero y refl (omega arith) in
    let rest = all_before p ys k (λ j z e low. pass (suc j) z e (omega (arith, low))) in
    ap (λ b. cond b (y ∷ filter p (take k ys)) (filter p (take k ys))) here ∙ ap (λ (zs : List _). y ∷ zs) rest

-- so the new one stands at the end where none passes behind it, and at its own place where all pass before it
pub kept_last : {A : Type 0} (p q : A → Bool) (xs : List A) (k : ℕ) (x : A) → slice_get xs k ≡ Some x → p x ≡ false → q x ≡ true
    → ((j : ℕ) (y : A) → slice_get xs j ≡ Some y → j ≢ k → q y ≡ p y) → ((j : ℕ) (y : A) → slice_get xs j ≡ Some y → k ≤ j → p y ≡ false)
    → filter q xs ≡ filter p xs ++ x ∷ []
kept_last p q xs k x at fails passes others behind =
    kept_more p q xs k x at fails passes others ∙ (ap (λ (zs : List _). insert (filter p xs) (length zs) x) (none_behind p xs k behind)
    ∙ insert_end (filter p xs) x)

pub kept_at : {A : Type 0} (p q : A → Bool) (xs : List A) (k : ℕ) (x : A) → slice_get xs k ≡ Some x → p x ≡ false → q x ≡ true
    → ((j : ℕ) (y : A) → slice_get xs j ≡ Some y → j ≢ k → q y ≡ p y) → ((j : ℕ) (y : A) → slice_get xs j ≡ Some y → j < k → p y ≡ true)
    → filter q xs ≡ insert (filter p xs) k x
kept_at p q xs k x at fails passes others before =
    let low : k < length xs = slice_get_within xs k x at in
    let long : length (take k xs) ≡ k = length-take-le k xs (omega (arith, low)) in
    kept_more p q xs k x at fails passes others ∙ ap (λ (n : ℕ). insert (filter p xs) n x) (ap (λ (zs : List _). length zs) (all_before p xs k before) ∙ long)

pub filter_fewer : {A : Type 0} (p : A → Bool) (xs : List A) → length (filter p xs) ≤ length xs
filter_fewer p xs = let count = length-filter p xs in let most = count_by-le-length p xs in omega (arith, count, most)

-- so many pass before it
pub many_before : {A : Type 0} (p : A → Bool) (xs : List A) (k : ℕ) → k ≤ length xs → ((j : ℕ) (y : A) → slice_get xs j ≡ Some y → j < k → p y ≡ true)
    → k ≤ length (filter p xs)
many_before p xs zero low pass = omega arith
many_before p [] (suc k) low pass = absurd (omega (arith, low))
many_before p (y ∷ ys) (suc k) low pass =
    let here : p y ≡ true = pass zero y refl (omega arith) in
    let rest = many_before p ys k (omega (arith, low)) (λ j z e less. pass (suc j) z e (omega (arith, less))) in
    subst (λ b. suc k ≤ length (cond b (y ∷ filter p ys) (filter p ys))) (sym here) (omega (arith, rest))

-- fewer pass than there are where one fails
pub few_kept : {A : Type 0} (p : A → Bool) (xs : List A) (k : ℕ) (x : A) → slice_get xs k ≡ Some x → p x ≡ false → length (filter p xs) < length xs
few_kept p [] k x at fails = absurd (none-some x at)
few_kept p (y ∷ ys) zero x at fails =
    let own : p y ≡ false = ap p (same_Some y x at) ∙ fails in
    let most = filter_fewer p ys in
    subst (λ b. length (cond b (y ∷ filter p ys) (filter p ys)) < suc (length ys)) (sym own) (omega (arith, most))
few_kept p (y ∷ ys) (suc k) x at fails =
    let rest = few_kept p ys k x at fails in
    elim (cases_Bool (p y)) [
      | inl does ↦ subst (λ b. length (cond b (y ∷ filter p ys) (filter p ys)) < suc (length ys)) (sym does) (omega (arith, rest))
      | inr doesnt ↦ subst (λ b. length (cond b (y ∷ filter p ys) (filter p ys)) < suc (length ys)) (sym doesnt) (omega (arith, rest))
    ]

pub insert_mapped : {A B : Type 0} (f : A → B) (xs : List A) (k : ℕ) (x : A) → map f (insert xs k x) ≡ insert (map f xs) k (f x)
insert_mapped f xs k x =
    map-append f (take k xs) (x ∷ drop k xs)
    ∙ (λ i. sym (take-map f k xs) i ++ f x ∷ sym (drop-map f k xs) i)
