-- The messages in some slots.
use Rattle.std.proofs.Common.{◌≡◌, ℕ, zero, suc, ◌<◌, true, List, [], ◌∷◌, length, take, drop, get_or, set, Option, Some, None, is_some, refl, ap, sym, ◌∙◌, arith}
use Rattle.std.proofs.lemmas.List.{get_or-set_other}
use Rattle.std.specs.List.{filter_map, cons_option, slice_get}
use Rattle.xk_base.specs.Tables.RowMap.{row_map}
use Rattle.msg_queue.specs.Chains.{times}
use Rattle.msg_queue.proofs.Rings.TimesLemmas.{times_head, absent_head, absent_rest}

-- what these slots have
abbrev pub contents : {A : Type 0} → List (Option A) → List ℕ → List A
contents slots xs = filter_map (row_map slots) xs

-- each of these slots has something
abbrev pub AreUsed : {A : Type 0} → List (Option A) → List ℕ → Type 0
AreUsed slots xs = (slot : ℕ) → 0 < times slot xs → is_some (row_map slots slot) ≡ true

pub used_rest : {A : Type 0} (slots : List (Option A)) (x : ℕ) (xs : List ℕ) → AreUsed slots (x ∷ xs) → AreUsed slots xs
used_rest slots x xs h slot among = h slot (omega arith)

pub used_first : {A : Type 0} (slots : List (Option A)) (x : ℕ) (xs : List ℕ) → AreUsed slots (x ∷ xs) → is_some (row_map slots x) ≡ true
used_first slots x xs h = h x (omega (arith, times_head x xs))

-- what a slot that has something has
pub the_content : {A : Type 0} (o : Option A) → is_some o ≡ true → (a : A) × (o ≡ Some a)
the_content None h = absurd cc
the_content (Some a) h = (a, refl)

pub contents_kept : {A : Type 0} (slots : List (Option A)) (slot : ℕ) (v : Option A) (xs : List ℕ) → times slot xs ≡ 0
    → contents (set slots slot v) xs ≡ contents slots xs
contents_kept slots slot v [] absent = refl
contents_kept slots slot v (x ∷ xs) absent =
    let here : row_map (set slots slot v) x ≡ row_map slots x = get_or-set_other slots slot x v None (λ e. absent_head slot x xs absent (sym e)) in
    ap (λ o. cons_option o (contents (set slots slot v) xs)) here ∙ ap (cons_option (row_map slots x)) (contents_kept slots slot v xs (absent_rest slot x xs absent))

-- one slot for one content
pub contents_cons : {A : Type 0} (slots : List (Option A)) (x : ℕ) (a : A) (xs : List ℕ) → row_map slots x ≡ Some a → contents slots (x ∷ xs) ≡ a ∷ contents slots xs
contents_cons slots x a xs h = ap (λ o. cons_option o (contents slots xs)) h

pub length-contents : {A : Type 0} (slots : List (Option A)) (xs : List ℕ) → AreUsed slots xs → length (contents slots xs) ≡ length xs
length-contents slots [] used = refl
length-contents slots (x ∷ xs) used =
    let here = the_content (row_map slots x) (used_first slots x xs used) in
    ap length (contents_cons slots x here.0 xs here.1) ∙ ap suc (length-contents slots xs (used_rest slots x xs used))

pub take-contents : {A : Type 0} (i : ℕ) (slots : List (Option A)) (xs : List ℕ) → AreUsed slots xs → contents slots (take i xs) ≡ take i (contents slots xs)
take-contents zero slots xs used = refl
take-contents (suc i) slots [] used = refl
take-contents (suc i) slots (x ∷ xs) used =
    let here = the_content (row_map slots x) (used_first slots x xs used) in
    contents_cons slots x here.0 (take i xs) here.1
    ∙ ap (λ ys. here.0 ∷ ys) (take-contents i slots xs (used_rest slots x xs used))
    ∙ sym (ap (take (suc i)) (contents_cons slots x here.0 xs here.1))

pub drop-contents : {A : Type 0} (i : ℕ) (slots : List (Option A)) (xs : List ℕ) → AreUsed slots xs → contents slots (drop i xs) ≡ drop i (contents slots xs)
drop-contents zero slots xs used = refl
drop-contents (suc i) slots [] used = refl
drop-contents (suc i) slots (x ∷ xs) used =
    let here = the_content (row_map slots x) (used_first slots x xs used) in
    drop-contents i slots xs (used_rest slots x xs used)
    ∙ sym (ap (drop (suc i)) (contents_cons slots x here.0 xs here.1))

-- what stands at a place is what the slot at that place has
pub get-contents : {A : Type 0} (i d : ℕ) (slots : List (Option A)) (xs : List ℕ) → AreUsed slots xs → i < length xs
    → slice_get (contents slots xs) i ≡ row_map slots (get_or xs i d)
get-contents i d slots [] used within = absurd (omega arith)
get-contents zero d slots (x ∷ xs) used within =
    let here = the_content (row_map slots x) (used_first slots x xs used) in
    ap (λ ys. slice_get ys 0) (contents_cons slots x here.0 xs here.1) ∙ sym here.1
get-contents (suc i) d slots (x ∷ xs) used within =
    let here = the_content (row_map slots x) (used_first slots x xs used) in
    ap (λ ys. slice_get ys (suc i)) (contents_cons slots x here.0 xs here.1) ∙ get-contents i d slots xs (used_rest slots x xs used) (omega arith)
