-- Rows that were spelled one after the other are read again.
use Rattle.std.proofs.Common.{◌≡◌, ℕ, suc, List, [], ◌∷◌, ◌++◌, length, Option, Some, None, Ok, refl, sym, ap, subst, ◌∙◌, append_assoc}
use Rattle.std.specs.List.{flat_map, AllByRecursion}
use Rattle.std.proofs.lemmas.List.{length-append}
use Rattle.std.proofs.lemmas.List.Concat.{flat_map-cons}
use Rattle.suspend_image.specs.Words.{word, word_bytes}
use Rattle.suspend_image.specs.Spelling.{rows_bytes}
use Rattle.suspend_image.specs.Reading.{Found, word_at, rows_at, items_at}
use Rattle.suspend_image.specs.Forms.{IsWord, ArePlaced}
use Rattle.snapshot_rows.specs.Order.{AreInOrder}
use Rattle.suspend_image.proofs.SpelledAgain.WordAgainLemmas.{then_ok, word_again, word_last}

-- a row is read again where it stands in order and before so many bytes
abbrev pub ReadAgain : {A K : Type 0} → (Option K → List ℕ → Found A) → (A → List ℕ) → (Option K → ℕ → A → Type 0) → Type 0
ReadAgain {A = A} {K = K} row spell form =
    (before : Option K) (x : A) (rest : List ℕ) → form before (length rest) x → row before (spell x ++ rest) ≡ Ok (x, rest)

pub rows_split : {A : Type 0} (spell : A → List ℕ) (x : A) (xs : List A) (rest : List ℕ)
    → flat_map spell (x ∷ xs) ++ rest ≡ spell x ++ (flat_map spell xs ++ rest)
rows_split spell x xs rest = ap (λ (bytes : List ℕ). bytes ++ rest) (flat_map-cons spell x xs) ∙ append_assoc (spell x) (flat_map spell xs) rest

pub rows_again : {A K : Type 0} (row : Option K → List ℕ → Found A) (key : A → K) (spell : A → List ℕ) (form : Option K → ℕ → A → Type 0)
    → ReadAgain row spell form → (before : Option K) (xs : List A) (rest : List ℕ) → ArePlaced form key spell (length rest) before xs
    → rows_at row key (length xs) before (flat_map spell xs ++ rest) ≡ Ok (xs, rest)
unfolding rows_at
rows_again row key spell form again before [] rest forms = refl
rows_again {A = A} row key spell form again before (x ∷ xs) rest forms =
    let first : form before (length (flat_map spell xs ++ rest)) x = subst (λ (left : ℕ). form before left x) (sym (length-append (flat_map spell xs) rest)) forms.0 in
    ap (λ (bytes : List ℕ). rows_at row key (suc (length xs)) before bytes) (rows_split spell x xs rest)
    ∙ then_ok _ _ _ _ (again before x (flat_map spell xs ++ rest) first)
    (then_ok _ _ _ _ (rows_again row key spell form again (Some (key x)) xs rest forms.1) refl)

-- where a form doesn't depend on the place
pub placed : {A K : Type 0} (form : Option K → A → Type 0) (key : A → K) (spell : A → List ℕ) (left : ℕ) (before : Option K) (xs : List A)
    → AreInOrder form key before xs → ArePlaced (λ before left x. form before x) key spell left before xs
placed form key spell left before [] forms = tt
placed form key spell left before (x ∷ xs) forms = (forms.0, placed form key spell left (Some (key x)) xs forms.1)

-- where it doesn't depend on the order either
pub items_placed : {A : Type 0} (form : A → Type 0) (spell : A → List ℕ) (left : ℕ) (before : Option ℕ) (xs : List A)
    → AllByRecursion form xs → ArePlaced (λ before left x. form x) (λ x. 0) spell left before xs
items_placed form spell left before [] forms = tt
items_placed form spell left before (x ∷ xs) forms = (forms.0, items_placed form spell left (Some 0) xs forms.1)

pub items_again : {A : Type 0} (item : List ℕ → Found A) (spell : A → List ℕ) (form : A → Type 0)
    → ((x : A) (rest : List ℕ) → form x → item (spell x ++ rest) ≡ Ok (x, rest)) → (xs : List A) (rest : List ℕ) → AllByRecursion form xs
    → items_at item (length xs) (flat_map spell xs ++ rest) ≡ Ok (xs, rest)
items_again {A = A} item spell form again xs rest forms =
    rows_again (λ (before : Option ℕ). item) (λ (x : A). 0) spell (λ (before : Option ℕ) (left : ℕ). form) (λ before x rest is. again x rest is) None xs rest
    (items_placed form spell (length rest) None xs forms)

-- words
pub words_again : (numbers rest : List ℕ) → AllByRecursion IsWord numbers → items_at word_at (length numbers) (word_bytes numbers ++ rest) ≡ Ok (numbers, rest)
unfolding word_bytes
words_again numbers rest forms = items_again word_at word IsWord word_again numbers rest forms

-- the number of rows, before them
pub many_read : {A : Type 0} (spell : A → List ℕ) (xs : List A) (rest : List ℕ) → IsWord (length xs)
    → word_at (rows_bytes spell xs ++ rest) ≡ Ok (length xs, flat_map spell xs ++ rest)
unfolding rows_bytes
many_read spell xs rest few =
    ap word_at (append_assoc (word_bytes (length xs ∷ [])) (flat_map spell xs) rest) ∙ word_last (length xs) (flat_map spell xs ++ rest) few

-- at the end
pub many_last : {A : Type 0} (spell : A → List ℕ) (xs : List A) → IsWord (length xs) → word_at (rows_bytes spell xs) ≡ Ok (length xs, flat_map spell xs)
unfolding rows_bytes
many_last spell xs few = word_last (length xs) (flat_map spell xs) few
