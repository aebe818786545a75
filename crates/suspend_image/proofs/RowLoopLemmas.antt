-- Rows are read one after the other, as a loop does.
use Rattle.std.proofs.Common.{◌≡◌, ℕ, zero, suc, ◌-◌, ◌+◌, ◌≤◌, ◌<◌, List, [], ◌∷◌, ◌++◌, Option, Some, None, Ok, Err, refl, sym, ap, ◌∙◌, append_assoc, arith}
use Rattle.std.proofs.lemmas.List.{append-nil}
use Rattle.suspend_image.specs.declared.reading.broken.Broken.{Broken}
use Rattle.suspend_image.specs.declared.reading.broken.Broken.TheVariants as broken
use Rattle.suspend_image.specs.Reading.{Found, ◌>>=◌, Fails, rows_at, items_at}

-- what was read before, and what is still read
abbrev pub with_front : {A : Type 0} → List A → Found (List A) → Found (List A)
with_front front read = read >>= λ x. Ok (front ++ x.0, x.1)

regroup : {A : Type 0} (front : List A) (x : A) (read : Found (List A))
    → with_front front (read >>= λ y. Ok (x ∷ y.0, y.1)) ≡ with_front (front ++ x ∷ []) read
regroup {A = A} front x (Ok y) = ap (λ (xs : List A). Ok (xs, y.1)) (simp append_assoc)
regroup front x (Err left) = refl

-- one more row was read
pub rows_go_on : {A K : Type 0} (row : Option K → List ℕ → Found A) (key : A → K) (front : List A) (count i : ℕ) (before : Option K)
    (bytes : List ℕ) (x : A) (after : List ℕ) (total : Found (List A))
    → i < count → row before bytes ≡ Ok (x, after) → with_front front (rows_at row key (count - i) before bytes) ≡ total
    → with_front (front ++ x ∷ []) (rows_at row key (count - (i + 1)) (Some (key x)) after) ≡ total
unfolding rows_at
rows_go_on row key front count i before bytes x after total lt h so_far =
    let k : count - i ≡ suc (count - (i + 1)) = omega arith in
    let one : with_front front (rows_at row key (count - i) before bytes) ≡ with_front (front ++ x ∷ []) (rows_at row key (count - (i + 1)) (Some (key x)) after) =
    rw (k, h) (regroup front x (rows_at row key (count - (i + 1)) (Some (key x)) after)) in
    sym one ∙ so_far

-- a row can't be read
pub rows_end : {A K : Type 0} (e : Broken) (row : Option K → List ℕ → Found A) (key : A → K) (front : List A) (count i : ℕ) (before : Option K)
    (bytes : List ℕ) (total : Found (List A))
    → i < count → Fails e (row before bytes) → with_front front (rows_at row key (count - i) before bytes) ≡ total → Fails e total
unfolding rows_at
rows_end broken.NoMemory row key front count i before bytes total lt h so_far = tt
rows_end (broken.Form left) row key front count i before bytes total lt h so_far =
    let k : count - i ≡ suc (count - (i + 1)) = omega arith in
    let one : with_front front (rows_at row key (count - i) before bytes) ≡ Err left = rw (k, h) refl in
    sym so_far ∙ one

-- all rows were read
pub rows_done : {A K : Type 0} (row : Option K → List ℕ → Found A) (key : A → K) (front : List A) (count i : ℕ) (before : Option K)
    (bytes : List ℕ) (total : Found (List A))
    → count ≤ i → with_front front (rows_at row key (count - i) before bytes) ≡ total → total ≡ Ok (front, bytes)
unfolding rows_at
rows_done {A = A} row key front count i before bytes total le so_far =
    let k : count - i ≡ 0 = omega arith in
    let one : with_front front (rows_at row key (count - i) before bytes) ≡ Ok (front, bytes) = rw k (ap (λ (xs : List A). Ok (xs, bytes)) (append-nil front)) in
    sym so_far ∙ one

-- items don't depend on what stands before them
items_same : {A : Type 0} (item : List ℕ → Found A) (n : ℕ) (before : Option ℕ) (bytes : List ℕ)
    → rows_at (λ (b : Option ℕ). item) (λ x. 0) n before bytes ≡ items_at item n bytes
unfolding rows_at
items_same item zero before bytes = refl
items_same item (suc n) before bytes = refl

-- one more item was read
pub items_go_on : {A : Type 0} (item : List ℕ → Found A) (front : List A) (count i : ℕ) (bytes : List ℕ) (x : A) (after : List ℕ) (total : Found (List A))
    → i < count → item bytes ≡ Ok (x, after) → with_front front (items_at item (count - i) bytes) ≡ total
    → with_front (front ++ x ∷ []) (items_at item (count - (i + 1)) after) ≡ total
items_go_on {A = A} item front count i bytes x after total lt h so_far =
    ap (with_front (front ++ x ∷ [])) (sym (items_same item (count - (i + 1)) (Some 0) after))
    ∙ rows_go_on (λ (b : Option ℕ). item) (λ (y : A). 0) front count i None bytes x after total lt h so_far

pub items_end : {A : Type 0} (e : Broken) (item : List ℕ → Found A) (front : List A) (count i : ℕ) (bytes : List ℕ) (total : Found (List A))
    → i < count → Fails e (item bytes) → with_front front (items_at item (count - i) bytes) ≡ total → Fails e total
items_end {A = A} e item front count i bytes total lt h so_far =
    rows_end e (λ (b : Option ℕ). item) (λ (y : A). 0) front count i None bytes total lt h so_far

pub items_done : {A : Type 0} (item : List ℕ → Found A) (front : List A) (count i : ℕ) (bytes : List ℕ) (total : Found (List A))
    → count ≤ i → with_front front (items_at item (count - i) bytes) ≡ total → total ≡ Ok (front, bytes)
items_done {A = A} item front count i bytes total le so_far =
    rows_done (λ (b : Option ℕ). item) (λ (y : A). 0) front count i None bytes total le so_far
