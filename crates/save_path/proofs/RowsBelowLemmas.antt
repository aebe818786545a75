-- Rows in the order of their numbers, one number more at a time.
use Rattle.std.proofs.Common.{◌≡◌, ℕ, zero, suc, ◌+◌, ◌-◌, ◌≤◌, ◌<◌, List, [], ◌∷◌, ◌++◌, length, Option, Some, None, refl, sym, ap, ◌∙◌, append-nil, arith}
use Rattle.std.specs.Prelude.{is_some, if◌then◌else◌}
use Rattle.std.proofs.lemmas.List.{length-append}
use Rattle.xk_base.specs.Tables.Counting.{count_below}
use Rattle.save_path.specs.Rows.{listed, rows_below}

pub rows-zero : {A : Type 0} (row : ℕ → Option A) → rows_below 0 row ≡ []
unfolding rows_below
rows-zero row = refl

pub rows-suc : {A : Type 0} (row : ℕ → Option A) (k : ℕ) → rows_below (suc k) row ≡ rows_below k row ++ listed (row k)
unfolding rows_below
rows-suc row k = refl

pub rows-next : {A : Type 0} (row : ℕ → Option A) (k : ℕ) → rows_below (k + 1) row ≡ rows_below k row ++ listed (row k)
rows-next row k =
    let next : k + 1 ≡ suc k = omega arith in
    ap (λ j. rows_below j row) next ∙ rows-suc row k

-- a number with a row, and one without
pub rows-more : {A : Type 0} (row : ℕ → Option A) (k : ℕ) (x : A) → row k ≡ Some x → rows_below (k + 1) row ≡ rows_below k row ++ x ∷ []
rows-more {A = A} row k x e = rows-next row k ∙ ap (λ (o : Option A). rows_below k row ++ listed o) e

pub rows-skip : {A : Type 0} (row : ℕ → Option A) (k : ℕ) → row k ≡ None → rows_below (k + 1) row ≡ rows_below k row
rows-skip {A = A} row k e = rows-next row k ∙ ap (λ (o : Option A). rows_below k row ++ listed o) e ∙ append-nil (rows_below k row)

-- .. and several without
pub rows-gap_of : {A : Type 0} (row : ℕ → Option A) (j d : ℕ) → ((i : ℕ) → j ≤ i → i < j + d → row i ≡ None) → rows_below (j + d) row ≡ rows_below j row
rows-gap_of row j zero none = let e : j + zero ≡ j = omega arith in ap (λ k. rows_below k row) e
rows-gap_of row j (suc d) none =
    let e : j + suc d ≡ (j + d) + 1 = omega arith in
    ap (λ k. rows_below k row) e
    ∙ rows-skip row (j + d) (none (j + d) (omega arith) (omega arith))
    ∙ rows-gap_of row j d (λ i low high. none i low (omega arith))

pub rows-gap : {A : Type 0} (row : ℕ → Option A) (j k : ℕ) → j ≤ k → ((i : ℕ) → j ≤ i → i < k → row i ≡ None) → rows_below k row ≡ rows_below j row
rows-gap row j k le none =
    let e : k ≡ j + (k - j) = omega arith in
    ap (λ n. rows_below n row) e ∙ rows-gap_of row j (k - j) (λ i low high. none i low (omega arith))

-- ---- how many

pub length-more : {A : Type 0} (row : ℕ → Option A) (k : ℕ) (x : A) → row k ≡ Some x → length (rows_below (k + 1) row) ≡ length (rows_below k row) + 1
length-more {A = A} row k x e = ap (λ (xs : List A). length xs) (rows-more row k x e) ∙ length-append (rows_below k row) (x ∷ [])

pub length_listed : {A : Type 0} (o : Option A) → length (listed o) ≡ (if is_some o then 1 else 0)
length_listed None = refl
length_listed (Some x) = refl

pub length-rows : {A : Type 0} (row : ℕ → Option A) (n : ℕ) → length (rows_below n row) ≡ count_below n (λ k. is_some (row k))
unfolding count_below
length-rows {A = A} row zero = ap (λ (xs : List A). length xs) (rows-zero row)
length-rows {A = A} row (suc n) =
    ap (λ (xs : List A). length xs) (rows-suc row n) ∙ length-append (rows_below n row) (listed (row n))
    ∙ ap (λ m. m + length (listed (row n))) (length-rows row n)
    ∙ ap (λ m. count_below n (λ k. is_some (row k)) + m) (length_listed (row n))

pub length-below : {A : Type 0} (row : ℕ → Option A) (n : ℕ) → length (rows_below n row) ≤ n
length-below {A = A} row zero = let e = ap (λ (xs : List A). length xs) (rows-zero row) in omega arith
length-below {A = A} row (suc n) =
    let rest = length-below row n in
    let e = ap (λ (xs : List A). length xs) (rows-suc row n) in
    let both = length-append (rows_below n row) (listed (row n)) in
    let one = at_most_one (row n) in
    omega arith
  where
    at_most_one : (o : Option A) → length (listed o) ≤ 1
    at_most_one None = omega arith
    at_most_one (Some x) = omega arith

length-grows_by : {A : Type 0} (row : ℕ → Option A) (j d : ℕ) → length (rows_below j row) ≤ length (rows_below (j + d) row)
length-grows_by {A = A} row j zero = let e : j + zero ≡ j = omega arith in let same = ap (λ k. length (rows_below k row)) e in omega arith
length-grows_by {A = A} row j (suc d) =
    let e : j + suc d ≡ suc (j + d) = omega arith in
    let same = ap (λ k. length (rows_below k row)) e in
    let rest = length-grows_by row j d in
    let next = ap (λ (xs : List A). length xs) (rows-suc row (j + d)) in
    let both = length-append (rows_below (j + d) row) (listed (row (j + d))) in
    omega arith

pub length-grows : {A : Type 0} (row : ℕ → Option A) (j k : ℕ) → j ≤ k → length (rows_below j row) ≤ length (rows_below k row)
length-grows row j k le =
    let e : k ≡ j + (k - j) = omega arith in
    let same = ap (λ n. length (rows_below n row)) e in
    let grows = length-grows_by row j (k - j) in
    omega arith

-- where number k below n has a row, fewer stand before it than there are
pub length-within : {A : Type 0} (row : ℕ → Option A) (k n : ℕ) (x : A) → k < n → row k ≡ Some x → length (rows_below k row) + 1 ≤ length (rows_below n row)
length-within row k n x low e =
    let more = length-more row k x e in
    let grows = length-grows row (k + 1) n (omega arith) in
    omega arith

pub rows-same : {A : Type 0} (f g : ℕ → Option A) (n : ℕ) → ((k : ℕ) → k < n → f k ≡ g k) → rows_below n f ≡ rows_below n g
rows-same f g zero same = rows-zero f ∙ sym (rows-zero g)
rows-same {A = A} f g (suc n) same =
    rows-suc f n
    ∙ ap (λ (xs : List A). xs ++ listed (f n)) (rows-same f g n (λ k low. same k (omega arith)))
    ∙ ap (λ (o : Option A). rows_below n g ++ listed o) (same n (omega arith))
    ∙ sym (rows-suc g n)
