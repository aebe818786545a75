-- A loop that appends rows to a sheet, and sets their number in front of them when they are all there.
use Rattle.std.proofs.Common.{◌≡◌, ℕ, ◌+◌, ◌*◌, ◌≤◌, ◌<◌, List, [], ◌∷◌, ◌++◌, length, take, drop, Option, Some, None, refl, sym, ap, subst, ◌∙◌, append_assoc, append-nil, arith}
use Rattle.std.specs.List.{flat_map}
use Rattle.std.proofs.Math.Nat.{mul-le-mul_left}
use Rattle.std.proofs.Math.Seq.{drop-append-add, take-append_seam}
use Rattle.std.proofs.lemmas.Grind.{flat_map-append}
use Rattle.std.proofs.lemmas.List.{length-append}
use Rattle.suspend_image.specs.Sheets.{HasRoom, SheetBytes, appended, with_bytes, with_word}
use Rattle.suspend_image.specs.Spelling.{rows_bytes}
use Rattle.suspend_image.specs.Words.{word, word_bytes}
use Rattle.suspend_image.proofs.Sheets.SpellingLemmas.{both_appended, none_appended}
use Rattle.save_path.specs.Rows.{rows_below}
use Rattle.save_path.specs.Written.{Appends, Fits}
use Rattle.save_path.proofs.RowsBelowLemmas.{length-more, rows-gap, rows-more, rows-skip, rows-zero}

-- ---- room

pub has_room : (sheet : SheetBytes) (more : ℕ) (bytes : List ℕ) → Fits sheet more → length bytes ≤ more → HasRoom sheet bytes
has_room sheet more bytes fits few =
    let room = fits.room in
    let low = fits.few in
    record { room = omega arith; few = omega arith }

pub fits_less : (sheet : SheetBytes) (more less : ℕ) → Fits sheet more → less ≤ more → Fits sheet less
fits_less sheet more less fits le =
    let room = fits.room in
    let low = fits.few in
    record { room = omega arith; few = omega arith }

-- the room that is left behind bytes
pub fits_behind : (old new : SheetBytes) (bytes : List ℕ) (most more : ℕ) → Appends old new bytes most → Fits old (most + more) → Fits new more
fits_behind old new bytes most more appends fits =
    let same = ap (λ (s : SheetBytes). length s.bytes) appends.is in
    let wide = ap (λ (s : SheetBytes). s.room) appends.is in
    let both = length-append old.bytes bytes in
    let few = appends.few in
    let room = fits.room in
    let low = fits.few in
    record { room = omega arith; few = omega arith }

-- ---- one piece behind another

pub appends_both : (a b c : SheetBytes) (one other : List ℕ) (m n : ℕ) → Appends a b one m → Appends b c other n → Appends a c (one ++ other) (m + n)
appends_both a b c one other m n x y =
    let both = length-append one other in
    let fx = x.few in
    let fy = y.few in
    record {
      is = y.is ∙ ap (λ (s : SheetBytes). appended other s) x.is ∙ both_appended a one other;
      few = omega arith;
    }

-- ---- rows

-- The rows of the numbers below k were appended, and counted; each has so many bytes at most.
pub record HasWritten {A : Type 0} (spell : A → List ℕ) (most : ℕ) (row : ℕ → Option A) (k : ℕ) (start sheet : SheetBytes) (many : ℕ) : Type 0 where
  pub count : many ≡ length (rows_below k row)
  pub is : sheet ≡ appended (flat_map spell (rows_below k row)) start
  pub few : length (flat_map spell (rows_below k row)) ≤ most * many
  pub below : many ≤ k

module _ {A : Type 0} (spell : A → List ℕ) (most : ℕ) (row : ℕ → Option A) where
  pub written_none : (start : SheetBytes) → HasWritten spell most row 0 start start 0
  written_none start =
      let none : flat_map spell (rows_below 0 row) ≡ [] = ap (λ (xs : List A). flat_map spell xs) (rows-zero row) in
      let count = ap (λ (xs : List A). length xs) (rows-zero row) in
      let size = ap (λ (bs : List ℕ). length bs) none in
      record {
        count = sym count;
        is = none_appended start ∙ ap (λ (bs : List ℕ). appended bs start) (sym none);
        few = omega arith;
        below = omega arith;
      }

  pub written_more : (k : ℕ) (start sheet new : SheetBytes) (many : ℕ) (x : A) → HasWritten spell most row k start sheet many → row k ≡ Some x
      → new ≡ appended (spell x) sheet → length (spell x) ≤ most → HasWritten spell most row (k + 1) start new (many + 1)
  written_more k start sheet new many x written e is small =
      let rows = rows_below k row in
      let text : flat_map spell (rows_below (k + 1) row) ≡ flat_map spell rows ++ spell x =
      ap (λ (xs : List A). flat_map spell xs) (rows-more row k x e) ∙ flat_map-append spell rows (x ∷ [])
      ∙ ap (λ (bs : List ℕ). flat_map spell rows ++ bs) (append-nil (spell x)) in
      let size = ap (λ (bs : List ℕ). length bs) text in
      let both = length-append (flat_map spell rows) (spell x) in
      let count = length-more row k x e in
      let so_far = written.few in
      let low = written.below in
      let told = written.count in
      let product : most * (many + 1) ≡ most * many + most = omega arith in
      record {
        count = omega arith;
        is = is ∙ ap (λ (s : SheetBytes). appended (spell x) s) written.is ∙ both_appended start (flat_map spell rows) (spell x)
            ∙ ap (λ (bs : List ℕ). appended bs start) (sym text);
        few = omega arith;
        below = omega arith;
      }

  pub written_skip : (k : ℕ) (start sheet : SheetBytes) (many : ℕ) → HasWritten spell most row k start sheet many → row k ≡ None
      → HasWritten spell most row (k + 1) start sheet many
  written_skip k start sheet many written e =
      let same = rows-skip row k e in
      let low = written.below in
      record {
        count = written.count ∙ ap (λ (xs : List A). length xs) (sym same);
        is = written.is ∙ ap (λ (xs : List A). appended (flat_map spell xs) start) (sym same);
        few = subst (λ (xs : List A). length (flat_map spell xs) ≤ most * many) (sym same) written.few;
        below = omega arith;
      }

  -- there is room for one more, where there is for so many
  pub written_room : (k total : ℕ) (start sheet : SheetBytes) (many : ℕ) → HasWritten spell most row k start sheet many → many + 1 ≤ total
      → Fits start (most * total)
      → Fits sheet most
  written_room k total start sheet many written fewer fits =
      let same = ap (λ (s : SheetBytes). length s.bytes) written.is in
      let wide = ap (λ (s : SheetBytes). s.room) written.is in
      let both = length-append start.bytes (flat_map spell (rows_below k row)) in
      let few = written.few in
      let room = fits.room in
      let low = fits.few in
      let product = mul-le-mul_left most fewer in
      let sum : most * (many + 1) ≡ most * many + most = omega arith in
      record { room = omega arith; few = omega arith }

-- ---- the number in front of rows

pub word-length : (w : ℕ) → length (word w) ≡ 4
word-length w = refl

word_set : (front rest : List ℕ) (v w : ℕ) → with_word (length front) w ((front ++ word v) ++ rest) ≡ front ++ (word w ++ rest)
word_set front rest v w =
    let all : (front ++ word v) ++ rest ≡ front ++ (word v ++ rest) = append_assoc front (word v) rest in
    let before : take (length front) ((front ++ word v) ++ rest) ≡ front = ap (λ (xs : List ℕ). take (length front) xs) all
    ∙ take-append_seam front (word v ++ rest) in
    let behind : drop (length front + 4) ((front ++ word v) ++ rest) ≡ rest = ap (λ (xs : List ℕ). drop (length front + 4) xs) all
    ∙ drop-append-add front (word v ++ rest) 4 in
    ap (λ (xs : List ℕ). xs ++ (word w ++ drop (length front + 4) ((front ++ word v) ++ rest))) before ∙ ap (λ (xs : List ℕ). front ++ (word w ++ xs)) behind

number_bytes : (w : ℕ) → word_bytes (w ∷ []) ≡ word w
unfolding word_bytes
number_bytes w = append-nil (word w)

-- rows were appended behind a word, which then becomes their number
pub numbered : {A : Type 0} (spell : A → List ℕ) (rows : List A) (old sheet : SheetBytes) (many : ℕ) → many ≡ length rows
    → sheet ≡ appended (flat_map spell rows) (appended (word 0) old)
    → with_bytes (with_word (length old.bytes) many sheet.bytes) sheet ≡ appended (rows_bytes spell rows) old
unfolding rows_bytes
numbered spell rows old sheet many count is =
    let text = flat_map spell rows in
    let set : with_word (length old.bytes) many sheet.bytes ≡ old.bytes ++ (word many ++ text) =
    ap (λ (s : SheetBytes). with_word (length old.bytes) many s.bytes) is ∙ word_set old.bytes text 0 many in
    let number : word many ≡ word_bytes (length rows ∷ []) = ap word count ∙ sym (number_bytes (length rows)) in
    let bytes : with_word (length old.bytes) many sheet.bytes ≡ old.bytes ++ (word_bytes (length rows ∷ []) ++ text) =
    set ∙ ap (λ (xs : List ℕ). old.bytes ++ (xs ++ text)) number in
    let wide : sheet.room ≡ old.room = ap (λ (s : SheetBytes). s.room) is in
    λ i. record { bytes = bytes i; room = wide i }

pub length-numbered : {A : Type 0} (spell : A → List ℕ) (rows : List A) → length (rows_bytes spell rows) ≡ 4 + length (flat_map spell rows)
unfolding rows_bytes
length-numbered spell rows =
    length-append (word_bytes (length rows ∷ [])) (flat_map spell rows)
    ∙ ap (λ (xs : List ℕ). length xs + length (flat_map spell rows)) (number_bytes (length rows))

-- all rows were appended and counted
pub written_all : {A : Type 0} (spell : A → List ℕ) (most : ℕ) (row : ℕ → Option A) (n total : ℕ) (old sheet new : SheetBytes) (many : ℕ)
    → HasWritten spell most row n (appended (word 0) old) sheet many → many ≤ total → new ≡ with_bytes (with_word (length old.bytes) many sheet.bytes) sheet
    → Appends old new (rows_bytes spell (rows_below n row)) (4 + most * total)
written_all spell most row n total old sheet new many written le is =
    let size = length-numbered spell (rows_below n row) in
    let few = written.few in
    let product = mul-le-mul_left most le in
    record {
      is = is ∙ numbered spell (rows_below n row) old sheet many written.count written.is;
      few = omega arith;
    }

-- ---- as the loops have it

-- behind the word that becomes the number
pub fits_rows : (old : SheetBytes) (n : ℕ) → Fits old (4 + n) → Fits (appended (word 0) old) n
fits_rows old n fits =
    let both = length-append old.bytes (word 0) in
    let room = fits.room in
    let few = fits.few in
    record { room = omega arith; few = omega arith }

pub written_first : {A : Type 0} (spell : A → List ℕ) (most : ℕ) (row : ℕ → Option A) (start sheet : SheetBytes) → sheet ≡ start
    → HasWritten spell most row 0 start sheet 0
written_first spell most row start sheet is = subst (λ (s : SheetBytes). HasWritten spell most row 0 start s 0) (sym is) (written_none spell most row start)

pub next_has_room : {A : Type 0} (spell : A → List ℕ) (most : ℕ) (row : ℕ → Option A) (k total : ℕ) (start sheet : SheetBytes) (many : ℕ) (x : A)
    → HasWritten spell most row k start sheet many → many + 1 ≤ total → Fits start (most * total) → length (spell x) ≤ most → HasRoom sheet (spell x)
next_has_room spell most row k total start sheet many x written fewer fits small =
    has_room sheet most (spell x) (written_room spell most row k total start sheet many written fewer fits) small

pub written_done : {A : Type 0} (spell : A → List ℕ) (most : ℕ) (row : ℕ → Option A) (k n total : ℕ) (old sheet new : SheetBytes) (many at : ℕ)
    → HasWritten spell most row k (appended (word 0) old) sheet many → k ≡ n → many ≤ total → at ≡ length old.bytes
    → new ≡ with_bytes (with_word at many sheet.bytes) sheet → Appends old new (rows_bytes spell (rows_below n row)) (4 + most * total)
written_done spell most row k n total old sheet new many at written end le place is =
    written_all spell most row n total old sheet new many
    (subst (λ j. HasWritten spell most row j (appended (word 0) old) sheet many) end written) le
    (is ∙ ap (λ p. with_bytes (with_word p many sheet.bytes) sheet) place)

-- rows without their number
pub written_appends : {A : Type 0} (spell : A → List ℕ) (most : ℕ) (row : ℕ → Option A) (k n : ℕ) (old sheet : SheetBytes)
    → HasWritten spell most row k old sheet k → k ≡ n → Appends old sheet (flat_map spell (rows_below n row)) (most * n)
written_appends spell most row k n old sheet written end =
    subst (λ j. Appends old sheet (flat_map spell (rows_below j row)) (most * j)) end (record { is = written.is; few = written.few })

-- numbers without a row are passed over
pub written_gap : {A : Type 0} (spell : A → List ℕ) (most : ℕ) (row : ℕ → Option A) (j k : ℕ) (start sheet : SheetBytes) (many : ℕ)
    → HasWritten spell most row j start sheet many → j ≤ k → ((i : ℕ) → j ≤ i → i < k → row i ≡ None) → HasWritten spell most row k start sheet many
written_gap {A = A} spell most row j k start sheet many written le none =
    let same : rows_below j row ≡ rows_below k row = sym (rows-gap row j k le none) in
    let low = written.below in
    record {
      count = written.count ∙ ap (λ (xs : List A). length xs) same;
      is = written.is ∙ ap (λ (xs : List A). appended (flat_map spell xs) start) same;
      few = subst (λ (xs : List A). length (flat_map spell xs) ≤ most * many) same written.few;
      below = omega arith;
    }
