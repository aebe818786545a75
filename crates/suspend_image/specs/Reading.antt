-- Reading from left to right: the value at the front of bytes and the bytes after it, or the first word that breaks the form, said by
-- how many bytes stand from it on. A part of a word at the end of the bytes is a word that is missing.
use Rattle.std.specs.Prelude.{◌≡◌, ℕ, zero, suc, Bool, ◌||◌, nat_lt, if◌then◌else◌, List, [], ◌∷◌, length, take, drop, Option}
use Rattle.std.specs.Prelude.{Some, None, Result, Ok, Err}
use Rattle.byteorder.specs.Endian.{little_number}
use Rattle.suspend_image.specs.declared.reading.broken.Broken.{Broken}
use Rattle.suspend_image.specs.declared.reading.broken.Broken.TheVariants as broken

-- a value and the bytes after it, or how many bytes stand from the first word on that breaks the form
abbrev pub Found : Type 0 → Type 0
Found A = Result (A × List ℕ) ℕ

infixl 10 ◌>>=◌
abbrev pub ◌>>=◌ : {A B : Type 0} → Result A ℕ → (A → Result B ℕ) → Result B ℕ
(Ok x) >>= f = f x
(Err left) >>= f = Err left

-- What a function returned, seen by view, is what reading gives, unless memory ran out.
abbrev pub Fails : {Y : Type 0} → Broken → Result Y ℕ → Type 0
Fails broken.NoMemory read = Unit {0}
Fails (broken.Form left) read = read ≡ Err left

abbrev pub Gives : {X Y : Type 0} → (X → Y) → Result X Broken → Result Y ℕ → Type 0
Gives view (Ok x) read = read ≡ Ok (view x)
Gives view (Err e) read = Fails e read

-- ---- words

-- the greatest word
abbrev pub greatest : ℕ
greatest = 0xFFFFFFFF

-- any word
unfoldable pub word_at : List ℕ → Found ℕ
word_at bytes = if nat_lt (length bytes) 4 then Err (length bytes) else Ok (little_number 4 (take 4 bytes), drop 4 bytes)

-- a word from `least` to `most`
unfoldable pub word_in : ℕ → ℕ → List ℕ → Found ℕ
word_in least most bytes = do
  word ← word_at bytes
  if nat_lt word.0 least || nat_lt most word.0 then Err (length bytes) else Ok word

-- the same of a field that applies, and 0 of one that doesn't
unfoldable pub word_if : Bool → ℕ → ℕ → List ℕ → Found ℕ
word_if applies least most bytes = if applies then word_in least most bytes else word_in 0 0 bytes

-- four words
unfoldable pub four_at : List ℕ → Found (List ℕ)
four_at bytes = do
  a ← word_at bytes
  b ← word_at a.1
  c ← word_at b.1
  d ← word_at c.1
  Ok (a.0 ∷ b.0 ∷ c.0 ∷ d.0 ∷ [], d.1)

-- ---- rows

-- This many rows. A row may depend on the key of the row before it, which is none for the first; `key` gives a row's.
unfoldable pub rows_at : {A K : Type 0} → (Option K → List ℕ → Found A) → (A → K) → ℕ → Option K → List ℕ → Found (List A)
rows_at row key zero before bytes = Ok ([], bytes)
rows_at row key (suc n) before bytes = do
  first ← row before bytes
  others ← rows_at row key n (Some (key first.0)) first.1
  Ok (first.0 ∷ others.0, others.1)

-- this many items, in any order
abbrev pub items_at : {A : Type 0} → (List ℕ → Found A) → ℕ → List ℕ → Found (List A)
items_at item n bytes = rows_at (λ (before : Option ℕ). item) (λ x. 0) n None bytes
