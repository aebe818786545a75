-- Words that were spelled are read again, whatever follows them.
use Rattle.std.proofs.Common.{◌≡◌, ℕ, ◌≤◌, Bool, true, false, ltb, List, [], ◌∷◌, ◌++◌, length, Result, Ok, refl, ap, ◌∙◌, append_assoc, arith}
use Rattle.std.specs.List.{flat_map, AllByRecursion}
use Rattle.std.proofs.lemmas.Bool.{le-ltb}
use Rattle.std.proofs.lemmas.List.{take_at, drop_at, length-append}
use Rattle.std.proofs.lemmas.List.Concat.{flat_map-cons}
use Rattle.kernel_args.proofs.NumberLemmas.{number_again}
use Rattle.byteorder.specs.Endian.{little_number}
use Rattle.suspend_image.specs.Words.{word, word_bytes}
use Rattle.suspend_image.specs.Reading.{◌>>=◌, greatest, word_at, word_in, word_if, four_at}
use Rattle.suspend_image.specs.Forms.{IsWithin, IsWord, IsField}

-- a step that reads is followed by the next one
pub then_ok : {A B : Type 0} (read : Result A ℕ) (x : A) (next : A → Result B ℕ) (y : Result B ℕ) → read ≡ Ok x → next x ≡ y → (read >>= next) ≡ y
then_ok read x next y first others = rw first others

-- the first of words
pub words_split : (number : ℕ) (numbers rest : List ℕ) → word_bytes (number ∷ numbers) ++ rest ≡ word number ++ (word_bytes numbers ++ rest)
unfolding word_bytes
words_split number numbers rest = ap (λ (x : List ℕ). x ++ rest) (flat_map-cons word number numbers) ∙ append_assoc (word number) (flat_map word numbers) rest

front_read : (front rest : List ℕ) (number : ℕ) → length front ≡ 4 → little_number 4 front ≡ number → word_at (front ++ rest) ≡ Ok (number, rest)
unfolding word_at
front_read front rest number four is =
    let long : ltb (length (front ++ rest)) 4 ≡ false = le-ltb _ _ (omega (arith, length-append front rest)) in
    rw (long, take_at front rest 4 four, drop_at front rest 4 four, is) refl

-- a word alone
pub word_again : (number : ℕ) (rest : List ℕ) → IsWord number → word_at (word number ++ rest) ≡ Ok (number, rest)
word_again number rest fits = let most = fits.at_most in front_read (word number) rest number refl (number_again 4 number (omega arith))

-- any word
pub word_first : (number : ℕ) (numbers rest : List ℕ) → IsWord number → word_at (word_bytes (number ∷ numbers) ++ rest) ≡ Ok (number, word_bytes numbers ++ rest)
word_first number numbers rest fits = ap word_at (words_split number numbers rest) ∙ word_again number (word_bytes numbers ++ rest) fits

-- a word within bounds
pub in_first : (least most number : ℕ) (numbers rest : List ℕ) → most ≤ greatest → IsWithin least most number
    → word_in least most (word_bytes (number ∷ numbers) ++ rest) ≡ Ok (number, word_bytes numbers ++ rest)
unfolding word_in
in_first least most number numbers rest small fits =
    let at_least = fits.at_least in
    let at_most = fits.at_most in
    let above : ltb number least ≡ false = le-ltb _ _ at_least in
    let below : ltb most number ≡ false = le-ltb _ _ at_most in
    let is_word : IsWord number = record { at_least = omega arith; at_most = omega arith } in
    rw (word_first number numbers rest is_word, above, below) refl

-- a field that applies, or 0
pub if_first : (applies : Bool) (least most number : ℕ) (numbers rest : List ℕ) → most ≤ greatest → IsField applies least most number
    → word_if applies least most (word_bytes (number ∷ numbers) ++ rest) ≡ Ok (number, word_bytes numbers ++ rest)
unfolding word_if
if_first true least most number numbers rest small fits = in_first least most number numbers rest small fits
if_first false least most number numbers rest small fits = in_first 0 0 number numbers rest (omega arith) fits

-- four words
pub four_first : (numbers more rest : List ℕ) → length numbers ≡ 4 → AllByRecursion IsWord numbers
    → four_at (word_bytes (numbers ++ more) ++ rest) ≡ Ok (numbers, word_bytes more ++ rest)
unfolding four_at
four_first (a ∷ b ∷ c ∷ d ∷ []) more rest four fits =
    then_ok _ _ _ _ (word_first a (b ∷ c ∷ d ∷ more) rest fits.0)
    (then_ok _ _ _ _ (word_first b (c ∷ d ∷ more) rest fits.1.0)
    (then_ok _ _ _ _ (word_first c (d ∷ more) rest fits.1.1.0)
    (then_ok _ _ _ _ (word_first d more rest fits.1.1.1.0) refl)))
four_first [] more rest four fits = absurd (omega arith)
four_first (a ∷ []) more rest four fits = absurd (omega arith)
four_first (a ∷ b ∷ []) more rest four fits = absurd (omega arith)
four_first (a ∷ b ∷ c ∷ []) more rest four fits = absurd (omega arith)
four_first (a ∷ b ∷ c ∷ d ∷ e ∷ numbers) more rest four fits = absurd (omega arith)

-- no words
pub words_end : (rest : List ℕ) → word_bytes [] ++ rest ≡ rest
unfolding word_bytes
words_end rest = refl

pub word_last : (number : ℕ) (rest : List ℕ) → IsWord number → word_at (word_bytes (number ∷ []) ++ rest) ≡ Ok (number, rest)
word_last number rest fits = word_first number [] rest fits ∙ ap (λ (bytes : List ℕ). Ok (number, bytes)) (words_end rest)

pub if_last : (applies : Bool) (least most number : ℕ) (rest : List ℕ) → most ≤ greatest → IsField applies least most number
    → word_if applies least most (word_bytes (number ∷ []) ++ rest) ≡ Ok (number, rest)
if_last applies least most number rest small fits =
    if_first applies least most number [] rest small fits ∙ ap (λ (bytes : List ℕ). Ok (number, bytes)) (words_end rest)
