-- A byte as `hex` writes it is its two digits.
use Rattle.std.proofs.Common.{◌≡◌, ℕ, ◌+◌, ◌*◌, ◌/◌, ◌%◌, ◌^◌, ◌<◌, List, [], ◌∷◌, refl, slice_index, arith}
use Rattle.std.specs.Char.{digit_char}
use Rattle.hex.specs.Hex.{encode_lower, encode_with, lower_digits}
use Rattle.trace_text.specs.Words.{byte_text}
use borrow.Author.Count.{below_none, below_more}

-- the table of digits and the digit of a number agree
abbrev IsSameDigit : ℕ → Type 0
IsSameDigit d = slice_index lower_digits d ≡ digit_char d

same_digit : (d : ℕ) → d < 16 → IsSameDigit d
same_digit =
    let more = below_more IsSameDigit in
    more 15 (more 14 (more 13 (more 12 (more 11 (more 10 (more 9 (more 8 (more 7 (more 6 (more 5 (more 4 (more 3 (more 2
    (more 1 (more 0 (below_none IsSameDigit) refl) refl) refl) refl) refl) refl) refl) refl) refl) refl) refl) refl) refl) refl) refl) refl

-- one byte is two digits
encoded_cons : (b high low : ℕ) (rest text : List ℕ) → high < 16 → low < 16 → b ≡ high * 16 + low → encode_lower rest ≡ text
    → encode_lower (b ∷ rest) ≡ digit_char high ∷ digit_char low ∷ text
unfolding encode_with
encoded_cons b high low rest text h l is tail =
    let upper : b / 16 ≡ high = omega arith in
    let lower : b % 16 ≡ low = omega arith in
    rw (upper, lower, same_digit high h, same_digit low l, tail)

encoded_nil : encode_lower [] ≡ []
unfolding encode_with
encoded_nil = refl

pub encoded_byte : (b : ℕ) → b < 2 ^ 8 → encode_lower (b ∷ []) ≡ byte_text b
encoded_byte b fits =
    encoded_cons b (b / 16 % 16) (b / 1 % 16) [] [] (omega arith) (omega arith) (omega arith) encoded_nil
