-- Numbers in hexadecimal. Decimal numbers are std's `decimal`.
use Rattle.std.specs.Prelude.{ℕ, ◌/◌, ◌%◌, ◌^◌, zero, suc, List, [], ◌∷◌, ◌++◌, codes}
use Rattle.std.specs.Char.{digit_char}
use Rattle.std.specs.List.{flat_map}

-- the lowest `count` hexadecimal digits of `n`, the highest of them first, in lower case
abbrev pub hex_text : ℕ → ℕ → List ℕ
hex_text zero n = []
hex_text (suc k) n = digit_char (n / 16 ^ k % 16) ∷ hex_text k n

-- a byte is two digits
abbrev pub byte_text : ℕ → List ℕ
byte_text b = hex_text 2 b

-- a word of 32 bits is eight digits, leading zeros included
abbrev pub word_text : ℕ → List ℕ
word_text w = hex_text 8 w

-- each word after a space
abbrev pub words_text : List ℕ → List ℕ
words_text words = flat_map (λ w. codes " " ++ word_text w) words
