-- The fields of a machine word, as the RISC-V manuals draw and name them: bit 0 is the lowest bit, and
-- word[high:low] are the bits of the word from bit `high` down to bit `low`.
use Rattle.std.specs.Prelude.{ℕ, ◌+◌, ◌-◌, ◌*◌, ◌/◌, ◌%◌, ◌^◌, ◌<◌, List, [], ◌∷◌, nat_lt, if◌then◌else◌, ℤ, pos, negsuc, ◌<ℤ◌, ◌≤ℤ◌}

-- what the `width` bits of the word from bit `place` up spell
abbrev pub field : ℕ → ℕ → ℕ → ℕ
field place width word = word / 2 ^ place % 2 ^ width

-- word[high:low]
abbrev pub bits_of : ℕ → ℕ → ℕ → ℕ
bits_of word high low = field low (high + 1 - low) word

-- A drawing of a word: its parts from the highest bit down to bit 0, each a width in bits and the number
-- that stands there.
abbrev pub Drawing : Type 0
Drawing = List (ℕ × ℕ)

-- how many bits the drawing has
abbrev pub bit_count : Drawing → ℕ
bit_count [] = 0
bit_count (part ∷ parts) = part.0 + bit_count parts

-- the word that the drawing spells
abbrev pub word_of : Drawing → ℕ
word_of [] = 0
word_of (part ∷ parts) = part.1 * 2 ^ bit_count parts + word_of parts

-- each number of the drawing fits the width of its part
abbrev pub IsDrawn : Drawing → Type 0
IsDrawn [] = Unit {0}
IsDrawn (part ∷ parts) = (part.1 < 2 ^ part.0) × IsDrawn parts

-- a word drawn in parts of the same widths as the drawing's
abbrev pub drawn_like : Drawing → ℕ → Drawing
drawn_like [] word = []
drawn_like (part ∷ parts) word = (part.0, field (bit_count parts) part.0 word) ∷ drawn_like parts word

-- The signed number that `width` bits spell in two's complement: the highest of them is the sign. The width
-- is at least 1, and n is below 2 ^ width.
abbrev pub sign_extended : ℕ → ℕ → ℤ
sign_extended width n = if nat_lt n (2 ^ (width - 1)) then pos n else negsuc (2 ^ width - 1 - n)

-- the signed numbers that `width` bits spell: from -2 ^ (width - 1) up to 2 ^ (width - 1) - 1
abbrev pub FitsBits : ℕ → ℤ → Type 0
FitsBits width z = (negsuc (2 ^ (width - 1) - 1) ≤ℤ z) × (z <ℤ pos (2 ^ (width - 1)))
