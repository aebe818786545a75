-- Words of a state file: 32 bits in four bytes, the lowest first.
use Rattle.std.specs.Prelude.{ℕ, List}
use Rattle.std.specs.List.{flat_map}
use Rattle.byteorder.specs.Endian.{little_bytes}

-- the four bytes of a word
abbrev pub word : ℕ → List ℕ
word n = little_bytes 4 n

-- words one after the other
unfoldable pub word_bytes : List ℕ → List ℕ
word_bytes numbers = flat_map word numbers
