-- The names of servers as text. An identifier has four words; where they spell letters, it is told as these, else as numbers.
use Rattle.std.specs.Prelude.{ℕ, ◌-◌, ◌==◌, Bool, false, ◌&&◌, ◌||◌, nat_lt, if◌then◌else◌, List, codes, length, take}
use Rattle.std.specs.Fmt.{digits}
use Rattle.std.specs.Int.{to_le_bytes, w32}
use Rattle.std.specs.List.{flat_map, join_by, list_all, suffix_len}
use Rattle.xk_base.specs.declared.ids.Sid.{Sid}

-- a number in hexadecimal, without zeros before it
abbrev pub hexadecimal : ℕ → List ℕ
hexadecimal n = digits 16 false n

-- a letter, a digit or a sign, which is printed as it is
abbrev pub is_letter : ℕ → Bool
is_letter code = nat_lt 32 code && nat_lt code 127

-- a blank or a zero byte
abbrev pub is_blank : ℕ → Bool
is_blank code = code == 32 || code == 0

-- four letters in each word, the first of them in its lowest byte
abbrev pub packed_letters : List ℕ → List ℕ
packed_letters words = flat_map (to_le_bytes w32) words

-- without the blanks at the end
abbrev pub without_blanks : List ℕ → List ℕ
without_blanks letters = take (length letters - suffix_len is_blank letters) letters

-- some letters, and nothing else
abbrev pub is_text : List ℕ → Bool
is_text letters = nat_lt 0 (length letters) && list_all is_letter letters

-- each word as a number, with points between them
abbrev pub numbers_text : List ℕ → List ℕ
numbers_text words = join_by hexadecimal (codes ".") words

-- a name of four letters in each word, but for blanks at its end; else numbers
abbrev pub packed_text : List ℕ → List ℕ → List ℕ
packed_text letters words = if is_text letters then letters else numbers_text words

-- A server's name has one letter in each word, or four; else it is told as numbers.
unfoldable pub name_text : Sid → List ℕ
name_text sid = if list_all is_letter sid.0 then sid.0 else packed_text (without_blanks (packed_letters sid.0)) sid.0
