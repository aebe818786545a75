-- Lines, words and numbers of an event file. A file, a line and a word are lists of bytes.
use Rattle.std.specs.Prelude.{ℕ, ◌+◌, ◌*◌, ◌-◌, ◌==◌, ◌&&◌, nat_le, nat_lt, Bool, true, false, List, [], ◌∷◌, length, take, filter, Option}
use Rattle.std.specs.Prelude.{Some, None, if◌then◌else◌, slice_index}
use Rattle.std.specs.Char.{is_ascii_digit}
use Rattle.std.specs.List.{list_all, list_any, onto_first, slice_split}

-- The lines of a file, each with the line feed (10) that ends it. The last may lack it, and an empty rest after the last
-- line feed is no line.
unfoldable pub lines_of : List ℕ → List (List ℕ)
lines_of [] = []
lines_of (byte ∷ bytes) = if byte == 10 then (byte ∷ []) ∷ lines_of bytes else onto_first byte (lines_of bytes)

-- The bytes up to and with the last line feed: the whole lines of a file of which more may come.
unfoldable pub whole_lines : List ℕ → List ℕ
whole_lines [] = []
whole_lines (byte ∷ bytes) = if list_any (λ b. b == 10) (byte ∷ bytes) then byte ∷ whole_lines bytes else []

-- whether the list ends with the byte
abbrev pub is_last : ℕ → List ℕ → Bool
is_last byte bytes = nat_lt 0 (length bytes) && (slice_index bytes (length bytes - 1) == byte)

-- the list without the byte at its end, if it ends with it
abbrev pub without_last : ℕ → List ℕ → List ℕ
without_last byte bytes = if is_last byte bytes then take (length bytes - 1) bytes else bytes

-- The text of a line: without its line feed, and without a carriage return (13) right before the line's end.
abbrev pub text_of : List ℕ → List ℕ
text_of line = without_last 13 (without_last 10 line)

-- a part with a byte
abbrev pub is_not_empty : List ℕ → Bool
is_not_empty [] = false
is_not_empty (byte ∷ bytes) = true

-- The words of a text: the parts between spaces (32) that aren't empty.
unfoldable pub words_of : List ℕ → List (List ℕ)
words_of text = filter is_not_empty (slice_split (λ byte. byte == 32) text)

-- the number that decimal digits spell, after the digits of `high`
abbrev pub number_after : ℕ → List ℕ → ℕ
number_after high [] = high
number_after high (digit ∷ digits) = number_after (high * 10 + (digit - 48)) digits

-- one to ten decimal digits, with leading zeros allowed
abbrev pub is_number : List ℕ → Bool
is_number word = nat_le 1 (length word) && nat_le (length word) 10 && list_all is_ascii_digit word

-- the number that a word spells
abbrev pub number_of : List ℕ → Option ℕ
number_of word = if is_number word then Some (number_after 0 word) else None

-- a number that is at most `most`
abbrev pub at_most : ℕ → Option ℕ → Option ℕ
at_most most None = None
at_most most (Some n) = if nat_le n most then Some n else None

-- the number that a word spells, if it is at most `most`
unfoldable pub number_up_to : ℕ → List ℕ → Option ℕ
number_up_to most word = at_most most (number_of word)
