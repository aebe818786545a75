-- The bytes of a console as text: in quotes, or as hexadecimal digits.
use Rattle.std.specs.Prelude.{ℕ, ◌==◌, Bool, true, false, ◌&&◌, ◌||◌, nat_lt, if◌then◌else◌, List, [], ◌∷◌, ◌++◌, codes, Option, Some, None}
use Rattle.std.specs.List.{flat_map}
use Rattle.hex.specs.Hex.{encode_lower}
use Rattle.order_text.specs.declared.consoles.TheConstants.{BACKSLASH, QUOTE}

-- a byte that stands in a text as itself
abbrev pub is_printed : ℕ → Bool
is_printed byte = nat_lt 31 byte && nat_lt byte 127

-- the letter that stands behind a backslash in place of the byte: `\n`, `\r` and `\t`, and a backslash and a quote themselves
abbrev pub escape_letter : ℕ → Option ℕ
escape_letter byte =
    if byte == 10 then Some 110 else (
    if byte == 13 then Some 114 else (
    if byte == 9 then Some 116 else (
    if byte == BACKSLASH || byte == QUOTE then Some byte else None)))

abbrev pub escaped_by : Option ℕ → ℕ → List ℕ
escaped_by (Some letter) byte = BACKSLASH ∷ letter ∷ []
escaped_by None byte = if is_printed byte then byte ∷ [] else BACKSLASH ∷ 120 ∷ encode_lower (byte ∷ [])

-- a byte in a text: itself, or behind a backslash its letter, or `x` and its two digits
abbrev pub escaped : ℕ → List ℕ
escaped byte = escaped_by (escape_letter byte) byte

abbrev pub quoted : List ℕ → List ℕ
quoted bytes = QUOTE ∷ [] ++ (flat_map escaped bytes ++ QUOTE ∷ [])

-- two digits for each byte
abbrev pub digits_text : List ℕ → List ℕ
digits_text [] = codes "empty"
digits_text (byte ∷ bytes) = encode_lower (byte ∷ bytes)

-- the bytes of the console, as digits or in quotes
abbrev pub console_text : Bool → List ℕ → List ℕ
console_text true bytes = digits_text bytes
console_text false bytes = quoted bytes
