-- The check number CRC-16/X-25 of a list of bytes, bit by bit: the polynomial x^16 + x^12 + x^5 + 1,
-- whose bits are 0x1021, bits reflected in and out, start 0xFFFF, final exclusive-or 0xFFFF.
use Rattle.std.specs.Prelude.{ℕ, zero, suc, ◌/◌, ◌%◌, ◌==◌, if◌then◌else◌, List, [], ◌∷◌, bit_xor}
use Rattle.std.specs.List.{flat_map}

-- the low n bits of a number, the lowest first, as a byte is sent
unfoldable pub bits : ℕ → ℕ → List ℕ
bits zero x = []
bits (suc n) x = x % 2 ∷ bits n (x / 2)

-- The register after one more bit. It holds the remainder with its highest power in its lowest bit, and
-- so moves down by one place; where the power that falls out and the bit that comes in differ, the
-- polynomial is subtracted: 0x8408 is 0x1021 with its sixteen bits reversed.
abbrev pub shifted : ℕ → ℕ → ℕ
shifted register bit = if register % 2 == bit then register / 2 else bit_xor (register / 2) 0x8408

-- the register after bits in order
abbrev pub register_after : ℕ → List ℕ → ℕ
register_after register [] = register
register_after register (b ∷ bs) = register_after (shifted register b) bs

-- the check number of bytes
unfoldable pub check_number : List ℕ → ℕ
check_number bytes = bit_xor (register_after 0xFFFF (flat_map (bits 8) bytes)) 0xFFFF
