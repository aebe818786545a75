-- Two images that differ in what they say of RAM alone.
use Rattle.std.specs.Prelude.{◌≡◌, ℕ, Bool, false, ◌&&◌, ◌||◌, nat_le, nat_lt, List, length, slice_index}

-- The offsets of what an image says of RAM: RAM start and RAM size are its bytes from 16 up to 24, and the check number
-- over them is its bytes 4 and 5.
abbrev pub says_ram : ℕ → Bool
says_ram offset = (nat_le 4 offset && nat_lt offset 6) || (nat_le 16 offset && nat_lt offset 24)

-- Two images differ in nothing but RAM start, RAM size and the check number over them.
pub record DifferInRam (image other : List ℕ) : Type 0 where
  pub size : length other ≡ length image
  pub elsewhere : (offset : ℕ) → says_ram offset ≡ false → slice_index other offset ≡ slice_index image offset
