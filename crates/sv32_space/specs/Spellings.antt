-- The spellings of the entries of last-level page tables. An entry of Sv32 (RISC-V Privileged, 4.3.1) is a word of 32
-- bits: the flags V, R, W, X, U, G, A and D from bit 0 up, two bits left to software, and the physical page number from
-- bit 10 up. Where V is 0 all other bits are free for software.
use Rattle.std.specs.Prelude.{◌≡◌, ℕ, ◌+◌, ◌*◌, ◌^◌, ◌<◌, ◌==◌, Bool, true, false, if◌then◌else◌, List, [], ◌∷◌, Option, Some, None}
use Rattle.xk_base.specs.Numbers.Fields.{bits_of}
use Rattle.xk_base.specs.declared.pages.Right.{Right}
use Rattle.sv32_space.specs.declared.sides.Side.{Side}
use Rattle.sv32_space.specs.declared.sides.Side.TheVariants.{Own, LentOut, LentIn, MutOut, MutIn}
use Rattle.sv32_space.specs.declared.sides.EntryKind.{EntryKind}
use Rattle.sv32_space.specs.declared.sides.EntryKind.TheVariants.{Free, Here, Out}

abbrev pub bit_v : ℕ
bit_v = 0x001

abbrev pub bit_r : ℕ
bit_r = 0x002

abbrev pub bit_w : ℕ
bit_w = 0x004

abbrev pub bit_x : ℕ
bit_x = 0x008

abbrev pub bit_u : ℕ
bit_u = 0x010

abbrev pub bit_g : ℕ
bit_g = 0x020

abbrev pub bit_a : ℕ
bit_a = 0x040

abbrev pub bit_d : ℕ
bit_d = 0x080

-- software: the page is on loan
abbrev pub bit_s : ℕ
bit_s = 0x100

-- software: the former right of a page on loan has w
abbrev pub bit_p : ℕ
bit_p = 0x200

abbrev pub bit_if : Bool → ℕ → ℕ
bit_if set bit = if set then bit else 0

-- whether the spelling of a side in a frame has V
abbrev pub has_v : Side → Bool
has_v (Own right) = true
has_v (LentOut right) = true
has_v LentIn = true
has_v (MutOut x) = false
has_v MutIn = true

-- which bits are set beside V
abbrev pub other_bits : Side → ℕ
other_bits (Own right) = bit_r + bit_u + bit_a + bit_d + bit_if right.w bit_w + bit_if right.x bit_x
other_bits (LentOut right) = bit_r + bit_u + bit_a + bit_d + bit_s + bit_if right.x bit_x + bit_if right.w bit_p
other_bits LentIn = bit_r + bit_u + bit_a + bit_s
other_bits (MutOut x) = bit_r + bit_w + bit_s + bit_p + bit_if x bit_x
other_bits MutIn = bit_r + bit_w + bit_u + bit_a + bit_d + bit_s

-- the low bits of a side of a page in a frame ..
abbrev pub here_bits : Side → ℕ
here_bits side = bit_if (has_v side) bit_v + other_bits side

-- .. and of a page that is out: without V, and with G
abbrev pub out_bits : Side → ℕ
out_bits side = bit_g + other_bits side

-- the word of an entry: a physical page number or the number of a slot stands above the low bits
abbrev pub spelling : EntryKind → ℕ
spelling Free = 0
spelling (Here side ppn) = here_bits side + 1024 * ppn
spelling (Out side slot) = out_bits side + 1024 * slot

-- the number fits its 22 bits
abbrev pub IsKind : EntryKind → Type 0
IsKind Free = Unit {0}
IsKind (Here side ppn) = ppn < 2 ^ 22
IsKind (Out side slot) = slot < 2 ^ 22

abbrev pub Spells : EntryKind → ℕ → Type 0
Spells kind word = IsKind kind × (spelling kind ≡ word)

-- ---- The table read the other way. It says no more than the spellings above: the contract of `kind_of` has that what
-- it finds spells the word, and is the only one.

abbrev pub right_of : Bool → Bool → Right
right_of w x = record { w = w; x = x }

-- all sides
abbrev pub sides : List Side
sides =
    Own (right_of false false) ∷ Own (right_of false true) ∷ Own (right_of true false) ∷ Own (right_of true true)
    ∷ LentOut (right_of false false) ∷ LentOut (right_of false true) ∷ LentOut (right_of true false) ∷ LentOut (right_of true true)
    ∷ LentIn ∷ MutOut false ∷ MutOut true ∷ MutIn ∷ []

-- the first side of the list with these bits
abbrev pub side_among : (Side → ℕ) → ℕ → List Side → Option Side
side_among bits low [] = None
side_among bits low (side ∷ rest) = if low == bits side then Some side else side_among bits low rest

abbrev pub here_side : ℕ → Option Side
here_side low = side_among here_bits low sides

abbrev pub out_side : ℕ → Option Side
out_side low = side_among out_bits low sides

abbrev pub kind_with : Option Side → Option Side → ℕ → Option EntryKind
kind_with (Some side) out number = Some (Here side number)
kind_with None (Some side) number = Some (Out side number)
kind_with None None number = None

-- what the word spells, if it spells anything
unfoldable pub kind_at : ℕ → Option EntryKind
kind_at word =
    if word == 0 then Some Free else kind_with (here_side (bits_of word 9 0)) (out_side (bits_of word 9 0)) (bits_of word 31 10)
