-- The flags of memory that MapMemory and UpdateMemoryFlags take, one bit each. Both refuse an unknown bit, and flags
-- without READ.
use Rattle.std.specs.Prelude.{ℕ, Bool, ◌==◌}
use Rattle.std.specs.Int.RustNames.{bit_and}
use Rattle.xk_base.specs.declared.pages.Right.{Right}

-- accepted without effect
abbrev pub flag_reserve : ℕ
flag_reserve = 1

abbrev pub flag_read : ℕ
flag_read = 2

abbrev pub flag_write : ℕ
flag_write = 4

abbrev pub flag_execute : ℕ
flag_execute = 8

-- accepted without effect
abbrev pub flag_device : ℕ
flag_device = 16

-- all bits that are flags
abbrev pub all_flags : ℕ
all_flags = 31

-- no bit is set but flags
abbrev pub are_known_flags : ℕ → Bool
are_known_flags flags = bit_and flags all_flags == flags

-- the flag is set
abbrev pub has_flag : ℕ → ℕ → Bool
has_flag flags flag = bit_and flags flag == flag

-- the right that the flags ask for; a page can always be read
abbrev pub right_of : ℕ → Right
right_of flags = record { w = has_flag flags flag_write; x = has_flag flags flag_execute }
