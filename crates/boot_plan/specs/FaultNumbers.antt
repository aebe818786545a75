-- The numbers of the faults of a plan, and that of a file that is too long.
use Rattle.std.specs.Prelude.{ℕ}

-- a section has a page outside the Image window
abbrev pub section_outside : ℕ
section_outside = 11

-- the address of a section isn't a multiple of 4096
abbrev pub section_misaligned : ℕ
section_misaligned = 12

-- a section has a page that an earlier section of the process has
abbrev pub sections_overlap : ℕ
sections_overlap = 13

-- the bytes of the sections begin in the row of tags or pass the end of the file
abbrev pub load_outside : ℕ
load_outside = 14

-- the entry isn't a multiple of 4, or doesn't lie in an executable section
abbrev pub entry_outside : ℕ
entry_outside = 15

-- RAM and swap store haven't room for the page tables and the first pages
abbrev pub ram_too_small : ℕ
ram_too_small = 16

-- the file has more than 64 MiB
abbrev pub too_long : ℕ
too_long = 17

-- the check word of a process isn't that of the bytes of its sections
abbrev pub bad_load : ℕ
bad_load = 18
