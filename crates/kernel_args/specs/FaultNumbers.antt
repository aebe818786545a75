-- The numbers of the faults that the arguments of an image can have.
use Rattle.std.specs.Prelude.{ℕ}

-- the file has fewer than 28 bytes
abbrev pub too_short : ℕ
too_short = 1

-- the file doesn't begin with a tag named `XArg` of five words
abbrev pub not_xarg : ℕ
not_xarg = 2

-- the version is neither 1 nor 2
abbrev pub bad_version : ℕ
bad_version = 3

-- the row of tags is below seven words or passes the end of the file, or a tag passes the end of the row
abbrev pub bad_total : ℕ
bad_total = 4

-- the check number of a tag isn't that of its contents
abbrev pub bad_check : ℕ
bad_check = 5

-- RAM isn't made of whole pages, is empty or too large, or passes the console's address
abbrev pub bad_ram : ℕ
bad_ram = 6

-- there is no process
abbrev pub no_process : ℕ
no_process = 7

-- there are more than 32 processes in version 1, or more than 64 in version 2
abbrev pub too_many_processes : ℕ
too_many_processes = 8

-- a process hasn't one to 32 whole sections, its check word is above 16 bits, or a section has an unknown flag
abbrev pub bad_ini : ℕ
bad_ini = 9

-- the entries of a `PNam` don't fill its contents exactly
abbrev pub bad_names : ℕ
bad_names = 10

-- a `SwpS` isn't one word, has more than 16,384 slots, or is the second
abbrev pub bad_slots : ℕ
bad_slots = 19
