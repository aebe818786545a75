-- The bytes that the sections of a process have in the file.
use Rattle.std.specs.Prelude.{ℕ, ◌+◌, ◌*◌, ◌/◌, ◌%◌, Bool, ◌||◌, ◌==◌, nat_lt, if◌then◌else◌, List, sum_by, take, drop}
use Rattle.kernel_args.specs.declared.args.ProcArgs.{ProcArgs}
use Rattle.kernel_args.specs.declared.args.Section.{Section}

-- the flags are a sum, in which 2 stands for zero-filled
abbrev pub is_zero_filled : Section → Bool
is_zero_filled s = s.flags / 2 % 2 == 1

-- how many bytes a section has in the file: a zero-filled one has none
abbrev pub file_size : Section → ℕ
file_size s = if is_zero_filled s then 0 else s.size

-- how many bytes sections have in the file
abbrev pub file_sizes : List Section → ℕ
file_sizes sections = sum_by file_size sections

-- the bytes of the sections: they stand one after the other from the load offset on
abbrev pub loaded_bytes : List ℕ → ProcArgs → List ℕ
loaded_bytes file p = take (file_sizes p.sections) (drop p.load file)

-- the load offset lies before the end of the row of tags, or the bytes of the sections pass the end of the file
abbrev pub is_load_outside : ℕ → ℕ → ProcArgs → Bool
is_load_outside words file_len p = nat_lt p.load (4 * words) || nat_lt file_len (p.load + file_sizes p.sections)
