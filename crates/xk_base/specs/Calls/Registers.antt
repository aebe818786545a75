-- The registers of a thread as the list of their 32 words.
use Rattle.std.specs.Prelude.{ℕ, List, ◌++◌, take, drop, ◌==◌, slice_index, slice_set, if◌then◌else◌}

-- what register `r` holds
abbrev pub reg_at : List ℕ → ℕ → ℕ
reg_at regs r = slice_index regs r

-- the registers after a write of register `r`; x0 stays 0 (RISC-V Unprivileged ISA, 2.1)
abbrev pub with_reg : List ℕ → ℕ → ℕ → List ℕ
with_reg regs r v = if r == 0 then regs else slice_set regs r v

-- what a0 to a7 hold, which are x10 to x17: the words of a system call and of its reply
abbrev pub arguments_of : List ℕ → List ℕ
arguments_of regs = take 8 (drop 10 regs)

-- the registers with these eight words in a0 to a7
abbrev pub with_arguments : List ℕ → List ℕ → List ℕ
with_arguments words regs = take 10 regs ++ (words ++ drop 18 regs)
