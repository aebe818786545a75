use Rattle.std.proofs.Common.{◌≡◌, ◌+◌, ◌<◌, ◌≤◌, ℕ, get_or, length}
use Rattle.suspend_image.specs.Reading.{greatest}
use Rattle.save_path.proofs.threads.registers.Given as goal

-- the registers so far
abbrev pub invariant-loop-k : goal.invariant-loop-k
invariant-loop-k l = record {
  same : (j : ℕ) → j < l.k → get_or l.words j 0 ≡ get_or l.regs (j + 1) 0;
  size : length l.words ≡ 31;
  all : 0 < l.k → length l.regs ≡ 32;
  first : 0 < l.k → get_or l.regs 0 0 ≡ 0;
  words : (j : ℕ) → j < l.k → get_or l.regs (j + 1) 0 ≤ greatest;
}
