use Rattle.std.proofs.Common.{◌≡◌, ◌*◌, ◌<◌, ◌≤◌, ℕ}
use Rattle.phys_pages.specs.Ram.{word_in}
use Rattle.sv32_space.proofs.tables.used_entry.Given as goal

-- the entries so far are 0
abbrev pub invariant-entries : goal.invariant-entries
invariant-entries l = record {
  from : l.from ≤ l.index;
  free : (k : ℕ) → l.from ≤ k → k < l.index → word_in l.table (4 * k) ≡ 0;
}
