use Rattle.phys_pages.specs.Ram.{Area, IsPlaced}
use Rattle.sv32_space.proofs.TableLemmas.{IsSeen}
use Rattle.sv32_space.proofs.tables.any_console.Given as goal

-- what the first i words tell
abbrev pub invariant-loop-i : goal.invariant-loop-i
invariant-loop-i l = (a : Area) → IsPlaced a → IsSeen a l.fn.table l.i l.found
