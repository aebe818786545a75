use Rattle.sv32_space.proofs.TableLemmas.{AreBelow}
use Rattle.sv32_space.proofs.tables.all_bits.Given as goal

-- none of the first i words is above the bits so far
abbrev pub invariant-loop-i : goal.invariant-loop-i
invariant-loop-i l = AreBelow l.fn.table l.i l.bits
