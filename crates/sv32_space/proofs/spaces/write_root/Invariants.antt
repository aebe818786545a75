use Rattle.sv32_space.proofs.ClearLemmas.{IsRootBelow}
use Rattle.sv32_space.proofs.spaces.write_root.Given as goal

abbrev pub invariant-loop-i : goal.invariant-loop-i
invariant-loop-i l = IsRootBelow l.initial.ram l.ram l.first.0 l.i
