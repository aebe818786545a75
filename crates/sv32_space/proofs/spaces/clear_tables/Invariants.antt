use Rattle.sv32_space.proofs.ClearLemmas.{AreCleared}
use Rattle.sv32_space.proofs.spaces.clear_tables.Given as goal

abbrev pub invariant-loop-f : goal.invariant-loop-f
invariant-loop-f l = AreCleared l.initial.ram l.ram l.fn.first.0 l.f
