use Rattle.vm_memory.proofs.Booting.SpacesMadeLemmas.{AreMade}
use Rattle.vm_memory.proofs.memory.boot.make_spaces.Given as goal

abbrev pub invariant-spaces : goal.invariant-spaces
invariant-spaces l = AreMade l.procs l.k l.fn.ram l.ram
