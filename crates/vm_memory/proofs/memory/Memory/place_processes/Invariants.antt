use Rattle.vm_memory.proofs.Booting.BootLemmas.{AreBooted}
use Rattle.vm_memory.proofs.memory.Memory.place_processes.Given as goal

abbrev pub invariant-processes : goal.invariant-processes
invariant-processes g l = AreBooted g.W.SwapStore l.file l.plan l.k l.fn.self l.self
