use Rattle.vm_memory.proofs.Booting.ProcessPlacedLemmas.{ArePlaced}
use Rattle.vm_memory.proofs.memory.Memory.place_process.Given as goal

abbrev pub invariant-pages : goal.invariant-pages
invariant-pages g l = ArePlaced g.W.SwapStore l.file l.pid l.plan l.k l.fn.self l.self
