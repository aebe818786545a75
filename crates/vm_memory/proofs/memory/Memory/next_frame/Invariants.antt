use Rattle.vm_memory.proofs.Changing.LastFrameLemmas.{HasPassed}
use Rattle.vm_memory.proofs.memory.Memory.next_frame.Given as goal

-- the frame that the search began at is used, once it is passed; where those behind it are used too, the least free one is before it
abbrev pub invariant-loop-k : goal.invariant-loop-k
invariant-loop-k g l = HasPassed l.fn.self.owners l.fn.from.0 l.k
