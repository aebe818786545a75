use Rattle.vm_memory.specs.Memory.{IsUsable}
use Rattle.vm_memory.specs.Pages.Making.{MakesPages}
use Rattle.vm_memory.proofs.memory.Memory.make_crowded.Given as goal

-- the first i pages are made
abbrev pub invariant-loop-i : goal.invariant-loop-i
invariant-loop-i g l = record {
  made : MakesPages g.W.SwapStore l.fn.self l.self l.fn.first l.i l.fn.right;
  usable : IsUsable l.self;
}
