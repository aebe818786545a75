use Rattle.std.proofs.Common.{arith}
use Rattle.vm_memory.proofs.Changing.LastFrameLemmas.{last_known}
use Rattle.vm_memory.proofs.memory.Memory.is_last.Goals as goal

pub returns-then-f-self : goal.returns-then-f-self
returns-then-f-self g c = last_known g.W.SwapStore.slot_count c.args.self.now c.requires.sound c.args.f.0 c.page_frames-most.result c.page_frames-most.ensures c.requires.frame
    (omega (arith, c.if-f-self.true))
