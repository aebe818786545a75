use Rattle.vm_memory.proofs.Bytes.WholePageLemmas.{whole_pages}
use Rattle.vm_memory.proofs.memory.Memory.pages_are_whole.Goals as goal

pub returns : goal.returns
returns g c = whole_pages g.W.SwapStore c.args.self.now c.requires.sound c.pages_are_bytes.ensures
