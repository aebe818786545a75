use Rattle.std.proofs.Common.{sym, ◌∙◌}
use Rattle.vm_memory.proofs.Changing.SoundMemoryLemmas.{pages-ledger}
use Rattle.vm_memory.proofs.memory.Memory.pages.Goals as goal

pub returns : goal.returns
returns g c = c.requires.sound.pages ∙ sym (pages-ledger g.W.SwapStore.held c.args.self.now)
