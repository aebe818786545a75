use Rattle.vm_memory.proofs.Changing.SoundMemoryLemmas.{sound-tied}
use Rattle.vm_memory.proofs.memory.Memory.ram.Goals as goal

pub returns-clause-tie : goal.returns-clause-tie
returns-clause-tie g c = sound-tied g.W.SwapStore c.args.self.now c.requires.sound
