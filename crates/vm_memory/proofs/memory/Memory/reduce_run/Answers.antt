use Rattle.vm_memory.proofs.Changing.CallLemmas.{alone-means, alone-none_out}
use Rattle.vm_memory.proofs.Changing.SoundMemoryLemmas.{sound-tied}
use Rattle.vm_memory.proofs.memory.Memory.reduce_run.Goals as goal

pub returns-then-any-clause-tie : goal.returns-then-any-clause-tie
returns-then-any-clause-tie g c = sound-tied g.W.SwapStore c.args.self.now c.requires.sound

pub returns-then-any-2-clause-tie : goal.returns-then-any-2-clause-tie
returns-then-any-2-clause-tie g c = sound-tied g.W.SwapStore c.args.self.now c.requires.sound

pub returns-then-any-3-clause-tie : goal.returns-then-any-3-clause-tie
returns-then-any-3-clause-tie g c = sound-tied g.W.SwapStore c.args.self.now c.requires.sound

pub returns-clause-tie : goal.returns-clause-tie
returns-clause-tie g c = sound-tied g.W.SwapStore c.set_rights.new.self c.set_rights.ensures.sound

pub returns-clause-means : goal.returns-clause-means
returns-clause-means g c = alone-means g.W.SwapStore c.args.self.now c.set_rights.new.self c.set_rights.ensures.rest

pub returns-clause-none : goal.returns-clause-none
returns-clause-none g c = alone-none_out c.args.self.now c.set_rights.new.self c.set_rights.ensures.rest
