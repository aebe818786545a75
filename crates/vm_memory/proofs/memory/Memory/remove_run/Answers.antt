use Rattle.vm_memory.proofs.Changing.CallLemmas.{alone-means, alone-none_out}
use Rattle.vm_memory.proofs.Changing.SoundMemoryLemmas.{sound-tied}
use Rattle.vm_memory.proofs.memory.Memory.remove_run.Goals as goal

pub returns-then-any-clause-tie : goal.returns-then-any-clause-tie
returns-then-any-clause-tie g c = sound-tied g.W.SwapStore c.args.self.now c.requires.sound

pub returns-then-any-2-clause-tie : goal.returns-then-any-2-clause-tie
returns-then-any-2-clause-tie g c = sound-tied g.W.SwapStore c.args.self.now c.requires.sound

pub returns-clause-tie : goal.returns-clause-tie
returns-clause-tie g c = sound-tied g.W.SwapStore c.drop_pages.new.self c.drop_pages.ensures.sound

pub returns-clause-means : goal.returns-clause-means
returns-clause-means g c = alone-means g.W.SwapStore c.args.self.now c.drop_pages.new.self c.drop_pages.ensures.rest

pub returns-clause-none : goal.returns-clause-none
returns-clause-none g c = alone-none_out c.args.self.now c.drop_pages.new.self c.drop_pages.ensures.rest
