use Rattle.std.proofs.Common.{sym, ◌∙◌}
use Rattle.vm_memory.proofs.Changing.AnsweringLemmas.{can_console}
use Rattle.vm_memory.proofs.Changing.CallLemmas.{alone-means, alone-none_out}
use Rattle.vm_memory.proofs.Changing.SoundMemoryLemmas.{sound-tied}
use Rattle.vm_memory.proofs.memory.Memory.make_console.Goals as goal

pub returns-then-console_mapped-clause-tie : goal.returns-then-console_mapped-clause-tie
returns-then-console_mapped-clause-tie g c = sound-tied g.W.SwapStore c.args.self.now c.requires.sound

pub returns-in-Err-clause-tie : goal.returns-in-Err-clause-tie
returns-in-Err-clause-tie g c = sound-tied g.W.SwapStore c.args.self.now c.requires.sound

pub returns-in-Ok-clause-tie : goal.returns-in-Ok-clause-tie
returns-in-Ok-clause-tie g c = sound-tied g.W.SwapStore c.place_console.new.self c.place_console.ensures.sound

pub returns-in-Ok-clause-means : goal.returns-in-Ok-clause-means
returns-in-Ok-clause-means g c = alone-means g.W.SwapStore c.args.self.now c.place_console.new.self c.place_console.ensures.rest

pub place_console-requires-clause-can : goal.place_console-requires-clause-can
place_console-requires-clause-can g c = can_console g.W.SwapStore c.args.self.now c.requires.sound c.args.pid c.args.at c.in-Ok.first
    c.requires.process (sym c.console_mapped.ensures ∙ c.if-console_mapped.false) (sym c.find_run.ensures ∙ c.in-Ok.is)

pub returns-in-Ok-clause-none : goal.returns-in-Ok-clause-none
returns-in-Ok-clause-none g c = alone-none_out c.args.self.now c.place_console.new.self c.place_console.ensures.rest
