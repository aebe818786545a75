use Rattle.std.proofs.Common.{◌∙◌}
use Rattle.vm_memory.proofs.Changing.LoanCallLemmas.{same_run}
use Rattle.vm_memory.specs.Memory.{processes}
use Rattle.vm_memory.proofs.memory.Memory.free_run.Goals as goal

pub returns : goal.returns
returns g c = c.free_run.ensures (processes c.args.self.now) c.requires.process
    ∙ same_run g.W.SwapStore c.args.self.now c.requires.sound c.args.pid c.args.window c.args.n
