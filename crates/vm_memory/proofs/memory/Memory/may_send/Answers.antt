use Rattle.std.proofs.Common.{◌∙◌}
use Rattle.vm_memory.proofs.Changing.LoanCallLemmas.{same_answer}
use Rattle.vm_memory.specs.Memory.{processes}
use Rattle.vm_memory.proofs.memory.Memory.may_send.Goals as goal

pub returns : goal.returns
returns g c = c.may_send.ensures (processes c.args.self.now) c.requires.process
    ∙ same_answer g.W.SwapStore c.args.self.now c.requires.sound c.args.from c.args.n c.args.kind
