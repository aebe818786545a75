use Rattle.std.proofs.Common.{sym, ◌∙◌}
use Rattle.xk_base.specs.declared.pages.Access.TheVariants.{Store}
use Rattle.vm_memory.proofs.Using.UserLemmas.{may_by}
use Rattle.vm_memory.proofs.memory.Memory.may_store.Goals as goal

pub returns : goal.returns
returns g c = c.gives.ensures ∙ sym (may_by g.W.SwapStore c.args.self.now c.requires.sound c.args.pid c.args.va Store)
