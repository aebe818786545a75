use Rattle.std.proofs.Common.{refl, ◌∙◌}
use Rattle.xk_base.specs.declared.messages.MemKind.TheVariants.{Move}
use Rattle.vm_memory.specs.Memory.{ledger, processes}
use Rattle.vm_memory.proofs.Changing.LoanCallLemmas.{can_give, free_there, given, same_answer}
use Rattle.vm_memory.proofs.memory.Memory.give.Goals as goal

pub give_run-requires-clause-may : goal.give_run-requires-clause-may
give_run-requires-clause-may g c = same_answer g.W.SwapStore c.args.self.now c.requires.sound c.args.from c.args.n Move ∙ c.requires.may

pub give_run-requires-clause-free : goal.give_run-requires-clause-free
give_run-requires-clause-free g c = free_there g.W.SwapStore c.args.self.now c.requires.sound c.args.to c.args.n c.requires.arrival

pub returns : goal.returns
returns g c =
    let step = given g.W.SwapStore c.args.self.now c.requires.sound
    c.give_run.new.ram c.give_run.new.owners c.args.self.now.pages c.args.self.now.hand c.give_run.ensures.agrees c.give_run.ensures.keeps
    c.args.from c.args.n c.args.to c.give_run.ensures.step
    (can_give (processes c.args.self.now) (ledger g.W.SwapStore.held c.args.self.now) c.args.from c.args.n c.args.to c.requires.arrival c.requires.may) refl refl in
    record { ledger = step.ledger; keeps = step.keeps }
