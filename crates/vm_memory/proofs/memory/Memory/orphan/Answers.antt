use Rattle.std.proofs.Common.{refl}
use Rattle.vm_memory.proofs.Changing.LoanCallLemmas.{orphaned, stands_here, stands_there}
use Rattle.vm_memory.proofs.memory.Memory.orphan.Goals as goal

pub orphan_run-requires-clause-stands : goal.orphan_run-requires-clause-stands
orphan_run-requires-clause-stands g c = stands_there g.W.SwapStore c.args.self.now c.requires.sound c.args.loan c.requires.stands

pub returns : goal.returns
returns g c =
    let step = orphaned g.W.SwapStore c.args.self.now c.requires.sound
    c.orphan_run.new.ram c.orphan_run.new.owners c.args.self.now.pages c.args.self.now.hand c.orphan_run.ensures.agrees c.orphan_run.ensures.keeps
    c.args.loan.number c.orphan_run.ensures.step refl refl in
    record {
      loan = c.orphan_run.ensures.loan;
      ledger = step.ledger;
      stands = stands_here g.W.SwapStore _ step.keeps.sound _ c.orphan_run.ensures.stands;
      keeps = step.keeps;
    }
