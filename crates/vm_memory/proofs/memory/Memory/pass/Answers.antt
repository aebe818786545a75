use Rattle.std.proofs.Common.{refl}
use Rattle.vm_memory.proofs.Changing.LoanCallLemmas.{free_there, passed, stands_here, stands_there}
use Rattle.vm_memory.proofs.memory.Memory.pass.Goals as goal

pub pass_run-requires-clause-stands : goal.pass_run-requires-clause-stands
pass_run-requires-clause-stands g c = stands_there g.W.SwapStore c.args.self.now c.requires.sound c.args.loan c.requires.stands

pub pass_run-requires-clause-free : goal.pass_run-requires-clause-free
pass_run-requires-clause-free g c = free_there g.W.SwapStore c.args.self.now c.requires.sound c.args.to c.args.loan.count c.requires.arrival

pub returns : goal.returns
returns g c =
    let step = passed g.W.SwapStore c.args.self.now c.requires.sound
    c.pass_run.new.ram c.pass_run.new.owners c.args.self.now.pages c.args.self.now.hand c.pass_run.ensures.agrees c.pass_run.ensures.keeps
    c.args.loan c.args.to c.pass_run.ensures.step
    (record { stands = c.requires.stands; lent = c.requires.lent; free = c.requires.arrival.free; lies = c.requires.arrival.lies }) refl refl in
    record {
      loan = c.pass_run.ensures.loan;
      ledger = step.ledger;
      stands = stands_here g.W.SwapStore _ step.keeps.sound _ c.pass_run.ensures.stands;
      keeps = step.keeps;
    }
