use Rattle.std.proofs.Common.{refl, ◌∙◌}
use Rattle.loan_flags.specs.Sending.{mem_kind}
use Rattle.vm_memory.specs.Memory.{ledger, processes}
use Rattle.vm_memory.proofs.Changing.LoanCallLemmas.{can_lend, free_there, lent, same_answer, stands_here, unlent_there}
use Rattle.vm_memory.proofs.memory.Memory.lend.Goals as goal

pub lend_run-requires-clause-may : goal.lend_run-requires-clause-may
lend_run-requires-clause-may g c = same_answer g.W.SwapStore c.args.self.now c.requires.sound c.args.from c.args.n (mem_kind c.args.kind) ∙ c.requires.may

pub lend_run-requires-clause-free : goal.lend_run-requires-clause-free
lend_run-requires-clause-free g c = free_there g.W.SwapStore c.args.self.now c.requires.sound c.args.to c.args.n c.requires.arrival

pub lend_run-requires-clause-unlent : goal.lend_run-requires-clause-unlent
lend_run-requires-clause-unlent g c = unlent_there g.W.SwapStore c.args.self.now c.requires.sound c.args.number c.requires.fresh

pub returns : goal.returns
returns g c =
    let step = lent g.W.SwapStore c.args.self.now c.requires.sound
    c.lend_run.new.ram c.lend_run.new.owners c.args.self.now.pages c.args.self.now.hand c.lend_run.ensures.agrees c.lend_run.ensures.keeps
    c.args.from c.args.n c.args.to c.args.kind c.args.number c.lend_run.ensures.step
    (can_lend (processes c.args.self.now) (ledger g.W.SwapStore.held c.args.self.now) c.args.from c.args.n c.args.to c.requires.arrival
    c.args.kind c.args.number c.requires.may c.requires.fresh) refl refl in
    record {
      loan = c.lend_run.ensures.loan;
      ledger = step.ledger;
      stands = stands_here g.W.SwapStore _ step.keeps.sound _ c.lend_run.ensures.stands;
      keeps = step.keeps;
    }
