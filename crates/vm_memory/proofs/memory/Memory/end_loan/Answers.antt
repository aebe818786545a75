use Rattle.std.proofs.Common.{◌-◌, ap, ◌≤◌, subst, sym, ◌∙◌, arith}
use Rattle.vm_memory.proofs.Changing.LoanCallLemmas.{ended, fresh_here, orphans_counted, stands_there}
use Rattle.vm_memory.proofs.memory.Memory.end_loan.Goals as goal

pub end_run-requires-clause-stands : goal.end_run-requires-clause-stands
end_run-requires-clause-stands g c = stands_there g.W.SwapStore c.args.self.now c.requires.sound c.args.loan c.requires.stands

pub overflow_sub-self : goal.overflow_sub-self
overflow_sub-self g c = subst (λ k. k ≤ c.args.self.now.pages) (sym c.orphans-gone.ensures)
    (orphans_counted g.W.SwapStore c.args.self.now c.requires.sound c.args.loan c.requires.stands)

pub returns : goal.returns
returns g c =
    let step = ended g.W.SwapStore c.args.self.now c.requires.sound
    c.end_run.new.ram c.end_run.new.owners (c.args.self.now.pages - c.orphans-gone.result) c.hand_left-self.result c.end_run.ensures.agree c.end_run.ensures.keeps
    c.args.loan c.end_run.ensures.step c.requires.stands (ap (λ k. c.args.self.now.pages - k) c.orphans-gone.ensures)
    (λ none. c.hand_left-self.ensures.kept (c.orphans-gone.ensures ∙ none))
    (λ some over. c.hand_left-self.ensures.anew (omega (arith, some, c.orphans-gone.ensures)) (omega (arith, over, c.page_frames-frames.ensures))) in
    record {
      ledger = step.ledger;
      fresh = fresh_here g.W.SwapStore _ step.keeps.sound c.args.loan.number c.end_run.ensures.fresh;
      keeps = step.keeps;
    }
