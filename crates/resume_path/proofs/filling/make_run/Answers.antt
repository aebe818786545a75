use Rattle.std.proofs.Common.{Some, ap, ◌∙◌}
use Rattle.ledger_model.specs.Loans.{bare}
use Rattle.vm_memory.specs.Memory.{capacity_of, ledger, processes, room_in}
use Rattle.vm_memory.specs.Pages.Making.{make_answer}
use Rattle.resume_path.proofs.Homes.MadeFirstLemmas.{made_first_keeps}
use Rattle.resume_path.proofs.Homes.ComingLemmas.{make_comes, on_failed, served_make}
use Rattle.resume_path.proofs.filling.make_run.Goals as goal

-- src/filling.rt
pub returns-in_err-make-clause-failed : goal.returns-in_err-make-clause-failed
returns-in_err-make-clause-failed g c =
    on_failed g.W.SwapStore c.from_residual.result c.args.mem.now c.make.new.self c.in_err-make.ensures.sound
    (made_first_keeps (processes c.args.mem.now) (capacity_of c.args.mem.now) c.args.first.pid c.args.window (Some c.args.first.vpn) c.args.n c.args.right
    (ledger g.W.SwapStore.held c.args.mem.now) (ledger g.W.SwapStore.held c.make.new.self) c.requires.process c.in_err-make.ensures.partial)
    c.in_err-make.ensures.cause

pub returns-clause-comes : goal.returns-clause-comes
returns-clause-comes g c = λ total l come fits.
    let same = served_make c.args.first c.args.n c.args.right c.in_ok-make.field-0
    (make_answer (room_in c.args.mem.now) (ledger g.W.SwapStore.held c.args.mem.now) c.args.first.pid c.args.window (Some c.args.first.vpn) c.args.n)
    (ledger g.W.SwapStore.held c.args.mem.now) c.in_ok-make.ensures.answer c.requires.served in
    make_comes g.W.SwapStore c.args.mem.now c.make.new.self
    (record { size = c.in_ok-make.ensures.size; store = c.in_ok-make.ensures.store }) total l come c.args.first c.args.n c.args.right
    c.in_ok-make.ensures.sound c.in_ok-make.ensures.usable (c.in_ok-make.ensures.rights ∙ ap bare same) (λ over. c.in_ok-make.ensures.whole over ∙ same)
    c.in_ok-make.ensures.near fits
