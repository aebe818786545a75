use Rattle.std.proofs.Common.{◌≡◌, sym, ap, ◌∙◌}
use Rattle.ledger_model.specs.Loans.{LoanRun}
use Rattle.vm_memory.specs.Memory.{ledger, processes}
use Rattle.vm_memory.proofs.Booting.ProcessPlacedLemmas.{on_ok_then}
use Rattle.memory_tests.proofs.UnlentLemmas.{ended_none, orphaned_alone}
use Rattle.memory_tests.proofs.memory.loans.while_orphaned.Goals as goal

pub returns-clause-usable : goal.returns-clause-usable
returns-clause-usable g c = on_ok_then c.both-done.result _ _ c.both-done.ensures.usable (λ usable. c.end_loan.ensures.keeps.failed ∙ usable)

pub returns-clause-no_loan : goal.returns-clause-no_loan
returns-clause-no_loan g c =
    let same : c.orphan-orphans.result.number ≡ c.in-Some.loan.number = ap (λ (loan : LoanRun). loan.number) c.orphan-orphans.ensures.loan in
    ended_none c.orphan-orphans.result.number (ledger g.W.SwapStore.held c.orphan-orphans.new.self)
    (ledger g.W.SwapStore.held c.both-done.new.memory) (ledger g.W.SwapStore.held c.end_loan.new.self)
    c.both-done.ensures.loans c.end_loan.ensures.ledger
    (λ other apart. orphaned_alone (processes c.lent.new.memory) c.in-Some.loan.number (ledger g.W.SwapStore.held c.lent.new.memory)
    (ledger g.W.SwapStore.held c.orphan-orphans.new.self) c.orphan-orphans.ensures.ledger c.in-Some.ensures.alone other
    (λ e. apart (e ∙ sym same)))
