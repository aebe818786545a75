use Rattle.std.proofs.Common.{sym, ◌∙◌, ◌/◌, rules}
use Rattle.std.specs.Prelude.{Ok, Err}
use Rattle.vm_memory.specs.Memory.{ledger, processes}
use Rattle.xk_kernel.proofs.Memory.KeptLoanLemmas.{remove_keeps}
use Rattle.xk_kernel.proofs.Memory.MemoryCallLemmas.{caller_process, unmap_outcome, whole_with_mem}
use Rattle.xk_kernel.proofs.kernel.Kernel.unmap_memory.Goals as goal

pub remove_run-requires-clause-process : goal.remove_run-requires-clause-process
remove_run-requires-clause-process g c = rw c.caller_place-first.ensures (caller_process g.W.SwapStore c.args.self.now c.requires.whole)

pub returns-in-Ok-clause-stays : goal.returns-in-Ok-clause-stays
returns-in-Ok-clause-stays g c =
    let whole =
    whole_with_mem g.W.SwapStore c.args.self.now c.remove_run.new.self c.requires.whole c.remove_run.ensures.size c.remove_run.ensures.sound
    (remove_keeps (processes c.args.self.now.mem) c.remove_run.result c.caller_place-first.result (c.args.size / 4096) (ledger g.W.SwapStore.held c.args.self.now.mem)
    (ledger g.W.SwapStore.held c.remove_run.new.self) c.remove_run.ensures.answer c.remove_run.ensures.ledger) in
    search (rules, whole)

pub returns-in-Ok-clause-outcome : goal.returns-in-Ok-clause-outcome
returns-in-Ok-clause-outcome g c =
    unmap_outcome g.W.SwapStore.held c.args.self.now c.remove_run.new.self c.args.address c.args.size (Ok c.in-Ok.field-0)
    c.remove_run.ensures.size (sym c.is_bad_range.ensures ∙ c.if-is_bad_range.false)
    (rw c.caller_place-first.ensures at c.in-Ok.ensures.answer) (rw c.caller_place-first.ensures at c.in-Ok.ensures.ledger)

pub returns-in-Err-clause-outcome : goal.returns-in-Err-clause-outcome
returns-in-Err-clause-outcome g c =
    unmap_outcome g.W.SwapStore.held c.args.self.now c.remove_run.new.self c.args.address c.args.size (Err c.in-Err.error)
    c.remove_run.ensures.size (sym c.is_bad_range.ensures ∙ c.if-is_bad_range.false)
    (rw c.caller_place-first.ensures at c.in-Err.ensures.answer) c.in-Err.ensures.ledger
