use Rattle.std.proofs.Common.{sym, ◌∙◌, ◌/◌, rules}
use Rattle.std.specs.Prelude.{Ok, Err}
use Rattle.machine_model.specs.Calling.MemoryCalls.{are_bad_flags}
use Rattle.syscall_codec.specs.Flags.{right_of}
use Rattle.vm_memory.specs.Memory.{ledger}
use Rattle.xk_kernel.proofs.Memory.KeptLoanLemmas.{reduce_keeps}
use Rattle.xk_kernel.proofs.Memory.MemoryCallLemmas.{caller_process, right_told, update_outcome, whole_with_mem}
use Rattle.xk_kernel.proofs.kernel.Kernel.update_memory_flags.Goals as goal

pub reduce_run-requires-clause-process : goal.reduce_run-requires-clause-process
reduce_run-requires-clause-process g c = rw c.caller_place-first.ensures (caller_process g.W.SwapStore c.args.self.now c.requires.whole)

pub returns-in-Ok-clause-stays : goal.returns-in-Ok-clause-stays
returns-in-Ok-clause-stays g c =
    let whole =
    whole_with_mem g.W.SwapStore c.args.self.now c.reduce_run.new.self c.requires.whole c.reduce_run.ensures.size c.reduce_run.ensures.sound
    (reduce_keeps c.reduce_run.result c.caller_place-first.result (c.args.size / 4096) c.in-Some.right (ledger g.W.SwapStore.held c.args.self.now.mem)
    (ledger g.W.SwapStore.held c.reduce_run.new.self) c.reduce_run.ensures.ledger) in
    search (rules, whole)

pub returns-in-Ok-clause-outcome : goal.returns-in-Ok-clause-outcome
returns-in-Ok-clause-outcome g c =
    update_outcome g.W.SwapStore.held c.args.self.now c.reduce_run.new.self c.args.address c.args.size c.args.flags c.in-Some.right (Ok c.in-Ok.field-0)
    c.reduce_run.ensures.size (sym c.is_bad_range.ensures ∙ c.if-is_bad_range.false)
    (right_told (are_bad_flags c.args.flags) (right_of c.args.flags) c.in-Some.right (sym c.in-Some.is ∙ c.right_asked.ensures))
    (rw c.caller_place-first.ensures at c.in-Ok.ensures.answer) (rw c.caller_place-first.ensures at c.in-Ok.ensures.ledger)

pub returns-in-Err-clause-outcome : goal.returns-in-Err-clause-outcome
returns-in-Err-clause-outcome g c =
    update_outcome g.W.SwapStore.held c.args.self.now c.reduce_run.new.self c.args.address c.args.size c.args.flags c.in-Some.right (Err c.in-Err.error)
    c.reduce_run.ensures.size (sym c.is_bad_range.ensures ∙ c.if-is_bad_range.false)
    (right_told (are_bad_flags c.args.flags) (right_of c.args.flags) c.in-Some.right (sym c.in-Some.is ∙ c.right_asked.ensures))
    (rw c.caller_place-first.ensures at c.in-Err.ensures.answer) c.in-Err.ensures.ledger
