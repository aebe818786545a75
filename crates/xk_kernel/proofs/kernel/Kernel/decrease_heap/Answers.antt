use Rattle.std.proofs.Common.{◌≤◌, ◌/◌, arith, rules}
use Rattle.vm_memory.specs.Memory.{ledger, processes}
use Rattle.xk_kernel.proofs.Memory.HeapLemmas.{decrease_done, decrease_lent, decrease_too_many, heap_told, heap_within, whole_with_parts}
use Rattle.xk_kernel.proofs.Memory.KeptLoanLemmas.{clear_keeps}
use Rattle.xk_kernel.proofs.kernel.Kernel.decrease_heap.Goals as goal

pub returns-then-bytes-heap-clause-outcome : goal.returns-then-bytes-heap-clause-outcome
returns-then-bytes-heap-clause-outcome g c =
    decrease_too_many g.W.SwapStore c.args.self.now c.requires.whole c.args.bytes c.if-bytes-ne0.false c.heap-heap.result
    (heap_told g.W.SwapStore c.args.self.now c.requires.whole c.heap-heap.result c.heap-heap.ensures) c.if-bytes-heap.true

pub overflow_add-heap : goal.overflow_add-heap
overflow_add-heap g c =
    let within : c.heap-heap.result ≤ 16777216 =
    heap_within g.W.SwapStore c.args.self.now c.requires.whole c.heap-heap.result
    (heap_told g.W.SwapStore c.args.self.now c.requires.whole c.heap-heap.result c.heap-heap.ensures) c.requires.matched in
    omega (arith, within)

pub returns-in-Ok-clause-stays : goal.returns-in-Ok-clause-stays
returns-in-Ok-clause-stays g c =
    let whole =
    whole_with_parts g.W.SwapStore c.args.self.now c.requires.whole c.clear_run.new.self c.set_heap.new.self
    c.clear_run.ensures.size c.clear_run.ensures.sound
    (clear_keeps (processes c.args.self.now.mem) c.clear_run.result c.caller_place-first.result (c.args.bytes / 4096) (ledger g.W.SwapStore.held c.args.self.now.mem)
    (ledger g.W.SwapStore.held c.clear_run.new.self) c.clear_run.ensures.answer c.clear_run.ensures.ledger)
    c.set_heap.ensures.count in
    search (rules, whole)

pub returns-in-Ok-clause-outcome : goal.returns-in-Ok-clause-outcome
returns-in-Ok-clause-outcome g c =
    decrease_done g.W.SwapStore c.args.self.now c.requires.whole c.args.bytes c.if-bytes-ne0.false c.heap-heap.result
    (heap_told g.W.SwapStore c.args.self.now c.requires.whole c.heap-heap.result c.heap-heap.ensures)
    c.clear_run.new.self c.set_heap.new.self c.if-bytes-heap.false c.clear_run.ensures.size
    (rw c.caller_place-first.ensures at c.in-Ok.ensures.answer) (rw c.caller_place-first.ensures at c.in-Ok.ensures.ledger) c.set_heap.ensures.after

pub returns-in-Err-clause-outcome : goal.returns-in-Err-clause-outcome
returns-in-Err-clause-outcome g c =
    decrease_lent g.W.SwapStore c.args.self.now c.requires.whole c.args.bytes c.if-bytes-ne0.false c.heap-heap.result
    (heap_told g.W.SwapStore c.args.self.now c.requires.whole c.heap-heap.result c.heap-heap.ensures)
    c.in-Err.error c.if-bytes-heap.false (rw c.caller_place-first.ensures at c.in-Err.ensures.answer)
