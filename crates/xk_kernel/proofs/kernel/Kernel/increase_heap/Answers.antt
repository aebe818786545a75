use Rattle.std.proofs.Common.{Some, ◌+◌, ◌≤◌, ◌<◌, ◌-◌, ◌/◌, arith, sym, rules}
use Rattle.std.specs.Prelude.{Err}
use Rattle.ledger_model.specs.Ledger.{pages}
use Rattle.xk_base.specs.declared.errors.XousError.TheVariants.{InvalidLimit}
use Rattle.xk_base.specs.declared.windows.Window.TheVariants.{Heap}
use Rattle.vm_memory.specs.Bytes.{none_out}
use Rattle.vm_memory.specs.Memory.{capacity_of, frames_for_pages, ledger, processes}
use Rattle.xk_kernel.proofs.Memory.HeapGrowthLemmas.{heap_right, increase_by_none, increase_crowds, increase_done, increase_past, increase_refused}
use Rattle.xk_kernel.proofs.Memory.HeapLemmas.{heap_told, heap_within, whole_with_parts}
use Rattle.resume_path.proofs.Homes.MadeFirstLemmas.{made_first_keeps}
use Rattle.xk_kernel.proofs.Memory.MadeLemmas.{made_loans, serves_by, too_many}
use Rattle.xk_kernel.proofs.Memory.MemoryCallLemmas.{caller_process, whole_with_mem}
use Rattle.xk_kernel.proofs.kernel.Kernel.increase_heap.Goals as goal

pub overflow_sub-heap : goal.overflow_sub-heap
overflow_sub-heap g c = (heap_within g.W.SwapStore c.args.self.now c.requires.whole c.heap-heap.result (heap_told g.W.SwapStore c.args.self.now c.requires.whole c.heap-heap.result c.heap-heap.ensures) c.requires.matched)

pub returns-then-bytes-heap-clause-outcome : goal.returns-then-bytes-heap-clause-outcome
returns-then-bytes-heap-clause-outcome g c =
    serves_by _ _ _ (Err InvalidLimit)
    (increase_past g.W.SwapStore c.args.self.now c.requires.whole c.requires.matched c.args.bytes c.if-bytes-ne0.false c.heap-heap.result (heap_told g.W.SwapStore c.args.self.now c.requires.whole c.heap-heap.result c.heap-heap.ensures)
    (let over : 16777216 - c.heap-heap.result < c.args.bytes = c.if-bytes-heap.true in omega (arith, over)))

pub overflow_add-address : goal.overflow_add-address
overflow_add-address g c = let within : c.heap-heap.result ≤ 16777216 = (heap_within g.W.SwapStore c.args.self.now c.requires.whole c.heap-heap.result (heap_told g.W.SwapStore c.args.self.now c.requires.whole c.heap-heap.result c.heap-heap.ensures) c.requires.matched) in omega (arith, within)

pub returns-then-bytes-eq0-clause-outcome : goal.returns-then-bytes-eq0-clause-outcome
returns-then-bytes-eq0-clause-outcome g c =
    serves_by _ _ _ _
    (increase_by_none g.W.SwapStore c.args.self.now c.requires.whole c.requires.matched c.args.bytes c.if-bytes-ne0.false c.heap-heap.result
    (heap_told g.W.SwapStore c.args.self.now c.requires.whole c.heap-heap.result c.heap-heap.ensures)
    (let within : c.heap-heap.result ≤ 16777216 =
    (heap_within g.W.SwapStore c.args.self.now c.requires.whole c.heap-heap.result
    (heap_told g.W.SwapStore c.args.self.now c.requires.whole c.heap-heap.result c.heap-heap.ensures) c.requires.matched) in
    let room : c.args.bytes ≤ 16777216 - c.heap-heap.result = c.if-bytes-heap.false in omega (arith, within, room)) c.if-bytes-eq0.true)

pub returns-in-Ok-Ok-clause-leaves : goal.returns-in-Ok-Ok-clause-leaves
returns-in-Ok-Ok-clause-leaves g c = record {
  whole = whole_with_parts g.W.SwapStore c.args.self.now c.requires.whole c.make.new.self c.set_heap.new.self c.make.ensures.size c.make.ensures.sound
      (made_loans g.W.SwapStore.held c.args.self.now Heap (Some (record { 0 = (536870912 + c.heap-heap.result) / 4096 })) (c.args.bytes / 4096) heap_right (caller_process g.W.SwapStore c.args.self.now c.requires.whole) c.in-Ok-Ok.field-0
      (ledger g.W.SwapStore.held c.make.new.self) c.in-Ok-Ok.ensures.answer c.in-Ok-Ok.ensures.rights)
      c.set_heap.ensures.count;
  usable = search rules;
  keeps = search rules;
  failed = tt;
  cause = tt;
  crowded = tt;
  near = λ none out. increase_crowds g.W.SwapStore c.args.self.now c.requires.whole c.requires.matched c.args.bytes c.if-bytes-ne0.false c.heap-heap.result
      (heap_told g.W.SwapStore c.args.self.now c.requires.whole c.heap-heap.result c.heap-heap.ensures)
      (let within : c.heap-heap.result ≤ 16777216 =
      (heap_within g.W.SwapStore c.args.self.now c.requires.whole c.heap-heap.result
      (heap_told g.W.SwapStore c.args.self.now c.requires.whole c.heap-heap.result c.heap-heap.ensures) c.requires.matched) in
      let room : c.args.bytes ≤ 16777216 - c.heap-heap.result = c.if-bytes-heap.false in omega (arith, within, room)) c.in-Ok-Ok.field-0-0
      (caller_process g.W.SwapStore c.args.self.now c.requires.whole)
      (rw c.in-Ok-Ok.field-0-is at c.in-Ok-Ok.ensures.answer)
      (too_many (frames_for_pages c.args.self.now.mem) (pages (processes c.args.self.now.mem) (ledger g.W.SwapStore.held c.args.self.now.mem) + c.args.bytes / 4096) (none_out c.make.new.self)
      (λ few. c.make.ensures.near few none) out);
}

pub returns-in-Ok-Ok-clause-outcome : goal.returns-in-Ok-Ok-clause-outcome
returns-in-Ok-Ok-clause-outcome g c =
    increase_done g.W.SwapStore c.args.self.now c.requires.whole c.requires.matched c.args.bytes c.if-bytes-ne0.false c.heap-heap.result
    (heap_told g.W.SwapStore c.args.self.now c.requires.whole c.heap-heap.result c.heap-heap.ensures)
    (let within : c.heap-heap.result ≤ 16777216 =
    (heap_within g.W.SwapStore c.args.self.now c.requires.whole c.heap-heap.result
    (heap_told g.W.SwapStore c.args.self.now c.requires.whole c.heap-heap.result c.heap-heap.ensures) c.requires.matched) in
    let room : c.args.bytes ≤ 16777216 - c.heap-heap.result = c.if-bytes-heap.false in
    omega (arith, within, room)) c.make.new.self c.set_heap.new.self c.in-Ok-Ok.field-0-0 c.make.ensures.size
    (rw c.in-Ok-Ok.field-0-is at c.in-Ok-Ok.ensures.answer)
    (rw c.in-Ok-Ok.field-0-is at c.in-Ok-Ok.ensures.rights)
    (rw c.in-Ok-Ok.field-0-is at c.in-Ok-Ok.ensures.whole) c.set_heap.ensures.after

pub returns-in-Ok-Err-clause-outcome : goal.returns-in-Ok-Err-clause-outcome
returns-in-Ok-Err-clause-outcome g c =
    serves_by _ _ _ (Err c.in-Ok-Err.error)
    (increase_refused g.W.SwapStore c.args.self.now c.requires.whole c.requires.matched c.args.bytes c.if-bytes-ne0.false c.heap-heap.result
    (heap_told g.W.SwapStore c.args.self.now c.requires.whole c.heap-heap.result c.heap-heap.ensures)
    (let within : c.heap-heap.result ≤ 16777216 =
    (heap_within g.W.SwapStore c.args.self.now c.requires.whole c.heap-heap.result
    (heap_told g.W.SwapStore c.args.self.now c.requires.whole c.heap-heap.result c.heap-heap.ensures) c.requires.matched) in
    let room : c.args.bytes ≤ 16777216 - c.heap-heap.result = c.if-bytes-heap.false in omega (arith, within, room)) c.in-Ok-Err.error
    (rw c.in-Ok-Err.field-0-is at c.in-Ok-Err.ensures.answer))

pub returns-in-Err-clause-leaves : goal.returns-in-Err-clause-leaves
returns-in-Err-clause-leaves g c =
    let crowded =
    increase_crowds g.W.SwapStore c.args.self.now c.requires.whole c.requires.matched c.args.bytes c.if-bytes-ne0.false c.heap-heap.result
    (heap_told g.W.SwapStore c.args.self.now c.requires.whole c.heap-heap.result c.heap-heap.ensures)
    (let within : c.heap-heap.result ≤ 16777216 =
    (heap_within g.W.SwapStore c.args.self.now c.requires.whole c.heap-heap.result
    (heap_told g.W.SwapStore c.args.self.now c.requires.whole c.heap-heap.result c.heap-heap.ensures) c.requires.matched) in
    let room : c.args.bytes ≤ 16777216 - c.heap-heap.result = c.if-bytes-heap.false in omega (arith, within, room)) c.in-Err.ensures.partial.first
    (caller_process g.W.SwapStore c.args.self.now c.requires.whole) (sym c.in-Err.ensures.partial.served) c.in-Err.ensures.full in
    record {
      whole = whole_with_mem g.W.SwapStore c.args.self.now c.make.new.self c.requires.whole c.make.ensures.size c.make.ensures.sound
          (made_first_keeps (processes c.args.self.now.mem) (capacity_of c.args.self.now.mem) c.args.self.now.cursor.pid Heap (Some (record { 0 = (536870912 + c.heap-heap.result) / 4096 })) (c.args.bytes / 4096)
          heap_right (ledger g.W.SwapStore.held c.args.self.now.mem) (ledger g.W.SwapStore.held c.make.new.self)
          (caller_process g.W.SwapStore c.args.self.now c.requires.whole) c.in-Err.ensures.partial);
      usable = tt;
      keeps = search rules;
      failed = search rules;
      cause = search rules;
      crowded = crowded;
      near = λ none out. crowded;
    }
