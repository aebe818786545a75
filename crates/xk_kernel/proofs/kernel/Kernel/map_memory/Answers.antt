use Rattle.std.proofs.Common.{◌+◌, ◌≤◌, ◌/◌, arith, sym, ◌∙◌, rules}
use Rattle.std.specs.Prelude.{Err}
use Rattle.std.proofs.lemmas.Bool.{eq-eqb, ne_eqb}
use Rattle.ledger_model.specs.Ledger.{pages}
use Rattle.machine_model.specs.Calling.MemoryCalls.{are_bad_flags}
use Rattle.syscall_codec.specs.Flags.{right_of}
use Rattle.xk_base.specs.declared.errors.XousError.TheVariants.{BadAddress}
use Rattle.xk_base.specs.declared.windows.Window.TheVariants.{Map}
use Rattle.vm_memory.specs.Bytes.{none_out}
use Rattle.vm_memory.specs.Memory.{capacity_of, frames_for_pages, ledger, processes}
use Rattle.xk_kernel.proofs.Memory.MadeLemmas.{made_loans, serves_by, too_many}
use Rattle.xk_kernel.proofs.Memory.MapLemmas.{console_done, console_low, console_refused, elsewhere_refused, made_low, map_crowds, map_done, map_refused, narrow, wide_by_right, wide_by_size, wide_refused}
use Rattle.resume_path.proofs.Homes.MadeFirstLemmas.{made_first_keeps}
use Rattle.xk_kernel.proofs.Memory.KeptLoanLemmas.{make_console_keeps}
use Rattle.xk_kernel.proofs.Memory.MemoryCallLemmas.{caller_process, right_told, whole_with_mem}
use Rattle.xk_kernel.proofs.kernel.Kernel.map_memory.Goals.{then-size-ne-PAGE_SIZE-via-then-size-ne-PAGE_SIZE, then-size-ne-PAGE_SIZE-via-else-size-ne-PAGE_SIZE+then-right}
use Rattle.xk_kernel.proofs.kernel.Kernel.map_memory.Goals as goal

pub overflow_mul-result : goal.overflow_mul-result
overflow_mul-result g c =
    let low : c.in-Ok.first.0 ≤ 397312 =
    console_low (processes c.args.self.now.mem) (ledger g.W.SwapStore.held c.args.self.now.mem) c.args.self.now.cursor.pid c.page_asked-at.result c.in-Ok.first c.in-Ok.ensures.answer in
    omega (arith, low)

pub returns-in-Ok-clause-leaves : goal.returns-in-Ok-clause-leaves
returns-in-Ok-clause-leaves g c =
    let whole =
    whole_with_mem g.W.SwapStore c.args.self.now c.make_console.new.self c.requires.whole c.make_console.ensures.size c.make_console.ensures.sound
    (make_console_keeps g.W.SwapStore c.args.self.now.mem c.requires.whole.mem c.args.self.now.cursor.pid c.page_asked-at.result c.in-Some.right.w
    c.make_console.result (ledger g.W.SwapStore.held c.make_console.new.self) (caller_process g.W.SwapStore c.args.self.now c.requires.whole)
    c.make_console.ensures.answer c.make_console.ensures.ledger) in
    search (rules, whole)

pub returns-in-Ok-clause-outcome : goal.returns-in-Ok-clause-outcome
returns-in-Ok-clause-outcome g c =
    serves_by _ _ _ _
    (console_done g.W.SwapStore.held c.args.self.now c.args.phys c.args.virt c.args.size c.args.flags c.in-Some.right (sym c.is_bad_range.ensures ∙ c.if-is_bad_range.false) (right_told (are_bad_flags c.args.flags) (right_of c.args.flags) c.in-Some.right (sym c.in-Some.is ∙ c.right_asked.ensures))
    (eq-eqb c.args.phys 4026531840 c.if-phys-eq-CONSOLE_ADDRESS.true) c.if-size-ne-PAGE_SIZE.false
    (narrow c.args.size c.args.flags c.in-Some.right c.if-size-ne-PAGE_SIZE.false (right_told (are_bad_flags c.args.flags) (right_of c.args.flags) c.in-Some.right (sym c.in-Some.is ∙ c.right_asked.ensures)).1 c.if-right.false)
    c.make_console.new.self c.in-Ok.first c.make_console.ensures.size
    (rw c.page_asked-at.ensures at c.in-Ok.ensures.answer) c.in-Ok.ensures.ledger)

pub returns-in-Err-clause-outcome : goal.returns-in-Err-clause-outcome
returns-in-Err-clause-outcome g c =
    serves_by _ _ _ (Err c.in-Err.error)
    (console_refused g.W.SwapStore.held c.args.self.now c.args.phys c.args.virt c.args.size c.args.flags c.in-Some.right (sym c.is_bad_range.ensures ∙ c.if-is_bad_range.false) (right_told (are_bad_flags c.args.flags) (right_of c.args.flags) c.in-Some.right (sym c.in-Some.is ∙ c.right_asked.ensures))
    (eq-eqb c.args.phys 4026531840 c.if-phys-eq-CONSOLE_ADDRESS.true) c.if-size-ne-PAGE_SIZE.false
    (narrow c.args.size c.args.flags c.in-Some.right c.if-size-ne-PAGE_SIZE.false (right_told (are_bad_flags c.args.flags) (right_of c.args.flags) c.in-Some.right (sym c.in-Some.is ∙ c.right_asked.ensures)).1 c.if-right.false)
    c.in-Err.error (rw c.page_asked-at.ensures at c.in-Err.ensures.answer))

pub overflow_mul-result-in-Ok-Ok : goal.overflow_mul-result-in-Ok-Ok
overflow_mul-result-in-Ok-Ok g c =
    let low : c.in-Ok-Ok.first.0 ≤ 397312 =
    made_low (processes c.args.self.now.mem) (capacity_of c.args.self.now.mem) (ledger g.W.SwapStore.held c.args.self.now.mem) c.args.self.now.cursor.pid c.page_asked-at.result
    (c.args.size / 4096) c.in-Ok-Ok.first (rw c.in-Ok-Ok.field-0-is at c.in-Ok-Ok.ensures.answer) in
    omega (arith, low)

pub returns-in-Ok-Ok-clause-leaves : goal.returns-in-Ok-Ok-clause-leaves
returns-in-Ok-Ok-clause-leaves g c = record {
  whole = whole_with_mem g.W.SwapStore c.args.self.now c.make.new.self c.requires.whole c.make.ensures.size c.make.ensures.sound
      (made_loans g.W.SwapStore.held c.args.self.now Map c.page_asked-at.result (c.args.size / 4096) c.in-Some.right (caller_process g.W.SwapStore c.args.self.now c.requires.whole) c.in-Ok-Ok.field-0
      (ledger g.W.SwapStore.held c.make.new.self) c.in-Ok-Ok.ensures.answer c.in-Ok-Ok.ensures.rights);
  usable = search rules;
  keeps = search rules;
  failed = tt;
  cause = tt;
  crowded = tt;
  near = λ none out. map_crowds g.W.SwapStore.held c.args.self.now c.args.phys c.args.virt c.args.size c.args.flags c.in-Some.right (sym c.is_bad_range.ensures ∙ c.if-is_bad_range.false) (right_told (are_bad_flags c.args.flags) (right_of c.args.flags) c.in-Some.right (sym c.in-Some.is ∙ c.right_asked.ensures))
      (eq-eqb c.args.phys 0 c.if-phys-ne0.false) (ne_eqb c.args.phys 4026531840 c.if-phys-eq-CONSOLE_ADDRESS.false)
      c.in-Ok-Ok.first (caller_process g.W.SwapStore c.args.self.now c.requires.whole) (rw (c.page_asked-at.ensures, c.in-Ok-Ok.field-0-is) at c.in-Ok-Ok.ensures.answer)
      (too_many (frames_for_pages c.args.self.now.mem) (pages (processes c.args.self.now.mem) (ledger g.W.SwapStore.held c.args.self.now.mem) + c.args.size / 4096) (none_out c.make.new.self)
      (λ few. c.make.ensures.near few none) out);
}

pub returns-in-Ok-Ok-clause-outcome : goal.returns-in-Ok-Ok-clause-outcome
returns-in-Ok-Ok-clause-outcome g c =
    map_done g.W.SwapStore.held c.args.self.now c.args.phys c.args.virt c.args.size c.args.flags c.in-Some.right (sym c.is_bad_range.ensures ∙ c.if-is_bad_range.false) (right_told (are_bad_flags c.args.flags) (right_of c.args.flags) c.in-Some.right (sym c.in-Some.is ∙ c.right_asked.ensures))
    (eq-eqb c.args.phys 0 c.if-phys-ne0.false) (ne_eqb c.args.phys 4026531840 c.if-phys-eq-CONSOLE_ADDRESS.false)
    c.make.new.self c.in-Ok-Ok.first c.make.ensures.size
    (rw (c.page_asked-at.ensures, c.in-Ok-Ok.field-0-is) at c.in-Ok-Ok.ensures.answer)
    (rw c.in-Ok-Ok.field-0-is at c.in-Ok-Ok.ensures.rights)
    (rw c.in-Ok-Ok.field-0-is at c.in-Ok-Ok.ensures.whole)

pub returns-in-Ok-Err-clause-outcome : goal.returns-in-Ok-Err-clause-outcome
returns-in-Ok-Err-clause-outcome g c =
    serves_by _ _ _ (Err c.in-Ok-Err.error)
    (map_refused g.W.SwapStore.held c.args.self.now c.args.phys c.args.virt c.args.size c.args.flags c.in-Some.right (sym c.is_bad_range.ensures ∙ c.if-is_bad_range.false) (right_told (are_bad_flags c.args.flags) (right_of c.args.flags) c.in-Some.right (sym c.in-Some.is ∙ c.right_asked.ensures))
    (eq-eqb c.args.phys 0 c.if-phys-ne0.false) (ne_eqb c.args.phys 4026531840 c.if-phys-eq-CONSOLE_ADDRESS.false)
    c.in-Ok-Err.error (rw (c.page_asked-at.ensures, c.in-Ok-Err.field-0-is) at c.in-Ok-Err.ensures.answer))

pub returns-in-Err-make-clause-leaves : goal.returns-in-Err-make-clause-leaves
returns-in-Err-make-clause-leaves g c =
    let crowded =
    map_crowds g.W.SwapStore.held c.args.self.now c.args.phys c.args.virt c.args.size c.args.flags c.in-Some.right (sym c.is_bad_range.ensures ∙ c.if-is_bad_range.false) (right_told (are_bad_flags c.args.flags) (right_of c.args.flags) c.in-Some.right (sym c.in-Some.is ∙ c.right_asked.ensures))
    (eq-eqb c.args.phys 0 c.if-phys-ne0.false) (ne_eqb c.args.phys 4026531840 c.if-phys-eq-CONSOLE_ADDRESS.false)
    c.in-Err-make.ensures.partial.first (caller_process g.W.SwapStore c.args.self.now c.requires.whole) (sym (rw c.page_asked-at.ensures at c.in-Err-make.ensures.partial.served))
    c.in-Err-make.ensures.full in
    record {
      whole = whole_with_mem g.W.SwapStore c.args.self.now c.make.new.self c.requires.whole c.make.ensures.size c.make.ensures.sound
          (made_first_keeps (processes c.args.self.now.mem) (capacity_of c.args.self.now.mem) c.args.self.now.cursor.pid Map c.page_asked-at.result (c.args.size / 4096)
          c.in-Some.right (ledger g.W.SwapStore.held c.args.self.now.mem) (ledger g.W.SwapStore.held c.make.new.self)
          (caller_process g.W.SwapStore c.args.self.now c.requires.whole) c.in-Err-make.ensures.partial);
      usable = tt;
      keeps = search rules;
      failed = search rules;
      cause = search rules;
      crowded = crowded;
      near = λ none out. crowded;
    }

pub returns-then-size-ne-PAGE_SIZE-clause-outcome : goal.returns-then-size-ne-PAGE_SIZE-clause-outcome
returns-then-size-ne-PAGE_SIZE-clause-outcome g c =
    serves_by _ _ _ (Err BadAddress)
    (wide_refused g.W.SwapStore.held c.args.self.now c.args.phys c.args.virt c.args.size c.args.flags c.in-Some.right (sym c.is_bad_range.ensures ∙ c.if-is_bad_range.false) (right_told (are_bad_flags c.args.flags) (right_of c.args.flags) c.in-Some.right (sym c.in-Some.is ∙ c.right_asked.ensures)) (eq-eqb c.args.phys 4026531840 c.if-phys-eq-CONSOLE_ADDRESS.true)
    (elim c.then-size-ne-PAGE_SIZE.branch [
      | then-size-ne-PAGE_SIZE-via-then-size-ne-PAGE_SIZE w ↦ wide_by_size g.W.SwapStore.held c.args.self.now c.args.phys c.args.virt c.args.size c.args.flags c.in-Some.right (sym c.is_bad_range.ensures ∙ c.if-is_bad_range.false) (right_told (are_bad_flags c.args.flags) (right_of c.args.flags) c.in-Some.right (sym c.in-Some.is ∙ c.right_asked.ensures)) w.if-size-ne-PAGE_SIZE.true
      | then-size-ne-PAGE_SIZE-via-else-size-ne-PAGE_SIZE+then-right w ↦ wide_by_right g.W.SwapStore.held c.args.self.now c.args.phys c.args.virt c.args.size c.args.flags c.in-Some.right (sym c.is_bad_range.ensures ∙ c.if-is_bad_range.false) (right_told (are_bad_flags c.args.flags) (right_of c.args.flags) c.in-Some.right (sym c.in-Some.is ∙ c.right_asked.ensures)) w.if-right.true
    ]))

pub returns-then-phys-ne0-clause-outcome : goal.returns-then-phys-ne0-clause-outcome
returns-then-phys-ne0-clause-outcome g c =
    serves_by _ _ _ (Err BadAddress)
    (elsewhere_refused g.W.SwapStore.held c.args.self.now c.args.phys c.args.virt c.args.size c.args.flags c.in-Some.right
    (sym c.is_bad_range.ensures ∙ c.if-is_bad_range.false)
    (right_told (are_bad_flags c.args.flags) (right_of c.args.flags) c.in-Some.right (sym c.in-Some.is ∙ c.right_asked.ensures))
    (ne_eqb c.args.phys 0 c.if-phys-ne0.true) (ne_eqb c.args.phys 4026531840 c.if-phys-eq-CONSOLE_ADDRESS.false))
