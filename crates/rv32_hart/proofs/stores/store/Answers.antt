use Rattle.std.proofs.Common.{◌∙◌, sym, refl}
use Rattle.machine_model.specs.Hart.Instructions.{following, store_misaligned, store_page_fault, stores}
use Rattle.rv32_hart.specs.declared.ran.Ran.TheVariants as ran
use Rattle.rv32_hart.proofs.AccessLemmas.{kept, put_done, put_device, store_does}
use Rattle.rv32_hart.proofs.ExecutingLemmas.{traps}
use Rattle.rv32_hart.proofs.stores.store.Goals as goal

pub returns-then-not-is_aligned-clause-executes : goal.returns-then-not-is_aligned-clause-executes
returns-then-not-is_aligned-clause-executes g c = λ regs.
    traps (g.U.UserMemory.may c.args.mem.now) (g.U.UserMemory.console c.args.mem.now) (g.U.UserMemory.timer c.args.mem.now)
    (λ mem. stores mem regs c.args.pc c.args.address c.args.width c.args.value)
    store_misaligned c.args.address _ _ _ (λ byte. rw (sym c.is_aligned.ensures ∙ c.if-not-is_aligned.true) refl) (kept _) refl

pub returns-in-Ok-Done-clause-executes : goal.returns-in-Ok-Done-clause-executes
returns-in-Ok-Done-clause-executes g c = λ regs.
    let stores = rw c.in-Ok-Done.field-0-is at c.in-Ok-Done.ensures.stores in
    rw c.following.ensures
    (store_does (g.U.UserMemory.may c.args.mem.now) (g.U.UserMemory.console c.args.mem.now) (g.U.UserMemory.timer c.args.mem.now) _ regs _
    c.args.pc c.args.address c.args.width c.args.value (ran.Next (following c.args.pc)) (sym c.is_aligned.ensures ∙ c.if-not-is_aligned.false) stores.0
    (put_done (g.U.UserMemory.may c.args.mem.now) (g.U.UserMemory.console c.args.mem.now) (g.U.UserMemory.timer c.args.mem.now) _ regs regs _
    c.args.address c.args.width c.args.value (following c.args.pc) stores.1 stores.2))

pub returns-in-Ok-Device-clause-executes : goal.returns-in-Ok-Device-clause-executes
returns-in-Ok-Device-clause-executes g c = λ regs.
    let stores = rw c.in-Ok-Device.field-0-is at c.in-Ok-Device.ensures.stores in
    rw c.following-in-Ok-Device.ensures
    (store_does (g.U.UserMemory.may c.args.mem.now) (g.U.UserMemory.console c.args.mem.now) (g.U.UserMemory.timer c.args.mem.now) _ regs _
    c.args.pc c.args.address c.args.width c.args.value (ran.Device c.in-Ok-Device.offset c.args.value (following c.args.pc)) (sym c.is_aligned.ensures ∙ c.if-not-is_aligned.false) stores.0
    (put_device (g.U.UserMemory.may c.args.mem.now) (g.U.UserMemory.console c.args.mem.now) (g.U.UserMemory.timer c.args.mem.now) _ regs regs _
    c.args.address c.args.width c.args.value (following c.args.pc) c.in-Ok-Device.offset stores.1 stores.2 stores.3.0 stores.3.1))

pub returns-in-Ok-Fault-clause-executes : goal.returns-in-Ok-Fault-clause-executes
returns-in-Ok-Fault-clause-executes g c = λ regs.
    let stored = rw c.in-Ok-Fault.field-0-is at c.in-Ok-Fault.ensures.stores in
    traps (g.U.UserMemory.may c.args.mem.now) (g.U.UserMemory.console c.args.mem.now) (g.U.UserMemory.timer c.args.mem.now)
    (λ mem. stores mem regs c.args.pc c.args.address c.args.width c.args.value)
    store_page_fault c.args.address _ _ _ (λ byte. rw (sym c.is_aligned.ensures ∙ c.if-not-is_aligned.false, stored.0) refl) stored.1.0 stored.1.1
