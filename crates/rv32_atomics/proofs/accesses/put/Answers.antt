use Rattle.std.proofs.Common.{refl}
use Rattle.xk_base.specs.declared.pages.Width.TheVariants.{Word}
use Rattle.xk_base.specs.Calls.Registers.{with_reg}
use Rattle.machine_model.specs.Hart.Instructions.{following, store_page_fault}
use Rattle.rv32_hart.specs.declared.ran.Ran.TheVariants as ran
use Rattle.rv32_hart.proofs.AccessLemmas.{put_done, put_device}
use Rattle.rv32_hart.proofs.ExecutingLemmas.{traps}
use Rattle.rv32_atomics.specs.Performing.{puts_if_allowed}
use Rattle.rv32_atomics.proofs.AmoLemmas.{put_does}
use Rattle.rv32_atomics.proofs.accesses.put.Goals as goal

pub returns-in-Ok-Done-clause-executes : goal.returns-in-Ok-Done-clause-executes
returns-in-Ok-Done-clause-executes g c =
    let stored = rw c.in-Ok-Done.field-0-is at c.in-Ok-Done.ensures.stores in
    let regs = with_reg c.args.regs.now c.args.rd c.args.loaded in
    rw (c.following.ensures, c.set.ensures.value)
    (put_does (g.U.UserMemory.may c.args.mem.now) (g.U.UserMemory.console c.args.mem.now) (g.U.UserMemory.timer c.args.mem.now) _ c.args.regs.now regs _
    c.args.address c.args.value (following c.args.pc) regs (ran.Next (following c.args.pc)) stored.0
    (put_done (g.U.UserMemory.may c.args.mem.now) (g.U.UserMemory.console c.args.mem.now) (g.U.UserMemory.timer c.args.mem.now) _ c.args.regs.now regs _
    c.args.address Word c.args.value (following c.args.pc) stored.1 stored.2))

pub returns-in-Ok-Device-clause-executes : goal.returns-in-Ok-Device-clause-executes
returns-in-Ok-Device-clause-executes g c =
    let stored = rw c.in-Ok-Device.field-0-is at c.in-Ok-Device.ensures.stores in
    let regs = with_reg c.args.regs.now c.args.rd c.args.loaded in
    rw (c.following-in-Ok-Device.ensures, c.set-in-Ok-Device.ensures.value)
    (put_does (g.U.UserMemory.may c.args.mem.now) (g.U.UserMemory.console c.args.mem.now) (g.U.UserMemory.timer c.args.mem.now) _ c.args.regs.now regs _
    c.args.address c.args.value (following c.args.pc) regs (ran.Device c.in-Ok-Device.offset c.args.value (following c.args.pc)) stored.0
    (put_device (g.U.UserMemory.may c.args.mem.now) (g.U.UserMemory.console c.args.mem.now) (g.U.UserMemory.timer c.args.mem.now) _ c.args.regs.now regs _
    c.args.address Word c.args.value (following c.args.pc) c.in-Ok-Device.offset stored.1 stored.2 stored.3.0 stored.3.1))

pub returns-in-Ok-Fault-clause-executes : goal.returns-in-Ok-Fault-clause-executes
returns-in-Ok-Fault-clause-executes g c =
    let stored = rw c.in-Ok-Fault.field-0-is at c.in-Ok-Fault.ensures.stores in
    traps (g.U.UserMemory.may c.args.mem.now) (g.U.UserMemory.console c.args.mem.now) (g.U.UserMemory.timer c.args.mem.now)
    (λ mem. puts_if_allowed mem c.args.address c.args.value (with_reg c.args.regs.now c.args.rd c.args.loaded) (following c.args.pc))
    store_page_fault c.args.address _ _ _ (λ byte. rw stored.0 refl) stored.1.0 stored.1.1
