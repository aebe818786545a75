use Rattle.std.proofs.Common.{◌%◌, refl}
use Rattle.std.proofs.lemmas.Bool.{eq-eqb, ne_eqb}
use Rattle.xk_base.specs.Calls.Registers.{with_reg}
use Rattle.machine_model.specs.Hart.Atomics.{operates, result_of}
use Rattle.machine_model.specs.Hart.Instructions.{following, store_misaligned, store_page_fault}
use Rattle.rv32_hart.proofs.AccessLemmas.{kept}
use Rattle.rv32_hart.proofs.ExecutingLemmas.{through, traps}
use Rattle.rv32_atomics.specs.Meaning.{operation_of}
use Rattle.rv32_atomics.specs.Performing.{puts_if_allowed}
use Rattle.rv32_atomics.proofs.AmoLemmas.{operates_does}
use Rattle.rv32_atomics.proofs.accesses.operate.Goals as goal

pub returns-then-address-ne0-clause-executes : goal.returns-then-address-ne0-clause-executes
returns-then-address-ne0-clause-executes g c =
    traps (g.U.UserMemory.may c.args.mem.now) (g.U.UserMemory.console c.args.mem.now) (g.U.UserMemory.timer c.args.mem.now)
    (λ mem. operates mem c.args.regs.now c.args.pc c.args.rd c.args.address (λ old. result_of (operation_of c.args.operation) old c.args.operand))
    store_misaligned c.args.address _ _ _ (λ byte. rw (ne_eqb (c.args.address % 4) 0 c.if-address-ne0.true) refl) (kept _) refl

pub returns-in-Ok-None-clause-executes : goal.returns-in-Ok-None-clause-executes
returns-in-Ok-None-clause-executes g c =
    let gives = rw c.in-Ok-None.field-0-is at c.in-Ok-None.ensures.gives in
    traps (g.U.UserMemory.may c.args.mem.now) (g.U.UserMemory.console c.args.mem.now) (g.U.UserMemory.timer c.args.mem.now)
    (λ mem. operates mem c.args.regs.now c.args.pc c.args.rd c.args.address (λ old. result_of (operation_of c.args.operation) old c.args.operand))
    store_page_fault c.args.address _ _ _ (λ byte. rw (eq-eqb (c.args.address % 4) 0 c.if-address-ne0.false, gives) refl) c.load.ensures.kept c.load.ensures.timer

pub returns-clause-executes : goal.returns-clause-executes
returns-clause-executes g c =
    let gives = rw c.in-Ok-Some.field-0-is at c.in-Ok-Some.ensures.gives in
    let put = rw (c.load.ensures.may, c.load.ensures.console, c.load.ensures.timer, c.result-value.ensures) at c.put.ensures.executes in
    operates_does (g.U.UserMemory.may c.args.mem.now) (g.U.UserMemory.console c.args.mem.now) (g.U.UserMemory.timer c.args.mem.now) _ c.args.regs.now c.put.new.regs
    c.args.pc c.args.rd c.args.address c.in-Ok-Some.old (λ old. result_of (operation_of c.args.operation) old c.args.operand)
    (eq-eqb (c.args.address % 4) 0 c.if-address-ne0.false) gives.0 _ c.put.result gives.1
    (through (g.U.UserMemory.may c.args.mem.now) (g.U.UserMemory.console c.args.mem.now) (g.U.UserMemory.timer c.args.mem.now) _ _ _
    (λ mem. puts_if_allowed mem c.args.address (result_of (operation_of c.args.operation) c.in-Ok-Some.old c.args.operand)
    (with_reg c.args.regs.now c.args.rd c.in-Ok-Some.old) (following c.args.pc)) _ _ c.put.result c.load.ensures.kept put)
