use Rattle.std.proofs.Common.{◌%◌, refl}
use Rattle.std.proofs.lemmas.Bool.{eq-eqb, ne_eqb}
use Rattle.xk_base.specs.declared.pages.Width.TheVariants.{Word}
use Rattle.machine_model.specs.Hart.Instructions.{load_misaligned, load_page_fault, loads}
use Rattle.rv32_hart.proofs.AccessLemmas.{kept, load_does}
use Rattle.rv32_hart.proofs.ExecutingLemmas.{traps}
use Rattle.rv32_atomics.proofs.accesses.load.Goals as goal

pub returns-then-address-ne0-clause-executes : goal.returns-then-address-ne0-clause-executes
returns-then-address-ne0-clause-executes g c =
    traps (g.U.UserMemory.may c.args.mem.now) (g.U.UserMemory.console c.args.mem.now) (g.U.UserMemory.timer c.args.mem.now)
    (λ mem. loads mem c.args.regs.now c.args.pc c.args.rd c.args.address Word (λ word. word))
    load_misaligned c.args.address _ _ _ (λ byte. rw (ne_eqb (c.args.address % 4) 0 c.if-address-ne0.true) refl) (kept _) refl

pub returns-in-Ok-Some-clause-executes : goal.returns-in-Ok-Some-clause-executes
returns-in-Ok-Some-clause-executes g c =
    let gives = rw c.in-Ok-Some.field-0-is at c.in-Ok-Some.ensures.gives in
    rw c.following.ensures
    (load_does (g.U.UserMemory.may c.args.mem.now) (g.U.UserMemory.console c.args.mem.now) (g.U.UserMemory.timer c.args.mem.now) _ _ _ _
    c.args.pc c.args.rd c.args.address Word (λ word. word) c.in-Ok-Some.value
    (eq-eqb (c.args.address % 4) 0 c.if-address-ne0.false) gives.0 gives.1 c.load.ensures.kept c.load.ensures.timer c.set.ensures.value)

pub returns-in-Ok-None-clause-executes : goal.returns-in-Ok-None-clause-executes
returns-in-Ok-None-clause-executes g c =
    let gives = rw c.in-Ok-None.field-0-is at c.in-Ok-None.ensures.gives in
    traps (g.U.UserMemory.may c.args.mem.now) (g.U.UserMemory.console c.args.mem.now) (g.U.UserMemory.timer c.args.mem.now)
    (λ mem. loads mem c.args.regs.now c.args.pc c.args.rd c.args.address Word (λ word. word))
    load_page_fault c.args.address _ _ _ (λ byte. rw (eq-eqb (c.args.address % 4) 0 c.if-address-ne0.false, gives) refl) c.load.ensures.kept c.load.ensures.timer
