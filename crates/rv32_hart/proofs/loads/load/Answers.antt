use Rattle.std.proofs.Common.{◌∙◌, sym, ap, refl}
use Rattle.xk_base.specs.Calls.Registers.{with_reg}
use Rattle.machine_model.specs.Hart.Instructions.{following, load_misaligned, load_page_fault, loads}
use Rattle.rv32_hart.specs.Operations.{extended}
use Rattle.rv32_hart.specs.Running.{DoesExecute}
use Rattle.rv32_hart.specs.declared.ran.Ran.TheVariants as ran
use Rattle.rv32_hart.proofs.AccessLemmas.{kept, load_does}
use Rattle.rv32_hart.proofs.ExecutingLemmas.{traps}
use Rattle.rv32_hart.proofs.loads.load.Goals as goal

pub returns-then-not-is_aligned-clause-executes : goal.returns-then-not-is_aligned-clause-executes
returns-then-not-is_aligned-clause-executes g c =
    traps (g.U.UserMemory.may c.args.mem.now) (g.U.UserMemory.console c.args.mem.now) (g.U.UserMemory.timer c.args.mem.now)
    (λ mem. loads mem c.args.regs.now c.args.pc c.args.rd c.args.address c.args.width (extended c.args.width c.args.signed))
    load_misaligned c.args.address _ _ _ (λ byte. rw (sym c.is_aligned.ensures ∙ c.if-not-is_aligned.true) refl) (kept _) refl

pub returns-in-Ok-Some-clause-executes : goal.returns-in-Ok-Some-clause-executes
returns-in-Ok-Some-clause-executes g c =
    let gives = rw c.in-Ok-Some.field-0-is at c.in-Ok-Some.ensures.gives in
    rw c.following.ensures
    (load_does (g.U.UserMemory.may c.args.mem.now) (g.U.UserMemory.console c.args.mem.now) (g.U.UserMemory.timer c.args.mem.now) _ _ _ _
    c.args.pc c.args.rd c.args.address c.args.width (extended c.args.width c.args.signed) c.in-Ok-Some.value
    (sym c.is_aligned.ensures ∙ c.if-not-is_aligned.false) gives.0 gives.1 c.load.ensures.kept c.load.ensures.timer
    (c.set.ensures.value ∙ ap (with_reg c.args.regs.now c.args.rd) c.extend.ensures))

pub returns-in-Ok-None-clause-executes : goal.returns-in-Ok-None-clause-executes
returns-in-Ok-None-clause-executes g c =
    let gives = rw c.in-Ok-None.field-0-is at c.in-Ok-None.ensures.gives in
    traps (g.U.UserMemory.may c.args.mem.now) (g.U.UserMemory.console c.args.mem.now) (g.U.UserMemory.timer c.args.mem.now)
    (λ mem. loads mem c.args.regs.now c.args.pc c.args.rd c.args.address c.args.width (extended c.args.width c.args.signed))
    load_page_fault c.args.address _ _ _ (λ byte. rw (sym c.is_aligned.ensures ∙ c.if-not-is_aligned.false, gives) refl) c.load.ensures.kept c.load.ensures.timer
