use Rattle.std.proofs.Common.{refl, ap, rules, w32}
use Rattle.std.proofs.lemmas.Int.{to_z-of_z}
use mir.Val.{SFits}
use Rattle.xk_base.specs.Outside.{Rose}
use Rattle.machine_model.specs.Hart.Instructions.{Next, CallsKernel, Traps, breakpoint, branches, following, jumps, writes}
use Rattle.rv32_hart.specs.Operations.{effect_of}
use Rattle.rv32_hart.specs.declared.ran.Ran.TheVariants as ran
use Rattle.rv32_hart.proofs.AccessLemmas.{does_apart}
use Rattle.rv32_hart.proofs.ExecutingLemmas.{not_failed}
use Rattle.rv32_hart.proofs.execute.perform.Goals as goal

pub returns-in-Write-clause-executes : goal.returns-in-Write-clause-executes
returns-in-Write-clause-executes g c =
    does_apart (g.U.UserMemory.may c.args.mem.now) (g.U.UserMemory.console c.args.mem.now) (g.U.UserMemory.timer c.args.mem.now) _ c.args.regs.now c.set.new.self
    (λ mem. effect_of mem c.args.regs.now c.args.pc c.args.operation) (writes c.args.regs.now c.args.pc c.in-Write.rd c.in-Write.value) _ (λ byte. rw c.in-Write.is refl)
    (record { answer = ap ran.Next c.following.ensures; registers = c.set.ensures.value; bytes = λ byte. refl; timer = λ timer. refl })

pub returns-in-Jump-clause-executes : goal.returns-in-Jump-clause-executes
returns-in-Jump-clause-executes g c =
    does_apart (g.U.UserMemory.may c.args.mem.now) (g.U.UserMemory.console c.args.mem.now) (g.U.UserMemory.timer c.args.mem.now) _ c.args.regs.now c.jump.new.regs
    (λ mem. effect_of mem c.args.regs.now c.args.pc c.args.operation) (jumps c.args.regs.now c.args.pc c.in-Jump.rd c.in-Jump.target) _ (λ byte. rw c.in-Jump.is refl)
    c.jump.ensures.executes

pub returns-in-Branch-clause-executes : goal.returns-in-Branch-clause-executes
returns-in-Branch-clause-executes g c =
    let fits : SFits w32 c.in-Branch.offset = search rules in
    does_apart (g.U.UserMemory.may c.args.mem.now) (g.U.UserMemory.console c.args.mem.now) (g.U.UserMemory.timer c.args.mem.now) _ c.args.regs.now c.args.regs.now
    (λ mem. effect_of mem c.args.regs.now c.args.pc c.args.operation) (branches c.args.regs.now c.args.pc c.in-Branch.offset c.in-Branch.taken) _ (λ byte. rw c.in-Branch.is refl)
    (rw (to_z-of_z w32 c.in-Branch.offset fits) at (c.branch-pc.ensures.executes c.args.regs.now))

pub returns-in-Branch-clause-uses : goal.returns-in-Branch-clause-uses
returns-in-Branch-clause-uses g c =
    let executed = c.branch-pc.ensures.executes c.args.regs.now in
    let unfit = not_failed (¬ g.U.UserMemory.fit c.args.mem.now) executed in
    let cause = not_failed (Rose (g.U.UserMemory.faults c.args.mem.now) (g.U.UserMemory.faults c.args.mem.now)) executed in
    search (rules, unfit, cause)

pub returns-in-Store-clause-executes : goal.returns-in-Store-clause-executes
returns-in-Store-clause-executes g c = rw c.in-Store.is (c.store.ensures.executes c.args.regs.now)

pub returns-in-Fence-clause-executes : goal.returns-in-Fence-clause-executes
returns-in-Fence-clause-executes g c =
    does_apart (g.U.UserMemory.may c.args.mem.now) (g.U.UserMemory.console c.args.mem.now) (g.U.UserMemory.timer c.args.mem.now) _ c.args.regs.now c.args.regs.now
    (λ mem. effect_of mem c.args.regs.now c.args.pc c.args.operation) (Next c.args.regs.now (following c.args.pc)) _ (λ byte. rw c.in-Fence.is refl)
    (record { answer = ap ran.Next c.following-in-Fence.ensures; registers = refl; bytes = λ byte. refl; timer = λ timer. refl })

pub returns-in-Call-clause-executes : goal.returns-in-Call-clause-executes
returns-in-Call-clause-executes g c =
    does_apart (g.U.UserMemory.may c.args.mem.now) (g.U.UserMemory.console c.args.mem.now) (g.U.UserMemory.timer c.args.mem.now) _ c.args.regs.now c.args.regs.now
    (λ mem. effect_of mem c.args.regs.now c.args.pc c.args.operation) CallsKernel _ (λ byte. rw c.in-Call.is refl)
    (record { answer = refl; registers = refl; bytes = λ byte. refl; timer = λ timer. refl })

pub returns-in-Break-clause-executes : goal.returns-in-Break-clause-executes
returns-in-Break-clause-executes g c =
    does_apart (g.U.UserMemory.may c.args.mem.now) (g.U.UserMemory.console c.args.mem.now) (g.U.UserMemory.timer c.args.mem.now) _ c.args.regs.now c.args.regs.now
    (λ mem. effect_of mem c.args.regs.now c.args.pc c.args.operation) (Traps breakpoint c.args.pc) _ (λ byte. rw c.in-Break.is refl)
    (record { answer = refl; registers = refl; bytes = λ byte. refl; timer = λ timer. refl })
