use Rattle.std.proofs.Common.{◌%◌, ◌∙◌, ap, refl, sym}
use Rattle.std.proofs.lemmas.Bool.{eq-eqb, ne_eqb}
use Rattle.machine_model.specs.Hart.Atomics.{stores_conditionally}
use Rattle.machine_model.specs.Hart.Instructions.{store_misaligned, store_page_fault, writes}
use Rattle.rv32_hart.specs.declared.ran.Ran.TheVariants as ran
use Rattle.rv32_hart.proofs.AccessLemmas.{does_apart, kept}
use Rattle.rv32_hart.proofs.ExecutingLemmas.{traps}
use Rattle.rv32_atomics.proofs.accesses.store_conditionally.Goals as goal

pub returns-then-address-ne0-clause-executes : goal.returns-then-address-ne0-clause-executes
returns-then-address-ne0-clause-executes g c =
    traps (g.U.UserMemory.may c.args.mem.now) (g.U.UserMemory.console c.args.mem.now) (g.U.UserMemory.timer c.args.mem.now)
    (λ mem. stores_conditionally mem c.args.regs.now c.args.pc c.args.rd c.args.address c.args.reserved c.args.value)
    store_misaligned c.args.address _ _ _ (λ byte. rw (ne_eqb (c.args.address % 4) 0 c.if-address-ne0.true) refl) (kept _) refl

pub returns-then-not-can_store-clause-executes : goal.returns-then-not-can_store-clause-executes
returns-then-not-can_store-clause-executes g c =
    traps (g.U.UserMemory.may c.args.mem.now) (g.U.UserMemory.console c.args.mem.now) (g.U.UserMemory.timer c.args.mem.now)
    (λ mem. stores_conditionally mem c.args.regs.now c.args.pc c.args.rd c.args.address c.args.reserved c.args.value)
    store_page_fault c.args.address _ _ _
    (λ byte. rw (eq-eqb (c.args.address % 4) 0 c.if-address-ne0.false, sym c.can_store.ensures ∙ c.if-not-can_store.true) refl) (kept _) refl

pub returns-clause-executes : goal.returns-clause-executes
returns-clause-executes g c =
    does_apart (g.U.UserMemory.may c.args.mem.now) (g.U.UserMemory.console c.args.mem.now) (g.U.UserMemory.timer c.args.mem.now) _ c.args.regs.now c.set.new.self
    (λ mem. stores_conditionally mem c.args.regs.now c.args.pc c.args.rd c.args.address c.args.reserved c.args.value)
    (writes c.args.regs.now c.args.pc c.args.rd 1) _
    (λ byte. rw (eq-eqb (c.args.address % 4) 0 c.if-address-ne0.false, sym c.can_store.ensures ∙ c.if-not-can_store.false, sym c.is_reserved.ensures ∙ c.if-is_reserved.false) refl)
    (record { answer = ap ran.Next c.following.ensures; registers = c.set.ensures.value; bytes = λ byte. refl; timer = λ timer. refl })
