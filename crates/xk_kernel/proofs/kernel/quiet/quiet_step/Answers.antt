-- The next instruction of a thread in hand is the quiet step of every kernel around its memory, or isn't done.
use Rattle.vm_memory.specs.Memory.{IsUsable}
use Rattle.vm_memory.specs.Sound.{IsSound}
use Rattle.vm_memory.specs.Using.Known.{Remembers}
use Rattle.xk_kernel.proofs.Acting.ActLemmas.{if_failed_at}
use Rattle.xk_kernel.proofs.Quieting.InstructionLemmas.{has_failed_by, of_other, was_out_by}
use Rattle.xk_kernel.proofs.Quieting.OverLemmas.{next_over, other_over}
use Rattle.xk_kernel.proofs.kernel.quiet.quiet_step.Goals as goal

-- src/kernel/quiet.rt
pub run_or_leave-requires-clause-fit : goal.run_or_leave-requires-clause-fit
run_or_leave-requires-clause-fit g c = (c.requires.sound, c.requires.usable, c.requires.known)

pub returns-in-Next-clause-known : goal.returns-in-Next-clause-known
returns-in-Next-clause-known g c = c.run_or_leave.ensures.rest.3 c.requires.known

pub returns-in-Next-clause-usable : goal.returns-in-Next-clause-usable
returns-in-Next-clause-usable g c = c.in-Next.ensures.uses.fit.1

pub returns-in-Next-clause-does : goal.returns-in-Next-clause-does
returns-in-Next-clause-does g c =
    let ran = c.run_or_leave in
    next_over g.W.SwapStore c.args.who c.args.user.now.mem.now c.args.thread.now c.requires.ready c.args.reserved.now
    c.args.user.now.pid ran.new.mem.pid c.requires.pid ran.ensures.rest.1 ran.new.mem.mem.now ran.ensures.rest.2
    (record { regs = ran.new.regs; reserved = ran.new.reserved }) ran.result ran.ensures.performs
    c.in-Next.next c.in-Next.is

pub returns-in-Ecall-clause-known : goal.returns-in-Ecall-clause-known
returns-in-Ecall-clause-known g c = c.run_or_leave.ensures.rest.3 c.requires.known

pub returns-in-Ecall-clause-rest : goal.returns-in-Ecall-clause-rest
returns-in-Ecall-clause-rest g c = c.run_or_leave.ensures.rest.2

pub returns-in-Ecall-clause-usable : goal.returns-in-Ecall-clause-usable
returns-in-Ecall-clause-usable g c =
    let mem = c.run_or_leave.new.mem in
    (of_other c.run_or_leave.result (IsSound g.W.SwapStore.slot_count mem.mem.now × IsUsable mem.mem.now × Remembers mem.mem.now mem.pid mem.known) c.in-Ecall.is c.run_or_leave.ensures.uses.fit).1

pub returns-in-Ecall-clause-does : goal.returns-in-Ecall-clause-does
returns-in-Ecall-clause-does g c =
    let ran = c.run_or_leave in
    other_over g.W.SwapStore c.args.who c.args.user.now.mem.now c.args.thread.now c.requires.ready c.args.reserved.now
    c.args.user.now.pid ran.new.mem.pid c.requires.pid ran.ensures.rest.1 ran.new.mem.mem.now ran.ensures.rest.2
    (record { regs = ran.new.regs; reserved = ran.new.reserved }) ran.result ran.ensures.performs c.in-Ecall.is

-- ---- the store failed

pub returns-in-Failed-clause-known : goal.returns-in-Failed-clause-known
returns-in-Failed-clause-known g c = c.run_or_leave.ensures.rest.3 c.requires.known

pub returns-in-Failed-clause-failed : goal.returns-in-Failed-clause-failed
returns-in-Failed-clause-failed g c =
    let mem = c.run_or_leave.new.mem in
    has_failed_by g.W.SwapStore.slot_count mem.mem.now (Remembers mem.mem.now mem.pid mem.known) (c.run_or_leave.ensures.rest.2.sound c.requires.sound)
    (c.run_or_leave.ensures.rest.3 c.requires.known) (if_failed_at _ c.run_or_leave.result c.in-Failed.is c.run_or_leave.ensures.uses.unfit)

pub returns-in-Failed-clause-out : goal.returns-in-Failed-clause-out
returns-in-Failed-clause-out g c =
    let mem = c.run_or_leave.new.mem in
    was_out_by g.W.SwapStore.slot_count c.args.user.now.mem.now mem.mem.now (Remembers mem.mem.now mem.pid mem.known) (c.run_or_leave.ensures.rest.2.sound c.requires.sound)
    (c.run_or_leave.ensures.rest.3 c.requires.known) (λ none. c.run_or_leave.ensures.rest.2.out none c.requires.usable)
    (if_failed_at _ c.run_or_leave.result c.in-Failed.is c.run_or_leave.ensures.uses.unfit)
