use Rattle.std.proofs.Common.{◌∙◌, ap, sym}
use Rattle.std.specs.Option.{option_map}
use Rattle.machine_model.specs.Hart.Atomics.{reserves}
use Rattle.rv32_atomics.specs.Meaning.{meaning}
use Rattle.rv32_atomics.proofs.PerformingLemmas.{leaves_reserved, performs_atomic, performs_base, performs_denied}
use Rattle.rv32_atomics.proofs.run.run_any.Goals as goal

pub returns-in-Ok-None-clause-performs : goal.returns-in-Ok-None-clause-performs
returns-in-Ok-None-clause-performs g c =
    performs_denied (g.U.UserMemory.may c.args.mem.now) (g.U.UserMemory.console c.args.mem.now) (g.U.UserMemory.timer c.args.mem.now) _ c.args.regs.now c.args.reserved.now _ c.args.pc
    (rw c.in-Ok-None.field-0-is at c.in-Ok-None.ensures.gives) c.fetch.ensures.kept c.fetch.ensures.timer

pub returns-in-Some-clause-performs : goal.returns-in-Some-clause-performs
returns-in-Some-clause-performs g c =
    let gives = rw c.in-Ok-Some.field-0-is at c.in-Ok-Some.ensures.gives in
    performs_atomic (g.U.UserMemory.may c.args.mem.now) (g.U.UserMemory.console c.args.mem.now) (g.U.UserMemory.timer c.args.mem.now) _ _ _ _ _ _ _
    c.args.pc c.in-Ok-Some.word (meaning c.in-Some.atomic) c.perform.result gives.0 gives.1 c.fetch.ensures.kept
    (sym c.decode_atomic.ensures.means ∙ ap (option_map meaning) c.in-Some.is)
    c.perform.ensures.reserved
    (rw (c.fetch.ensures.may, c.fetch.ensures.console, c.fetch.ensures.timer) at c.perform.ensures.executes)

pub returns-in-None-clause-performs : goal.returns-in-None-clause-performs
returns-in-None-clause-performs g c =
    let gives = rw c.in-Ok-Some.field-0-is at c.in-Ok-Some.ensures.gives in
    performs_base (g.U.UserMemory.may c.args.mem.now) (g.U.UserMemory.console c.args.mem.now) (g.U.UserMemory.timer c.args.mem.now) _ _ _ _ _ _ _
    c.args.pc c.in-Ok-Some.word c.run_word-ran.result gives.0 gives.1 c.fetch.ensures.kept
    (sym c.decode_atomic.ensures.means ∙ ap (option_map meaning) c.in-None.is)
    c.reserved_after.ensures
    (rw (c.fetch.ensures.may, c.fetch.ensures.console, c.fetch.ensures.timer) at c.run_word-ran.ensures.executes)

pub returns-in-Some-clause-reserved : goal.returns-in-Some-clause-reserved
returns-in-Some-clause-reserved g c =
    leaves_reserved c.perform.result c.args.reserved.now (reserves c.args.regs.now c.args.reserved.now (meaning c.in-Some.atomic)) c.perform.new.reserved c.perform.ensures.reserved

pub returns-in-None-clause-reserved : goal.returns-in-None-clause-reserved
returns-in-None-clause-reserved g c =
    leaves_reserved c.run_word-ran.result c.args.reserved.now c.args.reserved.now c.reserved_after.result c.reserved_after.ensures
