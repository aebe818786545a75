use Rattle.std.proofs.Common.{◌∙◌, sym}
use Rattle.rv32_hart.proofs.ExecutingLemmas.{executes_insn, executes_nothing}
use Rattle.rv32_hart.proofs.run.run_word.Goals as goal

pub returns-in-Some-clause-executes : goal.returns-in-Some-clause-executes
returns-in-Some-clause-executes g c =
    executes_insn (g.U.UserMemory.may c.args.mem.now) (g.U.UserMemory.console c.args.mem.now) (g.U.UserMemory.timer c.args.mem.now) _ _ _
    (g.U.UserMemory.content c.args.mem.now) c.args.pc c.args.word c.in-Some.insn c.execute.result
    (sym c.decode.ensures.is ∙ c.in-Some.is) c.execute.ensures.executes

pub returns-in-None-clause-executes : goal.returns-in-None-clause-executes
returns-in-None-clause-executes g c =
    executes_nothing (g.U.UserMemory.may c.args.mem.now) (g.U.UserMemory.console c.args.mem.now) (g.U.UserMemory.timer c.args.mem.now)
    (g.U.UserMemory.content c.args.mem.now) c.args.regs.now c.args.pc c.args.word (sym c.decode.ensures.is ∙ c.in-None.is)
