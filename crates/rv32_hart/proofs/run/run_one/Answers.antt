use Rattle.rv32_hart.proofs.ExecutingLemmas.{executes_word, fetch_denied}
use Rattle.rv32_hart.proofs.run.run_one.Goals as goal

pub returns-in-Ok-None-clause-executes : goal.returns-in-Ok-None-clause-executes
returns-in-Ok-None-clause-executes g c =
    fetch_denied (g.U.UserMemory.may c.args.mem.now) (g.U.UserMemory.console c.args.mem.now) (g.U.UserMemory.timer c.args.mem.now) _ _ c.args.regs.now c.args.pc
    (rw c.in-Ok-None.field-0-is at c.in-Ok-None.ensures.gives) c.fetch.ensures.kept c.fetch.ensures.timer

pub returns-in-Ok-Some-clause-executes : goal.returns-in-Ok-Some-clause-executes
returns-in-Ok-Some-clause-executes g c =
    let gives = rw c.in-Ok-Some.field-0-is at c.in-Ok-Some.ensures.gives in
    executes_word (g.U.UserMemory.may c.args.mem.now) (g.U.UserMemory.console c.args.mem.now) (g.U.UserMemory.timer c.args.mem.now) _ _ _ _ (g.U.UserMemory.content c.fetch.new.self) c.args.pc c.in-Ok-Some.word c.run_word.result
    gives.0 gives.1 c.fetch.ensures.kept
    (rw (c.fetch.ensures.may, c.fetch.ensures.console, c.fetch.ensures.timer) at c.run_word.ensures.executes)
