use Rattle.std.proofs.Common.{◌∙◌, None, ap, refl, sym}
use Rattle.std.specs.Option.{option_map}
use Rattle.machine_model.specs.Hart.Atomics.{reserves}
use Rattle.rv32_hart.specs.Running.{view_of}
use Rattle.rv32_atomics.specs.Meaning.{meaning}
use Rattle.rv32_atomics.specs.Performing.{reserved_after}
use Rattle.rv32_atomics.proofs.LeavingLemmas.{base_left, failed_over}
use Rattle.rv32_atomics.proofs.PerformingLemmas.{core, performs_atomic, performs_base, performs_denied}
use Rattle.rv32_atomics.proofs.run.run_or_leave.Goals as goal

-- src/run.rt
pub returns-in-Ok-None-clause-performs : goal.returns-in-Ok-None-clause-performs
returns-in-Ok-None-clause-performs g c = record {
  done = core c.args.regs.now None;
  does = performs_denied (g.U.UserMemory.may c.args.mem.now) (g.U.UserMemory.console c.args.mem.now) (g.U.UserMemory.timer c.args.mem.now) _ c.args.regs.now c.args.reserved.now _ c.args.pc
      (rw c.in-Ok-None.field-0-is at c.in-Ok-None.ensures.gives) c.fetch.ensures.kept c.fetch.ensures.timer;
  core = refl;
}

pub returns-in-Err-clause-performs : goal.returns-in-Err-clause-performs
returns-in-Err-clause-performs g c = record {
  done = core c.args.regs.now c.args.reserved.now;
  does = failed_over (g.U.UserMemory.may c.args.mem.now) (g.U.UserMemory.console c.args.mem.now) (g.U.UserMemory.timer c.args.mem.now)
      (view_of g.U.UserMemory c.fetch.new.self) (core c.args.regs.now c.args.reserved.now) _ c.args.pc c.fetch.ensures.kept c.fetch.ensures.timer;
  core = refl;
}

pub returns-in-Some-clause-performs : goal.returns-in-Some-clause-performs
returns-in-Some-clause-performs g c =
    let gives = rw c.in-Ok-Some.field-0-is at c.in-Ok-Some.ensures.gives in
    let ran = c.perform_or_leave.ensures.executes in
    rw c.rebuilt.ensures
    (record {
      done = ran.done;
      does = performs_atomic (g.U.UserMemory.may c.args.mem.now) (g.U.UserMemory.console c.args.mem.now) (g.U.UserMemory.timer c.args.mem.now) _ _ ran.done.regs _ ran.done.reserved _ _
          c.args.pc c.in-Ok-Some.word (meaning c.in-Some.atomic) c.perform_or_leave.result gives.0 gives.1 c.fetch.ensures.kept
          (sym c.decode_atomic.ensures.means ∙ ap (option_map meaning) c.in-Some.is)
          ran.does.1
          (rw (c.fetch.ensures.may, c.fetch.ensures.console, c.fetch.ensures.timer) at ran.does.0);
      core = ran.core;
    })

pub returns-in-None-clause-performs : goal.returns-in-None-clause-performs
returns-in-None-clause-performs g c =
    let gives = rw c.in-Ok-Some.field-0-is at c.in-Ok-Some.ensures.gives in
    let left = reserved_after c.run_word.result c.args.reserved.now c.args.reserved.now in
    record {
      done = core c.run_word.new.regs left;
      does = performs_base (g.U.UserMemory.may c.args.mem.now) (g.U.UserMemory.console c.args.mem.now) (g.U.UserMemory.timer c.args.mem.now) _ _ _ _ left _ _
          c.args.pc c.in-Ok-Some.word c.run_word.result gives.0 gives.1 c.fetch.ensures.kept
          (sym c.decode_atomic.ensures.means ∙ ap (option_map meaning) c.in-None.is)
          refl
          (rw (c.fetch.ensures.may, c.fetch.ensures.console, c.fetch.ensures.timer) at c.run_word.ensures.executes);
      core = base_left c.run_word.result c.args.regs.now c.run_word.new.regs c.args.reserved.now c.run_word.ensures.leaves;
    }
