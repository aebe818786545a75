use Rattle.std.proofs.Common.{◌∙◌, sym}
use Rattle.rv32_atomics.proofs.LeavingLemmas.{stayed, went_on}
use Rattle.rv32_atomics.proofs.PerformingLemmas.{core}
use Rattle.rv32_atomics.proofs.run.perform_or_leave.Goals as goal

-- src/run.rt
pub returns-then-not-goes_on-clause-executes : goal.returns-then-not-goes_on-clause-executes
returns-then-not-goes_on-clause-executes g c = record {
  done = core c.perform-ran.new.regs c.perform-ran.new.reserved;
  does = (c.perform-ran.ensures.executes, c.perform-ran.ensures.reserved);
  core = stayed (core c.args.regs.now c.args.reserved.now) (core c.perform-ran.new.regs c.perform-ran.new.reserved) c.perform-ran.result
      (sym c.goes_on.ensures ∙ c.if-not-goes_on.true);
}

pub returns-else-not-goes_on-clause-executes : goal.returns-else-not-goes_on-clause-executes
returns-else-not-goes_on-clause-executes g c = record {
  done = core c.perform-ran.new.regs c.perform-ran.new.reserved;
  does = (c.perform-ran.ensures.executes, c.perform-ran.ensures.reserved);
  core = went_on (core c.args.regs.now c.args.reserved.now) (core c.perform-ran.new.regs c.perform-ran.new.reserved) c.perform-ran.result
      (sym c.goes_on.ensures ∙ c.if-not-goes_on.false);
}
