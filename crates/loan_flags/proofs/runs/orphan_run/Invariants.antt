use Rattle.sv32_space.specs.PageSteps.{orphan_run}
use Rattle.loan_flags.specs.Keeping.{tables}
use Rattle.loan_flags.proofs.StandingRunLemmas.{RunsSo}
use Rattle.loan_flags.proofs.runs.orphan_run.Given as goal

-- the first i pages are orphans
abbrev pub invariant-loop-i : goal.invariant-loop-i
invariant-loop-i l = RunsSo (tables l.fn.ram l.fn.owners) (tables l.ram l.owners) l.fn.loan (orphan_run l.from l.i l.fn.loan.holder) l.from l.from l.i
