use Rattle.sv32_space.specs.PageSteps.{pass_run}
use Rattle.loan_flags.specs.Keeping.{tables}
use Rattle.loan_flags.proofs.StandingRunLemmas.{RunsSo}
use Rattle.loan_flags.proofs.runs.pass_run.Given as goal

-- the first i pages have their new holder
abbrev pub invariant-loop-i : goal.invariant-loop-i
invariant-loop-i l = RunsSo (tables l.fn.ram l.fn.owners) (tables l.ram l.owners) l.fn.loan (pass_run l.from l.i l.fn.to) l.fn.loan.holder l.fn.to l.i
