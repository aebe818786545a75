use Rattle.ledger_model.specs.Places.{in_run}
use Rattle.sv32_space.specs.PageSteps.{forget_orphans}
use Rattle.loan_flags.specs.Keeping.{tables}
use Rattle.loan_flags.proofs.StandingRunLemmas.{RunsSo}
use Rattle.loan_flags.proofs.runs.end_orphans.Given as goal

-- the first i pages are done
abbrev pub invariant-loop-i : goal.invariant-loop-i
invariant-loop-i l = RunsSo (tables l.fn.ram l.fn.owners) (tables l.ram l.owners) l.fn.loan (forget_orphans (in_run l.fn.loan.holder l.i)) l.fn.loan.holder l.fn.loan.holder l.i
