use Rattle.ledger_model.specs.Places.{in_run}
use Rattle.sv32_space.specs.PageSteps.{end_at}
use Rattle.loan_flags.specs.Keeping.{tables}
use Rattle.loan_flags.proofs.StandingRunLemmas.{RunsSo}
use Rattle.loan_flags.proofs.runs.end_lent.Given as goal

-- the first i pages are done
abbrev pub invariant-loop-i : goal.invariant-loop-i
invariant-loop-i l = RunsSo (tables l.fn.ram l.fn.owners) (tables l.ram l.owners) l.fn.loan (end_at (in_run l.fn.from l.i)) l.fn.from l.fn.loan.holder l.i
