use Rattle.loan_flags.specs.Keeping.{tables}
use Rattle.loan_flags.proofs.LendRunLemmas.{LendsSo}
use Rattle.loan_flags.proofs.runs.lend_run.Given as goal

-- the first i pages are lent
abbrev pub invariant-loop-i : goal.invariant-loop-i
invariant-loop-i l = LendsSo (tables l.fn.ram l.fn.owners) (tables l.ram l.owners) l.fn.from l.fn.to l.i l.fn.kind l.fn.number
