use Rattle.loan_flags.specs.Keeping.{tables}
use Rattle.loan_flags.proofs.LendRunLemmas.{GivesSo}
use Rattle.loan_flags.proofs.runs.give_run.Given as goal

-- the first i pages are given
abbrev pub invariant-loop-i : goal.invariant-loop-i
invariant-loop-i l = GivesSo (tables l.fn.ram l.fn.owners) (tables l.ram l.owners) l.fn.from l.fn.to l.i
