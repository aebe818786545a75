use Rattle.std.proofs.Common.{◌≡◌, ◌++◌, map}
use Rattle.std.specs.Prelude.{take}
use Rattle.snapshot_matching.specs.LendParts.{loan_lend}
use Rattle.snapshot_matching.proofs.lends.add_loans.Given as goal

abbrev pub invariant-loop-run : goal.invariant-loop-run
invariant-loop-run l = l.lends.items ≡ l.fn.lends.items ++ map loan_lend (take l.run-index l.runs)
