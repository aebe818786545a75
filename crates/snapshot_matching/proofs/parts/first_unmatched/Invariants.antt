use Rattle.std.proofs.Common.{ℕ, List}
use Rattle.snapshot_rows.specs.Machines.{machine_of}
use Rattle.snapshot_matching.proofs.FirstLemmas.{HoldBelow}
use Rattle.snapshot_matching.proofs.parts.first_unmatched.Given as goal

abbrev pub invariant-loop-number : goal.invariant-loop-number
invariant-loop-number l = (file : List ℕ) → HoldBelow (machine_of file l.state) l.number
