use Rattle.std.proofs.Common.{ℕ, ◌+◌, ◌<◌}
use Rattle.std.specs.Prelude.{IsTrue}
use Rattle.snapshot_matching.specs.ThreadParts.{is_served}
use Rattle.snapshot_matching.proofs.threads.are_living_served.Given as goal

abbrev pub invariant-loop-i : goal.invariant-loop-i
invariant-loop-i l = (j : ℕ) → j < l.i → IsTrue (is_served l.procs l.threads (j + 2))
