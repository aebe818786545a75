use Rattle.std.proofs.Common.{◌≡◌, reverse, vec_len}
use Rattle.snapshot_rows.specs.RunParts.{joined}
use Rattle.snapshot_rows.proofs.LoanRuns.JoinLemmas.{joined_onto}
use Rattle.snapshot_rows.proofs.runs.joined.Given as goal

abbrev pub invariant-loop-page : goal.invariant-loop-page
invariant-loop-page l = joined_onto l.left.items (reverse l.runs.items) ≡ joined l.fn.pages.items

abbrev pub decreases-loop-page : goal.decreases-loop-page
decreases-loop-page l = vec_len l.left
