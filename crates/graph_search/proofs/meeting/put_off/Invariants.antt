use Rattle.std.proofs.Common.{◌≡◌, ◌≤◌, length}
use Rattle.graph_search.specs.Searching.{progress_of}
use Rattle.graph_search.proofs.WaitLemmas.{waits_from}
use Rattle.graph_search.proofs.meeting.put_off.Given as goal

abbrev pub invariant-loop-left : goal.invariant-loop-left
invariant-loop-left g l = record {
  few : l.left ≤ length l.edges;
  waits : progress_of l.search ≡ waits_from l.from l.edges (progress_of l.fn.search) l.left;
}

abbrev pub decreases-loop-left : goal.decreases-loop-left
decreases-loop-left g l = l.left
