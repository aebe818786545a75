use Rattle.std.proofs.Common.{◌≤◌, ◌-◌, length}
use Rattle.graph_search.specs.Searching.{MeetsInTurn, progress_of}
use Rattle.graph_search.proofs.meeting.meet_all.Given as goal

abbrev pub invariant-loop-edge : goal.invariant-loop-edge
invariant-loop-edge g l = record {
  in_turn : MeetsInTurn g.K.Ord.cmp l.from l.edges l.edge-index (progress_of l.fn.search) (progress_of l.search);
  within : length l.fn.search.edges.items ≤ l.limit - 1 → length l.search.edges.items ≤ l.limit - 1;
}
