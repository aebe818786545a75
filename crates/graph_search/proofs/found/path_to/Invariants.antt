use Rattle.std.proofs.Common.{◌≡◌, ◌≤◌, length, ◌++◌}
use Rattle.std.specs.Prelude.{reverse}
use Rattle.graph_search.specs.Paths.{labels_to}
use Rattle.graph_search.proofs.found.path_to.Given as goal

-- the labels to the node that was reached backwards, and then those passed
abbrev pub invariant-loop-at : goal.invariant-loop-at
invariant-loop-at g l = record {
  within : l.at ≤ length l.edges;
  passed : labels_to l.edges l.fn.node ≡ labels_to l.edges l.at ++ reverse l.path.items;
}

abbrev pub decreases-loop-at : goal.decreases-loop-at
decreases-loop-at g l = l.at
