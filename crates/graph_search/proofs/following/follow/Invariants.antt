use Rattle.std.proofs.Common.{◌≤◌, ◌-◌, length}
use Rattle.graph_search.specs.Searches.{IsSearch}
use Rattle.graph_search.specs.Searching.{progress_of}
use Rattle.graph_search.proofs.MeetLemmas.{GoesOn}
use Rattle.graph_search.proofs.following.follow.Given as goal

abbrev pub invariant-loop-search : goal.invariant-loop-search
invariant-loop-search g l =
    let at = g.S.Space.setting l.space in
    record {
      search : IsSearch (g.S.Space.after at) (g.S.Space.IsKey at) (g.S.Space.IsNote at) g.S.Key.Ord.cmp (g.S.Space.start at) l.search;
      goes : GoesOn (progress_of l.fn.search) (progress_of l.search);
      within : length l.fn.search.edges.items ≤ l.limit - 1 → length l.search.edges.items ≤ l.limit - 1;
    }

abbrev pub decreases-loop-search : goal.decreases-loop-search
decreases-loop-search g l = length l.search.waiting.items
