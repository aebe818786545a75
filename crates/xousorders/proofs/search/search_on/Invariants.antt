use Rattle.std.proofs.Common.{◌≡◌, ◌+◌, ◌-◌, false, length, true}
use Rattle.std.specs.Cmp.Lexicographic.{slice_cmp}
use Rattle.std.specs.Ordering.{nat_cmp}
use Rattle.graph_search.specs.declared.found.Cut.TheVariants.{Stopped}
use Rattle.graph_search.specs.declared.found.Extent.TheVariants.{Cut}
use Rattle.order_search.specs.Found.{FindsNodes, IsUnderWay, so_far}
use Rattle.program_status.specs.Notes.{sink_side}
use Rattle.xousorders.specs.Endings.{AreEndings}
use Rattle.xousorders.specs.Halts.{HasGot}
use Rattle.xousorders.specs.Reports.{is_failure}
use Rattle.xousorders.specs.Searched.{telling_at}
use Rattle.xousorders.proofs.search.search_on.Given as goal

-- the endings of the nodes that were followed are told, and none is a failure at which the search was to stop
abbrev pub invariant-loop-cut : goal.invariant-loop-cut
invariant-loop-cut g l =
    let s = l.fn.quest.subject in
    record {
      subject : l.quest.subject ≡ s;
      strategy : l.search.strategy ≡ l.fn.search.strategy;
      under_way : IsUnderWay (slice_cmp nat_cmp) l.limits.states s l.search;
      nodes : FindsNodes l.limits.states (so_far s l.search (Cut Stopped));
      endings : AreEndings (telling_at s l.search) l.view (length l.search.notes.items) l.endings;
      got : HasGot l.view (sink_side g.K.Sink l.fn.out l.out) l.endings.list.items;
      none : l.limits.first ≡ true → is_failure l.view l.endings.list.items ≡ false;
    }

abbrev pub decreases-loop-cut : goal.decreases-loop-cut
decreases-loop-cut g l = l.limits.states + 1 - length l.search.notes.items
