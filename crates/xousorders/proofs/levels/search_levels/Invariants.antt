use Rattle.std.proofs.Common.{◌-◌}
use Rattle.std.specs.Cmp.Lexicographic.{slice_cmp}
use Rattle.std.specs.Ordering.{nat_cmp}
use Rattle.program_status.specs.Notes.{sink_side}
use Rattle.xousorders.proofs.LevelLemmas.{HasTold}
use Rattle.xousorders.proofs.levels.search_levels.Given as goal

-- the levels of fewer preemptions were told
abbrev pub invariant-loop-told : goal.invariant-loop-told
invariant-loop-told g l =
    HasTold (slice_cmp nat_cmp) l.limits l.view l.fn.quest.subject l.quest.subject l.preemptions (sink_side g.K.Sink l.fn.out l.out)

abbrev pub decreases-loop-told : goal.decreases-loop-told
decreases-loop-told g l = l.limits.preemptions - l.preemptions
