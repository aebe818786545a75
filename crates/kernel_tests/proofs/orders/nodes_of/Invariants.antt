use Rattle.std.specs.Cmp.Lexicographic.{slice_cmp}
use Rattle.std.specs.Ordering.{nat_cmp}
use Rattle.order_search.specs.Found.{IsUnderWay}
use Rattle.kernel_tests.proofs.orders.nodes_of.Given as goal

-- the search can go on
abbrev pub invariant-loop-turn : goal.invariant-loop-turn
invariant-loop-turn l = IsUnderWay (slice_cmp nat_cmp) 20 l.quest.subject l.search
