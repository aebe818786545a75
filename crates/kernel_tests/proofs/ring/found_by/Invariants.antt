use Rattle.std.proofs.Common.{Some}
use Rattle.std.specs.Ordering.{nat_cmp}
use Rattle.graph_search.specs.Searches.{IsSearch}
use Rattle.kernel_tests.proofs.ring.found_by.Given as goal

-- the search can go on
abbrev pub invariant-loop-turn : goal.invariant-loop-turn
invariant-loop-turn l =
    IsSearch (λ (at label : Unit {0}). Some tt) (λ at key. Unit {0}) (λ at note. Unit {0}) nat_cmp tt l.search
