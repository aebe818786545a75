use Rattle.std.proofs.Common.{◌≡◌, take, not}
use Rattle.std.specs.Prelude.{filter}
use Rattle.order_search.specs.ByTurns.{comes_first}
use Rattle.order_search.proofs.turns.by_turns.Given as goal

-- those of the edges before
abbrev pub invariant-loop-edge : goal.invariant-loop-edge
invariant-loop-edge l =
    (l.first.items ≡ filter (λ edge. comes_first l.last edge.label) (take l.edge-index l.edges))
    × (l.others.items ≡ filter (λ edge. not (comes_first l.last edge.label)) (take l.edge-index l.edges))
