use Rattle.std.proofs.Common.{◌∙◌, ◌++◌, arith, ap}
use Rattle.order_search.proofs.TurnLemmas.{all_turned}
use Rattle.order_search.proofs.turns.by_turns.Goals as goal

pub returns : goal.returns
returns c =
    all_turned c.last_thread-last.result c.args.path.now c.args.edges.now c.loop-edge.first.items c.loop-edge.others.items
    c.extend_from_slice.new.self.items c.loop-edge.edge-index c.last_thread-last.ensures (omega (arith, c.loop-edge-test.false))
    c.loop-edge.invariant.0 c.loop-edge.invariant.1
    (c.in_ok-extend_from_slice.ensures.items ∙ ap (λ xs. c.loop-edge.first.items ++ xs) c.deref.ensures.value)
