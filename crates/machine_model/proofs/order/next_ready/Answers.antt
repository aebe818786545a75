use Rattle.std.proofs.Common.{◌≤◌, ◌∙◌, ap, Some, length, arith}
use Rattle.machine_model.proofs.order.next_ready.Goals as goal
use Rattle.machine_model.proofs.State.OrderLemmas.{found_is_next, none_is_next}

-- src/order.rt:36:13
pub returns-then-ready-place : goal.returns-then-ready-place
returns-then-ready-place g c =
    ap Some c.id_at.ensures
    ∙ found_is_next c.args.ready.now g.m c.args.cursor c.loop-k.k c.requires.1.0 c.requires.1.1 c.loop-k-test.true c.if-ready-place.true c.loop-k.invariant

-- src/order.rt:25:1
pub returns : goal.returns
returns g c =
    let whole : length c.args.ready.now ≤ c.loop-k.k = c.loop-k-test.false in
    none_is_next c.args.ready.now g.m c.args.cursor c.requires.1.0 (λ j l. c.loop-k.invariant j (omega arith))
