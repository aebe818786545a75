use Rattle.std.proofs.Common.{◌≡◌, length, ◌∙◌, arith}
use Rattle.msg_queue.specs.Chains.{chain}
use Rattle.msg_queue.proofs.Rings.SpotLemmas.{at_end, at_slot, at_next, spot_past}
use Rattle.msg_queue.proofs.walks.spot_at.Goals as goal

pub returns-then-spot : goal.returns-then-spot
returns-then-spot c =
    let xs = chain c.args.next.now c.args.first in
    let end : c.loop-place._place ≡ length xs = at_end xs c.loop-place._place c.loop-place.spot c.requires.chain.within c.loop-place.invariant c.if-spot.true in
    c.loop-place.invariant.here ∙ spot_past xs c.loop-place._place c.args.place (omega arith) (omega arith)

pub bounds-next-spot : goal.bounds-next-spot
bounds-next-spot c =
    omega (arith, at_slot (chain c.args.next.now c.args.first) c.loop-place._place c.loop-place.spot c.requires.chain.within c.loop-place.invariant c.if-spot.false)

pub loop-place-preserved : goal.loop-place-preserved
loop-place-preserved c =
    at_next c.args.next.now c.args.first c.loop-place._place c.loop-place.spot c.requires.chain c.loop-place.invariant c.if-spot.false
