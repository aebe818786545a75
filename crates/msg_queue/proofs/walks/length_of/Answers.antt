use Rattle.std.proofs.Common.{arith}
use Rattle.msg_queue.specs.Chains.{chain}
use Rattle.msg_queue.proofs.Rings.SpotLemmas.{at_end, at_slot, at_next}
use Rattle.msg_queue.proofs.walks.length_of.Goals as goal

pub returns-then-spot : goal.returns-then-spot
returns-then-spot c =
    at_end (chain c.args.next.now c.args.first) c.loop-place.place c.loop-place.spot c.requires.chain.within c.loop-place.invariant c.if-spot.true

pub bounds-next-spot : goal.bounds-next-spot
bounds-next-spot c =
    omega (arith, at_slot (chain c.args.next.now c.args.first) c.loop-place.place c.loop-place.spot c.requires.chain.within c.loop-place.invariant c.if-spot.false)

pub loop-place-preserved : goal.loop-place-preserved
loop-place-preserved c =
    at_next c.args.next.now c.args.first c.loop-place.place c.loop-place.spot c.requires.chain c.loop-place.invariant c.if-spot.false
