use Rattle.std.proofs.Common.{◌≡◌, ap, sym, ◌∙◌, length, arith}
use Rattle.msg_queue.specs.Chains.{chain}
use Rattle.msg_queue.specs.Spots.{slot_has}
use Rattle.msg_queue.proofs.Rings.SpotLemmas.{at_end, at_slot, at_next, at_within, spot_read}
use Rattle.msg_queue.proofs.PlaceLemmas.{found_there, none_there, passed_slot}
use Rattle.msg_queue.proofs.walks.message_place.Goals as goal

pub returns-then-spot : goal.returns-then-spot
returns-then-spot c =
    let xs = chain c.args.next.now c.args.first in
    let end : c.loop-place.place ≡ length xs = at_end xs c.loop-place.place c.loop-place.spot c.requires.chain.within c.loop-place.invariant.at c.if-spot.true in
    sym (none_there c.args.slots.now xs c.loop-place.place c.args.number c.requires.filled end c.loop-place.invariant.before)

pub bounds-slots-spot : goal.bounds-slots-spot
bounds-slots-spot c =
    omega (arith, at_slot (chain c.args.next.now c.args.first) c.loop-place.place c.loop-place.spot c.requires.chain.within c.loop-place.invariant.at c.if-spot.false)

pub bounds-next-spot : goal.bounds-next-spot
bounds-next-spot c =
    omega (arith, at_slot (chain c.args.next.now c.args.first) c.loop-place.place c.loop-place.spot c.requires.chain.within c.loop-place.invariant.at c.if-spot.false)

pub returns-then-has_number : goal.returns-then-has_number
returns-then-has_number c =
    let xs = chain c.args.next.now c.args.first in
    let at = c.loop-place.invariant.at in
    let low = at_slot xs c.loop-place.place c.loop-place.spot c.requires.chain.within at c.if-spot.false in
    let read = spot_read c.args.slots.now xs c.loop-place.place c.loop-place.spot c.index-slots-spot.result at (omega (arith, low)) c.index-slots-spot.is in
    sym (found_there c.args.slots.now xs c.loop-place.place c.args.number c.requires.filled
    (at_within xs c.loop-place.place c.loop-place.spot at c.if-spot.false) c.loop-place.invariant.before
    (sym (ap (slot_has c.args.number) read) ∙ sym c.has_number.ensures ∙ c.if-has_number.true))

pub loop-place-preserved : goal.loop-place-preserved
loop-place-preserved c =
    let xs = chain c.args.next.now c.args.first in
    let at = c.loop-place.invariant.at in
    let low = at_slot xs c.loop-place.place c.loop-place.spot c.requires.chain.within at c.if-spot.false in
    let read = spot_read c.args.slots.now xs c.loop-place.place c.loop-place.spot c.index-slots-spot.result at (omega (arith, low)) c.index-slots-spot.is in
    record {
      at = at_next c.args.next.now c.args.first c.loop-place.place c.loop-place.spot c.requires.chain at c.if-spot.false;
      before = passed_slot c.args.slots.now xs c.loop-place.place c.args.number c.requires.filled
          (at_within xs c.loop-place.place c.loop-place.spot at c.if-spot.false) c.loop-place.invariant.before
          (sym (ap (slot_has c.args.number) read) ∙ sym c.has_number.ensures ∙ c.if-has_number.false);
    }

pub returns : goal.returns
returns c =
    let xs = chain c.args.next.now c.args.first in
    let end : c.loop-place.place ≡ length xs = omega (arith, c.loop-place.invariant.at.within, c.requires.few) in
    sym (none_there c.args.slots.now xs c.loop-place.place c.args.number c.requires.filled end c.loop-place.invariant.before)
