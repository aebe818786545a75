use Rattle.std.proofs.Common.{◌≡◌, [], ◌∷◌, ◌++◌, length, take, ap, sym, subst, ◌∙◌, arith, append_assoc}
use Rattle.std.proofs.lemmas.List.{append-nil}
use Rattle.msg_queue.specs.Chains.{chain}
use Rattle.msg_queue.specs.Seats.{IsFirstOf}
use Rattle.msg_queue.specs.Shown.{messages}
use Rattle.msg_queue.proofs.Rings.SpotLemmas.{at_first, at_end, at_slot, at_next, at_within, spot_read}
use Rattle.msg_queue.proofs.PlaceLemmas.{next_message, all_messages}
use Rattle.msg_queue.proofs.walks.least_of.Goals as goal

pub loop-place-init : goal.loop-place-init
loop-place-init c = record {
  at = at_first c.args.next.now c.args.first c.requires.chain;
  first = λ seen h. subst (λ all. IsFirstOf c.args.pid all c.args.least) (sym (append-nil seen)) h;
}

pub returns-then-spot : goal.returns-then-spot
returns-then-spot c = λ seen h.
    let xs = chain c.args.next.now c.args.first in
    let end : c.loop-place._place ≡ length xs = at_end xs c.loop-place._place c.loop-place.spot c.requires.chain.within c.loop-place.invariant.at c.if-spot.true in
    subst (λ all. IsFirstOf c.args.pid (seen ++ all) c.loop-place.lowest) (all_messages c.args.slots.now xs c.loop-place._place c.requires.filled (omega arith))
    (c.loop-place.invariant.first seen h)

pub bounds-slots-spot : goal.bounds-slots-spot
bounds-slots-spot c =
    omega (arith, at_slot (chain c.args.next.now c.args.first) c.loop-place._place c.loop-place.spot c.requires.chain.within c.loop-place.invariant.at c.if-spot.false)

pub bounds-next-spot : goal.bounds-next-spot
bounds-next-spot c =
    omega (arith, at_slot (chain c.args.next.now c.args.first) c.loop-place._place c.loop-place.spot c.requires.chain.within c.loop-place.invariant.at c.if-spot.false)

pub loop-place-preserved : goal.loop-place-preserved
loop-place-preserved c =
    let xs = chain c.args.next.now c.args.first in
    let at = c.loop-place.invariant.at in
    let ms = messages c.args.slots.now xs in
    let low = at_slot xs c.loop-place._place c.loop-place.spot c.requires.chain.within at c.if-spot.false in
    let read = spot_read c.args.slots.now xs c.loop-place._place c.loop-place.spot c.index-slots-spot.result at (omega (arith, low)) c.index-slots-spot.is in
    let more = next_message c.args.slots.now xs c.loop-place._place c.requires.filled (at_within xs c.loop-place._place c.loop-place.spot at c.if-spot.false) in
    record {
      at = at_next c.args.next.now c.args.first c.loop-place._place c.loop-place.spot c.requires.chain at c.if-spot.false;
      first = λ seen h. subst (λ all. IsFirstOf c.args.pid all c.least_with-lowest.result)
          (append_assoc seen (take c.loop-place._place ms) (more.0 ∷ []) ∙ ap (λ all. seen ++ all) (sym more.2))
          (c.least_with-lowest.ensures (seen ++ take c.loop-place._place ms) more.0 (read ∙ more.1) (c.loop-place.invariant.first seen h));
    }

pub returns : goal.returns
returns c = λ seen h.
    let xs = chain c.args.next.now c.args.first in
    let at = c.loop-place.invariant.at in
    subst (λ all. IsFirstOf c.args.pid (seen ++ all) c.loop-place.lowest) (all_messages c.args.slots.now xs c.loop-place._place c.requires.filled (omega (arith, c.requires.few)))
    (c.loop-place.invariant.first seen h)
