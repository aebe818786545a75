use Rattle.std.proofs.Common.{◌≤◌, length, ap, sym, subst, ◌∙◌}
use Rattle.std.proofs.lemmas.List.Folds.{find_at}
use Rattle.std.specs.List.{slice_get}
use Rattle.msg_queue.specs.Seats.{is_of_number, message_place, without_held_at}
use Rattle.msg_queue.specs.Shown.{links_of, seat_shown}
use Rattle.msg_queue.proofs.CallLemmas.{held_taken, get_past, spot_of_same}
use Rattle.msg_queue.proofs.AfterLemmas.{after_take_held, held_taken_out, with_held_words, none_held, held_as_it_was}
use Rattle.msg_queue.proofs.ring.Ring.take_held.Goals as goal

pub returns-then-spot-clause-message : goal.returns-then-spot-clause-message
returns-then-spot-clause-message c =
    let l = links_of c.self.inside in
    let place = message_place c.args.number (seat_shown c.self.inside.slots.items l).held in
    let at = spot_of_same c.self.inside.slots.items c.as_slice.result.now l.next c.as_slice-2.result.now l.held c.args.number c.spot_of-spot.result
    c.as_slice.ensures.value c.as_slice-2.ensures.value c.spot_of-spot.ensures in
    let none = none_held c.self.inside.slots.items l place c.spot_of-spot.result c.self.invariant at c.if-spot.true in
    sym (find_at (is_of_number c.args.number) c.args.self.now.held ∙ get_past c.args.self.now.held (message_place c.args.number c.args.self.now.held)
    (subst (λ seat. length seat.held ≤ message_place c.args.number seat.held) c.self.view_is none))

pub returns-then-spot-clause-rest : goal.returns-then-spot-clause-rest
returns-then-spot-clause-rest c =
    let l = links_of c.self.inside in
    let place = message_place c.args.number (seat_shown c.self.inside.slots.items l).held in
    let at = spot_of_same c.self.inside.slots.items c.as_slice.result.now l.next c.as_slice-2.result.now l.held c.args.number c.spot_of-spot.result
    c.as_slice.ensures.value c.as_slice-2.ensures.value c.spot_of-spot.ensures in
    let none = none_held c.self.inside.slots.items l place c.spot_of-spot.result c.self.invariant at c.if-spot.true in
    held_as_it_was c.args.self.now (message_place c.args.number c.args.self.now.held)
    (subst (λ seat. length seat.held ≤ message_place c.args.number seat.held) c.self.view_is none)

pub take_out-requires-clause-slot : goal.take_out-requires-clause-slot
take_out-requires-clause-slot c =
    let l = links_of c.self.inside in
    let place = message_place c.args.number (seat_shown c.self.inside.slots.items l).held in
    let at = spot_of_same c.self.inside.slots.items c.as_slice.result.now l.next c.as_slice-2.result.now l.held c.args.number c.spot_of-spot.result
    c.as_slice.ensures.value c.as_slice-2.ensures.value c.spot_of-spot.ensures in
    (held_taken c.self.inside.slots.items l place c.spot_of-spot.result c.self.invariant at c.if-spot.false).slot

pub take_out-requires-clause-before : goal.take_out-requires-clause-before
take_out-requires-clause-before c =
    let l = links_of c.self.inside in
    let place = message_place c.args.number (seat_shown c.self.inside.slots.items l).held in
    let at = spot_of_same c.self.inside.slots.items c.as_slice.result.now l.next c.as_slice-2.result.now l.held c.args.number c.spot_of-spot.result
    c.as_slice.ensures.value c.as_slice-2.ensures.value c.spot_of-spot.ensures in
    (held_taken c.self.inside.slots.items l place c.spot_of-spot.result c.self.invariant at c.if-spot.false).before

pub invariant_of-self : goal.invariant_of-self
invariant_of-self c =
    let l = links_of c.self.inside in
    let place = message_place c.args.number (seat_shown c.self.inside.slots.items l).held in
    let at = spot_of_same c.self.inside.slots.items c.as_slice.result.now l.next c.as_slice-2.result.now l.held c.args.number c.spot_of-spot.result
    c.as_slice.ensures.value c.as_slice-2.ensures.value c.spot_of-spot.ensures in
    let words = held_taken_out l c.spot_of-spot.result c.take_out.new.next.items c.take_out.new.free c.take_out.new.first c.take_out.new.last
    (record { words = c.take_out.ensures.words; free = c.take_out.ensures.free; front = c.take_out.ensures.first; back = c.take_out.ensures.last }) in
    (after_take_held c.self.inside.slots.items c.take_out.new.slots.items l
    (with_held_words l c.take_out.new.next.items c.take_out.new.free c.take_out.new.first c.take_out.new.last) place c.spot_of-spot.result c.self.invariant
    at c.if-spot.false c.take_out.ensures.slots words).sound

pub returns-clause-message : goal.returns-clause-message
returns-clause-message c =
    let l = links_of c.self.inside in
    let place = message_place c.args.number (seat_shown c.self.inside.slots.items l).held in
    let at = spot_of_same c.self.inside.slots.items c.as_slice.result.now l.next c.as_slice-2.result.now l.held c.args.number c.spot_of-spot.result
    c.as_slice.ensures.value c.as_slice-2.ensures.value c.spot_of-spot.ensures in
    c.take_out.ensures.message
    ∙ (held_taken c.self.inside.slots.items l place c.spot_of-spot.result c.self.invariant at c.if-spot.false).message
    ∙ ap (λ seat. slice_get seat.held (message_place c.args.number seat.held)) c.self.view_is
    ∙ sym (find_at (is_of_number c.args.number) c.args.self.now.held)

pub returns-clause-rest : goal.returns-clause-rest
returns-clause-rest c =
    let l = links_of c.self.inside in
    let place = message_place c.args.number (seat_shown c.self.inside.slots.items l).held in
    let at = spot_of_same c.self.inside.slots.items c.as_slice.result.now l.next c.as_slice-2.result.now l.held c.args.number c.spot_of-spot.result
    c.as_slice.ensures.value c.as_slice-2.ensures.value c.spot_of-spot.ensures in
    let words = held_taken_out l c.spot_of-spot.result c.take_out.new.next.items c.take_out.new.free c.take_out.new.first c.take_out.new.last
    (record { words = c.take_out.ensures.words; free = c.take_out.ensures.free; front = c.take_out.ensures.first; back = c.take_out.ensures.last }) in
    (after_take_held c.self.inside.slots.items c.take_out.new.slots.items l
    (with_held_words l c.take_out.new.next.items c.take_out.new.free c.take_out.new.first c.take_out.new.last) place c.spot_of-spot.result c.self.invariant
    at c.if-spot.false c.take_out.ensures.slots words).shows
    ∙ ap (λ seat. without_held_at (message_place c.args.number seat.held) seat) c.self.view_is
