use Rattle.std.proofs.Common.{◌≤◌, length, ap, sym, subst, ◌∙◌}
use Rattle.std.specs.List.{slice_get}
use Rattle.msg_queue.specs.Seats.{without_queued_at}
use Rattle.msg_queue.specs.Shown.{links_of}
use Rattle.msg_queue.specs.declared.walks.Spot.{Spot}
use Rattle.msg_queue.proofs.CallLemmas.{queued_taken, first_spot, get_past}
use Rattle.msg_queue.proofs.AfterLemmas.{after_take_queued, queued_taken_out, with_queued_words, none_queued, queued_as_it_was}
use Rattle.msg_queue.proofs.ring.Ring.take_oldest.Goals as goal

pub returns-then-spot-clause-message : goal.returns-then-spot-clause-message
returns-then-spot-clause-message c =
    let l = links_of c.self.inside in
    let spot : Spot = record { before = 128; slot = l.queued } in
    let none = none_queued c.self.inside.slots.items l 0 spot c.self.invariant (first_spot l.next l.queued c.self.invariant.chains.queued_chain) c.if-spot.true in
    sym (get_past c.args.self.now.queued 0 (subst (λ seat. length seat.queued ≤ 0) c.self.view_is none))

pub returns-then-spot-clause-rest : goal.returns-then-spot-clause-rest
returns-then-spot-clause-rest c =
    let l = links_of c.self.inside in
    let spot : Spot = record { before = 128; slot = l.queued } in
    let none = none_queued c.self.inside.slots.items l 0 spot c.self.invariant (first_spot l.next l.queued c.self.invariant.chains.queued_chain) c.if-spot.true in
    queued_as_it_was c.args.self.now 0 (subst (λ seat. length seat.queued ≤ 0) c.self.view_is none)

pub take_out-requires-clause-slot : goal.take_out-requires-clause-slot
take_out-requires-clause-slot c =
    let l = links_of c.self.inside in
    let spot : Spot = record { before = 128; slot = l.queued } in
    (queued_taken c.self.inside.slots.items l 0 spot c.self.invariant (first_spot l.next l.queued c.self.invariant.chains.queued_chain) c.if-spot.false).slot

pub invariant_of-self : goal.invariant_of-self
invariant_of-self c =
    let l = links_of c.self.inside in
    let spot : Spot = record { before = 128; slot = l.queued } in
    let words = queued_taken_out l spot c.take_out.new.next.items c.take_out.new.free c.take_out.new.first c.take_out.new.last
    (record { words = c.take_out.ensures.words; free = c.take_out.ensures.free; front = c.take_out.ensures.first; back = c.take_out.ensures.last }) in
    (after_take_queued c.self.inside.slots.items c.take_out.new.slots.items l
    (with_queued_words l c.take_out.new.next.items c.take_out.new.free c.take_out.new.first c.take_out.new.last) 0 spot c.self.invariant
    (first_spot l.next l.queued c.self.invariant.chains.queued_chain) c.if-spot.false c.take_out.ensures.slots words).sound

pub returns-clause-message : goal.returns-clause-message
returns-clause-message c =
    let l = links_of c.self.inside in
    let spot : Spot = record { before = 128; slot = l.queued } in
    c.take_out.ensures.message
    ∙ (queued_taken c.self.inside.slots.items l 0 spot c.self.invariant (first_spot l.next l.queued c.self.invariant.chains.queued_chain) c.if-spot.false).message
    ∙ ap (λ seat. slice_get seat.queued 0) c.self.view_is

pub returns-clause-rest : goal.returns-clause-rest
returns-clause-rest c =
    let l = links_of c.self.inside in
    let spot : Spot = record { before = 128; slot = l.queued } in
    let words = queued_taken_out l spot c.take_out.new.next.items c.take_out.new.free c.take_out.new.first c.take_out.new.last
    (record { words = c.take_out.ensures.words; free = c.take_out.ensures.free; front = c.take_out.ensures.first; back = c.take_out.ensures.last }) in
    (after_take_queued c.self.inside.slots.items c.take_out.new.slots.items l
    (with_queued_words l c.take_out.new.next.items c.take_out.new.free c.take_out.new.first c.take_out.new.last) 0 spot c.self.invariant
    (first_spot l.next l.queued c.self.invariant.chains.queued_chain) c.if-spot.false c.take_out.ensures.slots words).shows
    ∙ ap (without_queued_at 0) c.self.view_is
