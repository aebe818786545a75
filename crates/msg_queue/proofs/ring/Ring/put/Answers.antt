use Rattle.std.proofs.Common.{◌<◌, ap, sym, subst, ◌∙◌}
use Rattle.msg_queue.specs.Seats.{used_of, with_queued}
use Rattle.msg_queue.specs.Shown.{links_of, seat_shown}
use Rattle.msg_queue.proofs.Seats.SeatLemmas.{free_is_slot}
use Rattle.msg_queue.proofs.CallLemmas.{free_is_empty, chain_end_is_few}
use Rattle.msg_queue.proofs.AfterLemmas.{after_put, queued_put_in, with_queued_words}
use Rattle.msg_queue.proofs.ring.Ring.put.Goals as goal

pub put_in-requires-clause-free : goal.put_in-requires-clause-free
put_in-requires-clause-free c =
    free_is_slot c.self.inside.slots.items (links_of c.self.inside) c.self.invariant (subst (λ seat. used_of seat < 128) (sym c.self.view_is) c.requires)

pub put_in-requires-clause-empty : goal.put_in-requires-clause-empty
put_in-requires-clause-empty c =
    free_is_empty c.self.inside.slots.items (links_of c.self.inside) c.self.invariant (subst (λ seat. used_of seat < 128) (sym c.self.view_is) c.requires)

pub put_in-requires-clause-before : goal.put_in-requires-clause-before
put_in-requires-clause-before c =
    chain_end_is_few _ c.self.inside.last_queued c.self.invariant.chains.ends_queued c.self.invariant.chains.queued_chain.within

pub invariant_of-self : goal.invariant_of-self
invariant_of-self c =
    let l = links_of c.self.inside in
    let room : used_of (seat_shown c.self.inside.slots.items l) < 128 = subst (λ seat. used_of seat < 128) (sym c.self.view_is) c.requires in
    let words = queued_put_in l l.last_queued c.put_in.new.next.items c.put_in.new.free c.put_in.new.first c.put_in.new.last
    (record { words = c.put_in.ensures.words; free = c.put_in.ensures.free; front = c.put_in.ensures.first; back = c.put_in.ensures.last }) in
    (after_put c.self.inside.slots.items c.put_in.new.slots.items l (with_queued_words l c.put_in.new.next.items c.put_in.new.free c.put_in.new.first c.put_in.new.last) c.args.h
    c.self.invariant room c.put_in.ensures.slots words).sound

pub returns : goal.returns
returns c =
    let l = links_of c.self.inside in
    let room : used_of (seat_shown c.self.inside.slots.items l) < 128 = subst (λ seat. used_of seat < 128) (sym c.self.view_is) c.requires in
    let words = queued_put_in l l.last_queued c.put_in.new.next.items c.put_in.new.free c.put_in.new.first c.put_in.new.last
    (record { words = c.put_in.ensures.words; free = c.put_in.ensures.free; front = c.put_in.ensures.first; back = c.put_in.ensures.last }) in
    (after_put c.self.inside.slots.items c.put_in.new.slots.items l (with_queued_words l c.put_in.new.next.items c.put_in.new.free c.put_in.new.first c.put_in.new.last) c.args.h
    c.self.invariant room c.put_in.ensures.slots words).shows
    ∙ ap (with_queued c.args.h) c.self.view_is
