use Rattle.std.proofs.Common.{map, ap, ◌∙◌}
use Rattle.msg_queue.specs.Listings.{listed}
use Rattle.msg_queue.specs.Seats.{message_of}
use Rattle.msg_queue.proofs.ring.Ring.held_messages.Goals as goal

pub returns : goal.returns
returns c =
    let ring = c.self.inside in
    c.from_slot.ensures ∙ ap (λ slots. listed slots c.as_slice-2.result.now ring.held) c.as_slice.ensures.value
    ∙ ap (λ words. listed ring.slots.items words ring.held) c.as_slice-2.ensures.value ∙ ap (λ seat. map message_of seat.held) c.self.view_is
