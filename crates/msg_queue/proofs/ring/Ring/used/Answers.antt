use Rattle.std.proofs.Common.{length, ap, ◌∙◌, arith}
use Rattle.msg_queue.specs.Chains.{chain}
use Rattle.msg_queue.specs.Seats.{used_of}
use Rattle.msg_queue.specs.Shown.{links_of}
use Rattle.msg_queue.proofs.Seats.SeatLemmas.{used_is, used_is_few}
use Rattle.msg_queue.proofs.ring.Ring.used.Goals as goal

pub returns-clause-count : goal.returns-clause-count
returns-clause-count c =
    let queued = c.length_of.ensures ∙ ap (λ next. length (chain next c.self.inside.queued)) c.as_slice.ensures.value in
    let held = c.length_of-2.ensures ∙ ap (λ next. length (chain next c.self.inside.held)) c.as_slice-2.ensures.value in
    omega (arith, queued, held, used_is c.self.inside.slots.items (links_of c.self.inside) c.self.invariant, ap used_of c.self.view_is)

pub returns-clause-few : goal.returns-clause-few
returns-clause-few c =
    omega (arith, used_is_few c.self.inside.slots.items (links_of c.self.inside) c.self.invariant, ap used_of c.self.view_is)
