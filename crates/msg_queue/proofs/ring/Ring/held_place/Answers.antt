use Rattle.std.proofs.Common.{ap, ◌∙◌, arith}
use Rattle.msg_queue.specs.Chains.{chain}
use Rattle.msg_queue.specs.Seats.{place_found, used_of}
use Rattle.msg_queue.specs.Shown.{links_of, messages}
use Rattle.msg_queue.proofs.Seats.SeatLemmas.{used_is_few}
use Rattle.msg_queue.proofs.ring.Ring.held_place.Goals as goal

pub returns-clause-place : goal.returns-clause-place
returns-clause-place c =
    c.message_place.ensures
    ∙ ap (λ next. place_found c.args.number (messages c.as_slice.result.now (chain next c.self.inside.held))) c.as_slice-2.ensures.value
    ∙ ap (λ slots. place_found c.args.number (messages slots (chain c.self.inside.next.items c.self.inside.held))) c.as_slice.ensures.value
    ∙ ap (λ seat. place_found c.args.number seat.held) c.self.view_is

pub returns-clause-few : goal.returns-clause-few
returns-clause-few c =
    omega (arith, used_is_few c.self.inside.slots.items (links_of c.self.inside) c.self.invariant, ap used_of c.self.view_is)
