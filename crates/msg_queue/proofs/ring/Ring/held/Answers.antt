use Rattle.std.proofs.Common.{ap, sym, ◌∙◌}
use Rattle.std.proofs.lemmas.List.Folds.{find_at}
use Rattle.std.specs.List.{slice_get}
use Rattle.std.specs.Option.{option_map}
use Rattle.xk_base.specs.Tables.RowMap.{row_map}
use Rattle.msg_queue.specs.Chains.{chain}
use Rattle.msg_queue.specs.Seats.{is_of_number, message_of, message_place}
use Rattle.msg_queue.specs.Shown.{links_of, seat_shown}
use Rattle.msg_queue.proofs.CallLemmas.{read_at, spot_of_same}
use Rattle.msg_queue.proofs.ring.Ring.held.Goals as goal

pub returns : goal.returns
returns c =
    let l = links_of c.self.inside in
    let at = spot_of_same c.self.inside.slots.items c.as_slice.result.now l.next c.as_slice-2.result.now l.held c.args.number c.spot_of-spot.result
    c.as_slice.ensures.value c.as_slice-2.ensures.value c.spot_of-spot.ensures in
    let read = read_at c.self.inside.slots.items (chain l.next l.held) (message_place c.args.number (seat_shown c.self.inside.slots.items l).held) c.spot_of-spot.result
    c.self.invariant.filled.size c.self.invariant.filled.held_slots at in
    c.message_in.ensures ∙ ap (λ slots. option_map message_of (row_map slots c.spot_of-spot.result.slot)) c.as_slice-3.ensures.value
    ∙ ap (option_map message_of) read ∙ ap (λ seat. option_map message_of (slice_get seat.held (message_place c.args.number seat.held))) c.self.view_is
    ∙ sym (ap (option_map message_of) (find_at (is_of_number c.args.number) c.args.self.now.held))
