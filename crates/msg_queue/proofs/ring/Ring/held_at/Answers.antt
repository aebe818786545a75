use Rattle.std.proofs.Common.{ap, ◌∙◌}
use Rattle.std.specs.List.{slice_get}
use Rattle.std.specs.Option.{option_map}
use Rattle.xk_base.specs.Tables.RowMap.{row_map}
use Rattle.msg_queue.specs.Chains.{chain}
use Rattle.msg_queue.specs.Seats.{message_of}
use Rattle.msg_queue.specs.Shown.{links_of}
use Rattle.msg_queue.proofs.CallLemmas.{read_at, spot_at_same}
use Rattle.msg_queue.proofs.ring.Ring.held_at.Goals as goal

pub returns : goal.returns
returns c =
    let l = links_of c.self.inside in
    let at = spot_at_same l.next c.as_slice.result.now l.held c.args.place c.spot_at-spot.result c.as_slice.ensures.value c.spot_at-spot.ensures in
    let read = read_at c.self.inside.slots.items (chain l.next l.held) c.args.place c.spot_at-spot.result
    c.self.invariant.filled.size c.self.invariant.filled.held_slots at in
    c.message_in.ensures ∙ ap (λ slots. option_map message_of (row_map slots c.spot_at-spot.result.slot)) c.as_slice-2.ensures.value
    ∙ ap (option_map message_of) read ∙ ap (λ seat. option_map message_of (slice_get seat.held c.args.place)) c.self.view_is
