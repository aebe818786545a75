use Rattle.std.proofs.Common.{◌<◌, length, sym, subst, ◌∙◌}
use Rattle.xk_parts.specs.Seats.{messages_at}
use Rattle.msg_queue.specs.Seats.{seat_of}
use Rattle.vm_memory.specs.Memory.{ledger}
use Rattle.kill_path.specs.Noted.{noted}
use Rattle.kill_path.proofs.Servers.EndingLemmas.{nobody_more, nothing_ends, rest_can_end, rest_ends, rest_noted, same_count, then_emptied}
use Rattle.kill_path.proofs.KeepLemmas.{after_both}
use Rattle.kill_path.proofs.closing.end_seat.Goals as goal

pub loop-ended-preserved : goal.loop-ended-preserved
loop-ended-preserved g c =
    let k = c.args.seat in
    let old = c.loop-ended.queues in
    let new = c.take_first.new.queues in
    let inv = c.loop-ended.invariant in
    let there : k < length old = subst (λ n. k < n) (sym inv.seats) c.requires.seat in
    let h = c.in-Some.ended in
    let first = sym c.in-Some.ensures.message in
    let before = ledger g.W.SwapStore.held c.loop-ended.mem in
    let after = ledger g.W.SwapStore.held c.end_message.new.mem in
    record {
      stays = after_both g.W.SwapStore c.args.mem.now c.loop-ended.mem c.end_message.new.mem
          inv.stays c.end_message.ensures.stays;
      seats = same_count old new k there c.take_first.ensures.rest ∙ inv.seats;
      messages = rest_can_end old new k there c.take_first.ensures.rest h first before after c.end_message.ensures.ledger inv.messages;
      ledger = rest_ends old new k there c.take_first.ensures.rest h first before after c.end_message.ensures.ledger ∙ inv.ledger;
      noted = rest_noted old new k there c.take_first.ensures.rest h first (noted c.loop-ended.answered) (noted c.end_message.new.answered)
          c.end_message.ensures.noted ∙ inv.noted;
      queues = then_emptied old new k there c.take_first.ensures.rest ∙ inv.queues;
    }

pub returns-clause-ledger : goal.returns-clause-ledger
returns-clause-ledger g c =
    nothing_ends (messages_at (seat_of c.loop-ended.queues c.args.seat)) (ledger g.W.SwapStore.held c.loop-ended.mem) _
    (sym c.in_default.ensures.message) c.loop-ended.invariant.ledger

pub returns-clause-noted : goal.returns-clause-noted
returns-clause-noted g c =
    nobody_more (messages_at (seat_of c.loop-ended.queues c.args.seat)) (noted c.loop-ended.answered) _
    (sym c.in_default.ensures.message) c.loop-ended.invariant.noted
