use Rattle.std.proofs.Common.{◌≡◌, sym, ap, subst, ◌∙◌}
use Rattle.std.specs.Prelude.{is_some, not}
use Rattle.msg_queue.specs.Seats.{seat_of}
use Rattle.xk_parts.specs.Seats.{messages_at}
use Rattle.vm_memory.specs.Memory.{Size, capacity_of, ledger, processes}
use Rattle.kill_path.specs.Leaving.{LeavesAlike, standing}
use Rattle.kill_path.proofs.KeepLemmas.{after_both, sound_lawful}
use Rattle.kill_path.proofs.Messages.LeaveFoundLemmas.{none_sent}
use Rattle.kill_path.proofs.Messages.LeaveSeatLemmas.{alike_both, empty_of_others, has_left, leaves, others_same, taken_seat}
use Rattle.kill_path.proofs.Messages.LeaveStepLemmas.{known_here}
use Rattle.kill_path.proofs.leaving.leave_seat.Goals as goal

pub returns-then-is_none-clause-left : goal.returns-then-is_none-clause-left
returns-then-is_none-clause-left g c =
    empty_of_others c.args.servers.now c.args.queues.now c.args.seat c.args.pid c.requires.messages.seats c.requires.seat
    (ap is_some (sym c.at_seat.ensures) ∙ c.is_none.ensures ∙ ap not c.if-is_none.true)

pub leave_message-requires-clause-message : goal.leave_message-requires-clause-message
leave_message-requires-clause-message g c =
    let at = taken_seat c.args.servers.now c.args.seat (ap is_some (sym c.at_seat.ensures) ∙ c.is_none.ensures ∙ ap not c.if-is_none.false) in
    leaves c.args.servers.now c.loop-number.queues at.0 c.args.seat at.1 c.args.pid c.in-Some.number (ledger g.W.SwapStore.held c.loop-number.mem)
    c.loop-number.invariant.messages c.in-Some.ensures

pub loop-number-smaller : goal.loop-number-smaller
loop-number-smaller g c =
    let at = taken_seat c.args.servers.now c.args.seat (ap is_some (sym c.at_seat.ensures) ∙ c.is_none.ensures ∙ ap not c.if-is_none.false) in
    let old = ledger g.W.SwapStore.held c.loop-number.mem in
    (has_left c.args.servers.now c.loop-number.queues at.0 c.args.seat at.1 c.args.pid c.in-Some.number old c.loop-number.invariant.messages c.in-Some.ensures
    (processes c.loop-number.mem) (capacity_of c.loop-number.mem)
    (sound_lawful g.W.SwapStore c.loop-number.mem c.loop-number.invariant.stays.sound)
    (ledger g.W.SwapStore.held c.leave_message.new.mem) c.leave_message.new.queues c.leave_message.ensures.queues c.leave_message.ensures.ledger).fewer

pub loop-number-preserved : goal.loop-number-preserved
loop-number-preserved g c =
    let at = taken_seat c.args.servers.now c.args.seat (ap is_some (sym c.at_seat.ensures) ∙ c.is_none.ensures ∙ ap not c.if-is_none.false) in
    let first = ledger g.W.SwapStore.held c.args.mem.now in
    let old = ledger g.W.SwapStore.held c.loop-number.mem in
    let new = ledger g.W.SwapStore.held c.leave_message.new.mem in
    let procs : processes c.loop-number.mem ≡ processes c.args.mem.now = ap (λ (s : Size). s.procs) c.loop-number.invariant.stays.keeps.size in
    let left = has_left c.args.servers.now c.loop-number.queues at.0 c.args.seat at.1 c.args.pid c.in-Some.number old c.loop-number.invariant.messages
    c.in-Some.ensures (processes c.loop-number.mem) (capacity_of c.loop-number.mem)
    (sound_lawful g.W.SwapStore c.loop-number.mem c.loop-number.invariant.stays.sound)
    new c.leave_message.new.queues c.leave_message.ensures.queues c.leave_message.ensures.ledger in
    record {
      stays = after_both g.W.SwapStore c.args.mem.now c.loop-number.mem c.leave_message.new.mem
          c.loop-number.invariant.stays c.leave_message.ensures.stays;
      messages = left.now_open;
      alike = alike_both (processes c.args.mem.now) c.args.pid (standing first c.args.servers.now c.args.queues.now)
          (standing old c.args.servers.now c.loop-number.queues) (standing new c.args.servers.now c.leave_message.new.queues)
          c.loop-number.invariant.alike
          (subst (λ n. LeavesAlike n c.args.pid (standing old c.args.servers.now c.loop-number.queues) (standing new c.args.servers.now c.leave_message.new.queues))
          procs left.alike);
      others = λ other ne.
          others_same c.args.servers.now c.loop-number.queues at.0 c.args.seat at.1 c.args.pid c.in-Some.number old c.loop-number.invariant.messages
          c.in-Some.ensures (processes c.loop-number.mem) (capacity_of c.loop-number.mem)
          (sound_lawful g.W.SwapStore c.loop-number.mem c.loop-number.invariant.stays.sound)
          new c.leave_message.new.queues c.leave_message.ensures.queues c.leave_message.ensures.ledger other ne
          ∙ c.loop-number.invariant.others other ne;
    }

pub returns-clause-left : goal.returns-clause-left
returns-clause-left g c =
    let at = taken_seat c.args.servers.now c.args.seat (ap is_some (sym c.at_seat.ensures) ∙ c.is_none.ensures ∙ ap not c.if-is_none.false) in
    none_sent c.args.pid (messages_at (seat_of c.loop-number.queues c.args.seat))
    (known_here c.args.servers.now c.loop-number.queues at.0 c.args.seat at.1 (ledger g.W.SwapStore.held c.loop-number.mem) c.loop-number.invariant.messages)
    c.in_default.ensures
