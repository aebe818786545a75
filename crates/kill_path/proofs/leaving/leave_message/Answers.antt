use Rattle.std.proofs.Common.{rules, ◌≡◌, false, set, sym, ap, ◌∙◌}
use Rattle.std.specs.Prelude.{if◌then◌else◌, is_some}
use Rattle.msg_queue.specs.Seats.{changed_at, seat_of, without_queued}
use Rattle.vm_memory.specs.Memory.{ledger, processes}
use Rattle.kill_path.specs.Leaving.{is_queued, with_alone}
use Rattle.kill_path.proofs.Messages.LeaveFoundLemmas.{queued_leaves, seat_unchanged}
use Rattle.kill_path.proofs.leaving.leave_message.Goals as goal

pub returns-in-Some-clause-ledger : goal.returns-in-Some-clause-ledger
returns-in-Some-clause-ledger g c =
    queued_leaves (processes c.args.mem.now) c.args.number (seat_of c.args.queues.now c.args.seat) c.in-Some.ended (ledger g.W.SwapStore.held c.args.mem.now) _
    (sym c.in-Some.ensures.message) (search rules)

pub returns-in-None-clause-queues : goal.returns-in-None-clause-queues
returns-in-None-clause-queues g c =
    let seat = seat_of c.args.queues.now c.args.seat in
    let queued : is_queued c.args.number seat ≡ false = ap is_some (sym c.in-None.ensures.message) in
    c.leave_held.ensures.queues
    ∙ ap (changed_at c.args.seat (with_alone c.args.number))
    (c.take_queued.ensures.rest ∙ seat_unchanged c.args.queues.now c.args.seat c.args.number (sym c.in-None.ensures.message))
    ∙ sym (ap (λ b. set c.args.queues.now c.args.seat (if b then without_queued c.args.number seat else with_alone c.args.number seat)) queued)
