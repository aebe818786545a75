use Rattle.std.proofs.Common.{◌<◌, length, sym, ap, subst, ◌∙◌}
use Rattle.ledger_model.specs.Steps.{orphan_loan}
use Rattle.msg_queue.specs.Seats.{seat_of}
use Rattle.vm_memory.specs.Memory.{ledger, processes}
use Rattle.kill_path.proofs.Messages.LeavingLemmas.{found_number, left_alone_there, place_is, place_there, room_there}
use Rattle.kill_path.proofs.leaving.leave_held.Goals as goal

pub hold_at-requires-clause-room : goal.hold_at-requires-clause-room
hold_at-requires-clause-room g c =
    let there : c.args.seat < length c.args.queues.now = subst (λ n. c.args.seat < n) (sym c.requires.seats) c.requires.seat in
    room_there c.args.queues.now c.args.seat there c.args.number c.in-Some-take_held.held (sym c.in-Some-take_held.ensures.message) c.take_held.new.self
    c.take_held.ensures.rest c.in-Some.ensures.few

pub hold_at-requires-clause-place : goal.hold_at-requires-clause-place
hold_at-requires-clause-place g c =
    let there : c.args.seat < length c.args.queues.now = subst (λ n. c.args.seat < n) (sym c.requires.seats) c.requires.seat in
    let hs = (seat_of c.args.queues.now c.args.seat).held in
    place_there c.args.queues.now c.args.seat there c.args.number c.in-Some-take_held.held (sym c.in-Some-take_held.ensures.message) c.take_held.new.self
    c.take_held.ensures.rest c.in-Some.place
    (place_is c.args.number hs c.in-Some-take_held.held c.in-Some.place (sym c.in-Some-take_held.ensures.message) (sym c.in-Some.ensures.place))

pub returns-clause-queues : goal.returns-clause-queues
returns-clause-queues g c =
    let there : c.args.seat < length c.args.queues.now = subst (λ n. c.args.seat < n) (sym c.requires.seats) c.requires.seat in
    let hs = (seat_of c.args.queues.now c.args.seat).held in
    left_alone_there c.args.queues.now c.args.seat there c.args.number c.in-Some-take_held.held (sym c.in-Some-take_held.ensures.message) c.take_held.new.self
    c.take_held.ensures.rest c.in-Some.place c.leave_alone-left.result c.hold_at.new.self
    (place_is c.args.number hs c.in-Some-take_held.held c.in-Some.place (sym c.in-Some-take_held.ensures.message) (sym c.in-Some.ensures.place))
    c.leave_alone-left.ensures.left c.hold_at.ensures

pub returns-clause-ledger : goal.returns-clause-ledger
returns-clause-ledger g c =
    c.leave_alone-left.ensures.ledger
    ∙ ap (λ n. orphan_loan (processes c.args.mem.now) n (ledger g.W.SwapStore.held c.args.mem.now))
    (found_number c.args.number (seat_of c.args.queues.now c.args.seat).held c.in-Some-take_held.held (sym c.in-Some-take_held.ensures.message))
