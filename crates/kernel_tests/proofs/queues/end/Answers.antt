use Rattle.std.proofs.Common.{◌≡◌, length, ap, ◌∙◌, arith}
use Rattle.std.proofs.lemmas.List.{get_or_default}
use Rattle.msg_queue.specs.Seats.{used_of, empty_seat}
use Rattle.kernel_tests.proofs.queues.end.Goals as goal

pub close-requires : goal.close-requires
close-requires g c = λ k d within.
    let seats : length c.args.queues ≡ 64 = c.loop-seat.invariant.seats (omega arith) in
    ap used_of (get_or_default c.args.queues k d empty_seat within) ∙ c.loop-seat.invariant.none k (omega arith)
