use Rattle.std.proofs.Common.{◌≡◌, ◌≤◌, replicate}
use Rattle.std.specs.Prelude.{vec_capacity}
use Rattle.xk_base.specs.declared.limits.TheConstants.{SERVER_LIMIT}
use Rattle.msg_queue.specs.Seats.{empty_seat}
use Rattle.msg_queue.proofs.queues.Queues.new.Given as goal

abbrev pub invariant-loop-seat : goal.invariant-loop-seat
invariant-loop-seat l = record {
  seats : l.rings.items ≡ replicate l._seat empty_seat;
  room : SERVER_LIMIT ≤ vec_capacity l.rings;
}
