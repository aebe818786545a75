use Rattle.std.proofs.Common.{◌≡◌, ◌<◌, ℕ, length}
use Rattle.xk_base.specs.declared.limits.TheConstants.{SERVER_LIMIT}
use Rattle.msg_queue.specs.Seats.{seat_of, used_of}
use Rattle.kernel_tests.proofs.queues.end.Given as goal

-- no seat before this one has a message
abbrev pub invariant-loop-seat : goal.invariant-loop-seat
invariant-loop-seat g l = record {
  seats : 0 < l.seat → length l.queues ≡ SERVER_LIMIT;
  none : (k : ℕ) → k < l.seat → used_of (seat_of l.queues k) ≡ 0;
}
