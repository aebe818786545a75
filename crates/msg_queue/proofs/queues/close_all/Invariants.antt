use Rattle.std.proofs.Common.{◌≡◌, All, vec_len}
use Rattle.msg_queue.specs.Seats.{used_of}
use Rattle.msg_queue.proofs.queues.close_all.Given as goal

abbrev pub invariant-loop-ring : goal.invariant-loop-ring
invariant-loop-ring l = All (λ seat. used_of seat ≡ 0) l.rings.items

abbrev pub decreases-loop-ring : goal.decreases-loop-ring
decreases-loop-ring l = vec_len l.rings
