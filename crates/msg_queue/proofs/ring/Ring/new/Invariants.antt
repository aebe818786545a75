use Rattle.std.proofs.Common.{◌≡◌, ◌≤◌, ℕ, ◌+◌, ◌<◌, length, get_or, replicate, None}
use Rattle.std.specs.Prelude.{vec_capacity}
use Rattle.msg_queue.proofs.ring.Ring.new.Given as goal

abbrev pub invariant-loop-slot : goal.invariant-loop-slot
invariant-loop-slot l = record {
  slots : l.slots.items ≡ replicate l.slot None;
  words : length l.next.items ≡ l.slot;
  ascending : (k : ℕ) → k < l.slot → get_or l.next.items k 0 ≡ k + 1;
  room : 128 ≤ vec_capacity l.slots;
  room_for_words : 128 ≤ vec_capacity l.next;
}
