use Rattle.std.proofs.Common.{◌≤◌}
use Rattle.msg_queue.specs.Chains.{chain}
use Rattle.msg_queue.specs.Seats.{message_place}
use Rattle.msg_queue.specs.Shown.{messages}
use Rattle.msg_queue.proofs.Rings.SpotLemmas.{IsAt}
use Rattle.msg_queue.proofs.walks.message_place.Given as goal

-- no message before this place has the number
abbrev pub invariant-loop-place : goal.invariant-loop-place
invariant-loop-place l = record {
  at : IsAt (chain l.next l.first) l.place l.spot;
  before : l.place ≤ message_place l.number (messages l.slots (chain l.next l.first));
}
