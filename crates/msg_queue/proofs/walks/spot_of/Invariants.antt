use Rattle.std.proofs.Common.{◌≤◌}
use Rattle.msg_queue.specs.Chains.{chain}
use Rattle.msg_queue.specs.Seats.{message_place}
use Rattle.msg_queue.specs.Shown.{messages}
use Rattle.msg_queue.proofs.Rings.SpotLemmas.{IsAt}
use Rattle.msg_queue.proofs.walks.spot_of.Given as goal

-- no message before this place has the number
abbrev pub invariant-loop-place : goal.invariant-loop-place
invariant-loop-place l = record {
  at : IsAt (chain l.next l.first) l._place l.spot;
  before : l._place ≤ message_place l.number (messages l.slots (chain l.next l.first));
}
