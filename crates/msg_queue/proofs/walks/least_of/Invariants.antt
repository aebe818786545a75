use Rattle.std.proofs.Common.{List, ◌++◌, take}
use Rattle.msg_queue.specs.Chains.{chain}
use Rattle.msg_queue.specs.Seats.{IsFirstOf}
use Rattle.msg_queue.specs.Shown.{messages}
use Rattle.msg_queue.specs.declared.held.Held.{Held}
use Rattle.msg_queue.proofs.Rings.SpotLemmas.{IsAt}
use Rattle.msg_queue.proofs.walks.least_of.Given as goal

-- the lowest is the first of the messages before this place, with those seen before
abbrev pub invariant-loop-place : goal.invariant-loop-place
invariant-loop-place l = record {
  at : IsAt (chain l.next l.first) l._place l.spot;
  first : (seen : List Held) → IsFirstOf l.pid seen l.fn.least → IsFirstOf l.pid (seen ++ take l._place (messages l.slots (chain l.next l.first))) l.lowest;
}
