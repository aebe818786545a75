use Rattle.msg_queue.specs.Chains.{chain}
use Rattle.msg_queue.proofs.Rings.SpotLemmas.{IsAt}
use Rattle.msg_queue.proofs.walks.length_of.Given as goal

abbrev pub invariant-loop-place : goal.invariant-loop-place
invariant-loop-place l = IsAt (chain l.next l.first) l.place l.spot
