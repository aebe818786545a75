use Rattle.std.proofs.Common.{◌≡◌, ◌==◌, take}
use Rattle.order_search.specs.Marks.{is_zeros}
use Rattle.order_search.proofs.marks.is_zeros.Given as goal

-- of the bytes so far
abbrev pub invariant-loop-byte : goal.invariant-loop-byte
invariant-loop-byte l = (l.all == 0) ≡ is_zeros (take l.byte-index l.block)
