use Rattle.std.proofs.Common.{arith, refl}
use Rattle.order_search.proofs.MarkLemmas.{zeros_more}
use Rattle.order_search.proofs.marks.is_zeros.Goals as goal

pub loop-byte-preserved : goal.loop-byte-preserved
loop-byte-preserved c =
    zeros_more c.args.block.now c.loop-byte.byte-index c.loop-byte.all _ 0 (omega arith) c.loop-byte.invariant refl
