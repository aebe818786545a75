use Rattle.std.proofs.Common.{arith}
use Rattle.order_search.proofs.KeyLemmas.{next_byte, one_more}
use Rattle.order_search.proofs.beside.came_bytes.Goals as goal

pub loop-it_came-preserved : goal.loop-it_came-preserved
loop-it_came-preserved c =
    next_byte c.args.came.now c.loop-it_came.it_came-index c.from.result _ c.loop-it_came.bytes.items c.push.new.self.items c.from.ensures
    c.loop-it_came.invariant c.in_ok-push.ensures.items (one_more c.args.came.now c.loop-it_came.it_came-index _ (omega arith))
