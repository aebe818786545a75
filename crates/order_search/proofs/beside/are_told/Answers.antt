use Rattle.std.proofs.Common.{All, arith, subst, take_all}
use Rattle.order_search.proofs.ExitLemmas.{exits_told, one_more_end}
use Rattle.order_search.specs.Spelled.{IsEndOfWords}
use Rattle.order_search.proofs.beside.are_told.Goals as goal

pub loop-end-preserved : goal.loop-end-preserved
loop-end-preserved c =
    one_more_end c.args.ends.now c.loop-end.end-index _ (omega arith) c.loop-end.invariant c.is_told.ensures

pub returns : goal.returns
returns c =
    exits_told c.args.ends.now
    (subst (All IsEndOfWords) (take_all c.loop-end.end-index c.args.ends.now (omega (arith, c.loop-end-test.false))) c.loop-end.invariant)
