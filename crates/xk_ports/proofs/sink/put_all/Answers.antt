use Rattle.std.proofs.Common.{◌++◌, take, arith}
use Rattle.xk_ports.proofs.ToldLemmas.{Grows-append, front_more}
use Rattle.xk_ports.proofs.sink.put_all.Goals as goal

pub loop-rest-preserved : goal.loop-rest-preserved
loop-rest-preserved g c =
    let so_far = c.loop-rest.invariant in
    let taken = c.in_ok-taken.taken in
    record {
      front = so_far.front ++ take taken c.loop-rest.rest.now;
      whole = front_more _ _ _ taken so_far.whole;
      grown = Grows-append _ _ _ _ _ so_far.grown c.in_ok-taken.ensures.appended;
      later = omega arith;
    }
