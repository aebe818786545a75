use Rattle.std.proofs.Common.{◌*◌}
use Rattle.thread_table.proofs.MarkLemmas.{none_marked}
use Rattle.thread_table.proofs.table.Threads.new.Goals as goal

pub invariant_of-result-clause-marked : goal.invariant_of-result-clause-marked
invariant_of-result-clause-marked c =
    none_marked c.in_ok-ready.ready.items c.in_ok-by_place.by_place.items (c.args.procs * 31) c.in_ok-by_place.ensures
