use Rattle.std.proofs.Common.{length}
use Rattle.kernel_args.proofs.ReadLemmas.{RowRead}
use Rattle.kernel_args.proofs.reading.read_row.Given as goal

abbrev pub invariant-loop-rest : goal.invariant-loop-rest
invariant-loop-rest l = RowRead l.version l.row l.rest l.found

abbrev pub decreases-loop-rest : goal.decreases-loop-rest
decreases-loop-rest l = length l.rest
