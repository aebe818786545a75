use Rattle.std.proofs.Common.{length}
use Rattle.kernel_args.proofs.ProcessLemmas.{SectionsRead}
use Rattle.kernel_args.proofs.process.sections_of.Given as goal

abbrev pub invariant-loop-rest : goal.invariant-loop-rest
invariant-loop-rest l = SectionsRead l.bytes l.rest l.sections

abbrev pub decreases-loop-rest : goal.decreases-loop-rest
decreases-loop-rest l = length l.rest
