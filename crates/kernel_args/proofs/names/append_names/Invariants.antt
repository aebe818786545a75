use Rattle.std.proofs.Common.{length}
use Rattle.kernel_args.proofs.NameLemmas.{NamesRead}
use Rattle.kernel_args.proofs.names.append_names.Given as goal

abbrev pub invariant-loop-entry : goal.invariant-loop-entry
invariant-loop-entry l = NamesRead l.contents l.rest l.fn.names l.names

abbrev pub decreases-loop-entry : goal.decreases-loop-entry
decreases-loop-entry l = length l.rest
