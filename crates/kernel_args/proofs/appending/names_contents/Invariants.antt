use Rattle.std.proofs.Common.{◌≡◌, take}
use Rattle.kernel_args.specs.Writing.{names_contents}
use Rattle.kernel_args.proofs.appending.names_contents.Given as goal

abbrev pub invariant-loop-name : goal.invariant-loop-name
invariant-loop-name l = l.out ≡ names_contents (take l.name-index l.names)
