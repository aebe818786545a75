use Rattle.std.proofs.Common.{◌≡◌, ◌+◌, ◌≤◌, length}
use Rattle.kernel_args.specs.Converting.{left_out}
use Rattle.kernel_args.proofs.converting.left_out.Given as goal

abbrev pub invariant-loop-tag : goal.invariant-loop-tag
invariant-loop-tag l = record {
  bytes : l.size + left_out l.rest ≡ left_out l.row;
  within : l.size + length l.rest ≤ length l.row;
}

abbrev pub decreases-loop-tag : goal.decreases-loop-tag
decreases-loop-tag l = length l.rest
