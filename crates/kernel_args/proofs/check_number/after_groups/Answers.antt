use Rattle.std.proofs.Common.{arith}
use Rattle.std.specs.List.{flat_map}
use Rattle.kernel_args.specs.CheckNumber.{bits, register_after}
use Rattle.kernel_args.proofs.GroupLemmas.{one_more_group}
use Rattle.kernel_args.proofs.check_number.after_groups.Goals as goal

pub loop-group-preserved : goal.loop-group-preserved
loop-group-preserved c =
    rw c.after_group-register.ensures (one_more_group c.loop-group.register (register_after c.args.start (flat_map (flat_map (bits 8)) c.args.groups.now)) c.loop-group.group-index c.args.groups.now (omega arith) c.loop-group.invariant)
