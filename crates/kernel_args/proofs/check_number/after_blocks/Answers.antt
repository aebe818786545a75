use Rattle.std.proofs.Common.{arith}
use Rattle.std.specs.List.{flat_map}
use Rattle.kernel_args.specs.CheckNumber.{bits, register_after}
use Rattle.kernel_args.proofs.GroupLemmas.{one_more_group}
use Rattle.kernel_args.proofs.check_number.after_blocks.Goals as goal

pub loop-block-preserved : goal.loop-block-preserved
loop-block-preserved c =
    rw c.after_block-register.ensures (one_more_group c.loop-block.register (register_after c.args.start (flat_map (flat_map (bits 8)) c.args.blocks.now)) c.loop-block.block-index c.args.blocks.now (omega arith) c.loop-block.invariant)
