use Rattle.std.proofs.Common.{◌≡◌, drop}
use Rattle.std.specs.List.{flat_map}
use Rattle.kernel_args.specs.CheckNumber.{bits, register_after}
use Rattle.kernel_args.proofs.check_number.after_blocks.Given as goal

-- what the blocks left make of the register is what all blocks make of the one at the start
abbrev pub invariant-loop-block : goal.invariant-loop-block
invariant-loop-block l = register_after l.register (flat_map (flat_map (bits 8)) (drop l.block-index l.blocks)) ≡ register_after l.start (flat_map (flat_map (bits 8)) l.blocks)
