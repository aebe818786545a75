use Rattle.std.proofs.Common.{◌≡◌, drop}
use Rattle.std.specs.List.{flat_map}
use Rattle.kernel_args.specs.CheckNumber.{bits, register_after}
use Rattle.kernel_args.proofs.check_number.after_groups.Given as goal

-- what the groups left make of the register is what all groups make of the one at the start
abbrev pub invariant-loop-group : goal.invariant-loop-group
invariant-loop-group l = register_after l.register (flat_map (flat_map (bits 8)) (drop l.group-index l.groups)) ≡ register_after l.start (flat_map (flat_map (bits 8)) l.groups)
