use Rattle.std.proofs.Common.{◌≡◌, drop}
use Rattle.std.specs.List.{flat_map}
use Rattle.kernel_args.specs.CheckNumber.{bits, register_after}
use Rattle.kernel_args.proofs.check_number.after_bytes.Given as goal

-- what the bytes left make of the register is what all bytes make of the one at the start
abbrev pub invariant-loop-byte : goal.invariant-loop-byte
invariant-loop-byte l = register_after l.register (flat_map (bits 8) (drop l.byte-index l.bytes)) ≡ register_after l.start (flat_map (bits 8) l.bytes)
