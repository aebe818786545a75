use Rattle.std.proofs.Common.{arith}
use Rattle.std.specs.List.{flat_map}
use Rattle.kernel_args.specs.CheckNumber.{bits, register_after}
use Rattle.kernel_args.proofs.CheckLemmas.{one_more_byte}
use Rattle.kernel_args.proofs.check_number.after_bytes.Goals as goal

pub loop-byte-preserved : goal.loop-byte-preserved
loop-byte-preserved c =
    rw c.after_byte-register.ensures (one_more_byte c.loop-byte.register (register_after c.args.start (flat_map (bits 8) c.args.bytes.now)) c.loop-byte.byte-index c.args.bytes.now (omega arith) c.loop-byte.invariant)
