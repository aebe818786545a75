use Rattle.xk_ports.specs.Store.{HoldsZeros}
use Rattle.host_io.specs.PageFile.{slots_in}
use Rattle.host_io.proofs.file_store.write_zeros.Given as goal

-- the slots so far hold zeros
abbrev pub invariant-loop-slot : goal.invariant-loop-slot
invariant-loop-slot g l = HoldsZeros (slots_in (g.F.PageFile.bytes l.file)) l.slot
