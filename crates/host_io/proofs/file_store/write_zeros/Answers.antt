use Rattle.host_io.specs.PageFile.{slots_in}
use Rattle.host_io.proofs.PageFileLemmas.{HoldsZeros-more}
use Rattle.host_io.proofs.file_store.write_zeros.Goals as goal

pub loop-slot-preserved : goal.loop-slot-preserved
loop-slot-preserved g c =
    HoldsZeros-more
    (slots_in (g.F.PageFile.bytes c.loop-slot.file))
    (slots_in (g.F.PageFile.bytes c.write_slot.new.file))
    c.loop-slot.slot
    c.zero_page-zeros.result
    c.zero_page-zeros.ensures
    c.loop-slot.invariant
    c.in_ok-write_slot.ensures.put
