use Rattle.snapshot_matching.proofs.ProcessRows.HeapLemmas.{heaps_matched_told}
use Rattle.snapshot_matching.proofs.heaps.are_heaps_matched.Goals as goal

pub returns : goal.returns
returns c file orphans =
    heaps_matched_told file orphans c.args.procs.now c.args.pages.now c.are_heaps_told.result c.requires c.are_heaps_told.ensures
