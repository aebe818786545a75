use Rattle.std.proofs.Common.{◌+◌, leb, refl}
use Rattle.snapshot_rows.proofs.Pages.CapacityLemmas.{within_told}
use Rattle.snapshot_rows.proofs.capacity.are_within.Goals as goal

pub returns : goal.returns
returns c file =
    within_told c.args.n c.args.cap file c.args.pages.now c.args.orphans.now
    (leb (c.count_pages.result + c.count_orphans.result) c.args.cap) c.requires.pages c.requires.orphans
    (rw (c.count_pages.ensures, c.count_orphans.ensures) refl)
