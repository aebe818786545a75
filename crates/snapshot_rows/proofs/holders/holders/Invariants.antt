use Rattle.std.proofs.Common.{◌≡◌}
use Rattle.std.specs.Prelude.{take}
use Rattle.std.specs.List.{flat_map}
use Rattle.snapshot_rows.specs.PageParts.{holder_of}
use Rattle.snapshot_rows.proofs.holders.holders.Given as goal

abbrev pub invariant-loop-page : goal.invariant-loop-page
invariant-loop-page l = l.keys.items ≡ flat_map holder_of (take l.page-index l.pages)
