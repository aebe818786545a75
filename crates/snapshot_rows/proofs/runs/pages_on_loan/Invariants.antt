use Rattle.std.proofs.Common.{◌≡◌}
use Rattle.std.specs.Prelude.{take}
use Rattle.std.specs.List.{flat_map}
use Rattle.snapshot_rows.specs.RunParts.{run_of}
use Rattle.snapshot_rows.proofs.runs.pages_on_loan.Given as goal

abbrev pub invariant-loop-page : goal.invariant-loop-page
invariant-loop-page l = l.runs.items ≡ flat_map run_of (take l.page-index l.pages)
