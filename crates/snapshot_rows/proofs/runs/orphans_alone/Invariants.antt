use Rattle.std.proofs.Common.{◌≡◌, map}
use Rattle.std.specs.Prelude.{take}
use Rattle.snapshot_rows.specs.RunParts.{orphan_run}
use Rattle.snapshot_rows.proofs.runs.orphans_alone.Given as goal

abbrev pub invariant-loop-orphan : goal.invariant-loop-orphan
invariant-loop-orphan l = l.runs.items ≡ map orphan_run (take l.orphan-index l.orphans)
