use Rattle.std.proofs.Common.{◌≡◌, ◌++◌}
use Rattle.std.specs.Prelude.{take}
use Rattle.snapshot_rows.specs.RunParts.{run_keys}
use Rattle.snapshot_rows.proofs.runs.add_numbers.Given as goal

abbrev pub invariant-loop-run : goal.invariant-loop-run
invariant-loop-run l = l.keys.items ≡ l.fn.keys.items ++ run_keys (take l.run-index l.runs)
