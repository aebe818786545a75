use Rattle.std.proofs.Common.{◌≡◌}
use Rattle.std.specs.Prelude.{take}
use Rattle.std.specs.List.{flat_map}
use Rattle.snapshot_matching.specs.WaitParts.{waits_of}
use Rattle.snapshot_matching.proofs.waits.said_waits.Given as goal

abbrev pub invariant-loop-server : goal.invariant-loop-server
invariant-loop-server l = l.waits.items ≡ flat_map waits_of (take l.server-index l.servers)
