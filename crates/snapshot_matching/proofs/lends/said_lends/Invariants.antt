use Rattle.std.proofs.Common.{◌≡◌}
use Rattle.std.specs.Prelude.{take}
use Rattle.std.specs.List.{flat_map}
use Rattle.snapshot_matching.specs.LendParts.{lends_of}
use Rattle.snapshot_matching.proofs.lends.said_lends.Given as goal

abbrev pub invariant-loop-server : goal.invariant-loop-server
invariant-loop-server l = l.lends.items ≡ flat_map lends_of (take l.server-index l.servers)
