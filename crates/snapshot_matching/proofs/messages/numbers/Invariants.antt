use Rattle.std.proofs.Common.{◌≡◌}
use Rattle.std.specs.Prelude.{take}
use Rattle.std.specs.List.{flat_map}
use Rattle.snapshot_matching.specs.ServerParts.{message_keys}
use Rattle.snapshot_matching.proofs.messages.numbers.Given as goal

abbrev pub invariant-loop-server : goal.invariant-loop-server
invariant-loop-server l = l.keys.items ≡ flat_map message_keys (take l.server-index l.servers)
