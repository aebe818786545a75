use Rattle.std.proofs.Common.{◌≡◌, ◌++◌, map}
use Rattle.std.specs.Prelude.{take}
use Rattle.snapshot_matching.specs.ServerParts.{message_key}
use Rattle.snapshot_matching.proofs.messages.add_messages.Given as goal

abbrev pub invariant-loop-message : goal.invariant-loop-message
invariant-loop-message l = l.keys.items ≡ l.fn.keys.items ++ map message_key (take l.message-index l.messages)
