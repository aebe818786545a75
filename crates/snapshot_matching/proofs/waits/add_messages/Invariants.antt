use Rattle.std.proofs.Common.{◌≡◌, ◌++◌}
use Rattle.std.specs.Prelude.{take}
use Rattle.std.specs.List.{flat_map}
use Rattle.snapshot_matching.specs.WaitParts.{message_wait}
use Rattle.snapshot_matching.proofs.waits.add_messages.Given as goal

abbrev pub invariant-loop-message : goal.invariant-loop-message
invariant-loop-message l = l.waits.items ≡ l.fn.waits.items ++ flat_map message_wait (take l.message-index l.messages)
