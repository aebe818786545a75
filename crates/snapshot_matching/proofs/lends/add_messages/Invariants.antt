use Rattle.std.proofs.Common.{◌≡◌, ◌++◌}
use Rattle.std.specs.Prelude.{take}
use Rattle.std.specs.List.{flat_map}
use Rattle.snapshot_matching.specs.LendParts.{message_lend}
use Rattle.snapshot_matching.proofs.lends.add_messages.Given as goal

abbrev pub invariant-loop-message : goal.invariant-loop-message
invariant-loop-message l = l.lends.items ≡ l.fn.lends.items ++ flat_map (message_lend l.pid) (take l.message-index l.messages)
