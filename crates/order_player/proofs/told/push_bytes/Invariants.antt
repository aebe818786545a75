use Rattle.std.proofs.Common.{◌≡◌, ◌++◌, take}
use Rattle.order_model.specs.Moves.{bytes_of}
use Rattle.order_player.proofs.told.push_bytes.Given as goal

abbrev pub invariant-loop-rec : goal.invariant-loop-rec
invariant-loop-rec l = l.console.items ≡ l.fn.console.items ++ bytes_of (take l.rec-index l.records)
