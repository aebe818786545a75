use Rattle.std.proofs.Common.{◌≡◌, ◌++◌, take}
use Rattle.order_model.specs.Exits.{ends_of}
use Rattle.order_model.proofs.exits.push_ends.Given as goal

abbrev pub invariant-loop-rec : goal.invariant-loop-rec
invariant-loop-rec l = l.ends.items ≡ l.fn.ends.items ++ ends_of (take l.rec-index l.records)
