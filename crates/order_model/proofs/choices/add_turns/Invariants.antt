use Rattle.std.proofs.Common.{◌≡◌, ◌++◌, take}
use Rattle.std.specs.Prelude.{map}
use Rattle.order_model.specs.declared.choices.Choice.TheVariants.{Goes}
use Rattle.order_model.proofs.choices.add_turns.Given as goal

abbrev pub invariant-loop-who : goal.invariant-loop-who
invariant-loop-who l = l.choices.items ≡ l.fn.choices.items ++ map Goes (take l.who-index l.ids)
