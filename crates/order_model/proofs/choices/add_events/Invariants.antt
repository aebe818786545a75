use Rattle.std.proofs.Common.{◌≡◌, ◌++◌}
use Rattle.std.specs.Prelude.{map}
use Rattle.order_model.specs.Moves.{Point}
use Rattle.order_model.specs.declared.choices.Choice.TheVariants.{Comes}
use Rattle.order_model.specs.Asking.{asked_of}
use Rattle.order_model.specs.Choosing.{IsStand, comes_at}
use Rattle.order_model.proofs.choices.add_events.Given as goal
use Rattle.xk_base.specs.Tables.Counting.{listed_below}

abbrev pub invariant-loop-number : goal.invariant-loop-number
invariant-loop-number l =
    (p : Point) → IsStand p l.state l.trail
    → l.choices.items ≡ l.fn.choices.items ++ map Comes (listed_below l.number (comes_at (asked_of l.orders) p))
