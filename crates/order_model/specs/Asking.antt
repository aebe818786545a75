-- The orders that are asked for, and what one left.
use Rattle.std.specs.Prelude.{ℕ, Bool, false, List, get_or, Option, Some, None}
use Rattle.order_model.specs.Moves.{Asked, Bound, Unbounded, UpTo}
use Rattle.order_model.specs.declared.orders.Orders.{Orders}

abbrev pub bound_of : Option ℕ → Bound
bound_of None = Unbounded
bound_of (Some bound) = UpTo bound

-- the orders that are asked for
abbrev pub asked_of : Orders → Asked
asked_of orders = record {
  quantum = orders.quantum;
  bound = bound_of orders.bound;
  once = orders.once.items;
  exits = orders.exits;
  preemptions = orders.preemptions;
}

-- which of the events came
abbrev pub came_of : List Bool → ℕ → Bool
came_of came k = get_or came k false
