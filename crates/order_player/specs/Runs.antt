-- Points of a run on a kernel, and the limit of its steps.
use Rattle.std.specs.Prelude.{◌≡◌, ◌<◌, ◌+◌, List, Some}
use Rattle.xk_ports.specs.declared.store.SwapStore.{Ghosts as SwapStore}
use Rattle.xk_kernel.specs.State.{machine_of}
use Rattle.xk_kernel.specs.declared.kernel.Kernel.{Kernel}
use Rattle.order_model.specs.declared.moves.Move.{Move}
use Rattle.order_model.specs.Moves.{Asked, Point, leads_by, most_steps}
use Rattle.order_model.specs.declared.orders.Trail.{Trail}
use Rattle.order_model.specs.Asking.{came_of}
use Rattle.order_model.specs.Exits.{exit_in}
use Rattle.xk_base.specs.declared.limits.TheConstants.{STEP_LIMIT}

-- where a run is: at the kernel's state, with what its order left
abbrev pub point_of : {W : Type 0} → SwapStore W → Kernel W → Trail → Point
point_of S kernel trail = record {
  state = machine_of S.held kernel;
  console = trail.console.items;
  came = came_of trail.came.items;
  exits = exit_in trail.ends.items;
  preempted = trail.preempted;
}

-- with a slice of as many steps as it may have there, a run has more than it can have
abbrev pub IsNearLimit : Asked → Point → Type 0
IsNearLimit asked p = STEP_LIMIT < p.state.steps + most_steps asked p.state

-- an order leads from one point to another
pub record IsReached (asked : Asked) (start p : Point) : Type 0 where
  pub order : List Move
  pub leads : leads_by asked start order ≡ Some p

-- an order leads to a point near the limit
pub record MeetsLimit (asked : Asked) (start : Point) : Type 0 where
  pub at : Point
  pub reached : IsReached asked start at
  pub near : IsNearLimit asked at
