use Rattle.std.proofs.Common.{◌≡◌, drop, length}
use Rattle.xk_kernel.specs.Sound.{IsSound, IsUsable, Keeps}
use Rattle.order_model.specs.Moves.{leads_by}
use Rattle.order_model.specs.Asking.{asked_of}
use Rattle.order_player.specs.Runs.{IsReached, point_of}
use Rattle.order_player.proofs.moves.play_order.Given as goal

-- the rest of the order leads where all of it leads
abbrev pub invariant-loop-next : goal.invariant-loop-next
invariant-loop-next g l = record {
  leads : leads_by (asked_of l.orders) (point_of g.W.SwapStore l.kernel l.trail) (drop l.next-index l.order)
      ≡ leads_by (asked_of l.orders) (point_of g.W.SwapStore l.fn.kernel l.fn.trail) l.order;
  reached : IsReached (asked_of l.orders) (point_of g.W.SwapStore l.fn.kernel l.fn.trail) (point_of g.W.SwapStore l.kernel l.trail);
  all : length l.trail.came.items ≡ length l.fn.trail.came.items;
  sound : IsSound g.W.SwapStore l.kernel;
  usable : IsUsable l.kernel;
  keeps : Keeps g.W.SwapStore l.fn.kernel l.kernel;
}
