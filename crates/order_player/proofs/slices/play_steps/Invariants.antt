use Rattle.std.proofs.Common.{◌≤◌, ◌+◌, ℕ}
use Rattle.xk_kernel.specs.Knowing.{IsTrusted}
use Rattle.xk_kernel.specs.Sound.{IsSound, IsUsable, Keeps}
use Rattle.order_player.specs.Played.{shown}
use Rattle.order_player.specs.Steps.{AreSteps, KeepsMoves, Shown}
use Rattle.order_player.proofs.slices.play_steps.Given as goal

-- wherever the rest of the slice leads, all of it leads
abbrev pub invariant-steps : goal.invariant-steps
invariant-steps g l = record {
  plays : IsTrusted g.W.SwapStore l.fn.kernel → (left : ℕ) (last : Shown)
      → AreSteps l.keeps l.left (shown g.W.SwapStore l.kernel l.trail) left last
      → AreSteps l.keeps l.most (shown g.W.SwapStore l.fn.kernel l.fn.trail) left last;
  fewer : l.left ≤ l.most;
  few : l.left + l.kernel.steps ≤ l.most + l.fn.kernel.steps;
  sound : IsSound g.W.SwapStore l.kernel;
  usable : IsUsable l.kernel;
  moves : KeepsMoves l.fn.trail l.trail;
  keeps : Keeps g.W.SwapStore l.fn.kernel l.kernel;
}

abbrev pub decreases-steps : goal.decreases-steps
decreases-steps g l = l.left
