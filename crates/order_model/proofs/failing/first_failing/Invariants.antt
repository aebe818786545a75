use Rattle.std.proofs.Common.{◌≡◌, ◌<◌, ℕ, false}
use Rattle.order_model.specs.Choosing.{IsStand}
use Rattle.order_model.specs.Failing.{fails_at}
use Rattle.order_model.specs.Moves.{Point}
use Rattle.order_model.proofs.failing.first_failing.Given as goal

-- none of those before holds
abbrev pub invariant-loop-place : goal.invariant-loop-place
invariant-loop-place l = (p : Point) → IsStand p l.state l.trail → (k : ℕ) → k < l.place → fails_at l.list p k ≡ false
