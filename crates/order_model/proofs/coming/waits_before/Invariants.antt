use Rattle.std.proofs.Common.{◌≡◌, ◌<◌, ℕ, false}
use Rattle.order_model.specs.Asking.{asked_of, came_of}
use Rattle.order_model.specs.Moves.{Point, waits_at}
use Rattle.order_model.proofs.coming.waits_before.Given as goal

-- none of a lower number waits
abbrev pub invariant-loop-lower : goal.invariant-loop-lower
invariant-loop-lower l =
    (p : Point) → ((k : ℕ) → came_of l.came k ≡ p.came k) → (k : ℕ) → k < l.lower → waits_at (asked_of l.orders) l.event p k ≡ false
