use Rattle.std.proofs.Common.{ℕ, ◌<◌}
use Rattle.xousorders.specs.Endings.{IsAt}
use Rattle.xousorders.proofs.endings.place_of.Given as goal

-- none of the first endings is told so
abbrev pub invariant-loop-place : goal.invariant-loop-place
invariant-loop-place l = (k : ℕ) → k < l.place → IsAt l.list k (record { text = l.seen; fails = l.fails }) → ⊥
