use Rattle.std.proofs.Common.{◌≡◌, ◌++◌}
use Rattle.order_text.specs.Lines.{failures_below}
use Rattle.order_text.proofs.answer.put_failures.Given as goal

-- the lines of the first endings that fail are put
abbrev pub invariant-loop-place : goal.invariant-loop-place
invariant-loop-place l = l.text.items ≡ l.fn.text.items ++ failures_below l.place l.fails l.list
