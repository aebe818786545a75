use Rattle.std.proofs.Common.{◌≡◌, ◌++◌}
use Rattle.order_text.specs.Lines.{lines_below}
use Rattle.order_text.proofs.answer.put_endings.Given as goal

-- the lines of the first endings are put
abbrev pub invariant-loop-place : goal.invariant-loop-place
invariant-loop-place l = l.text.items ≡ l.fn.text.items ++ lines_below l.place l.endings
