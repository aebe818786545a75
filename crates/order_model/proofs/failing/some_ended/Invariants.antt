use Rattle.std.proofs.Common.{◌≡◌, ◌<◌, ◌+◌, ℕ, false}
use Rattle.std.specs.Option.{option_map_or}
use Rattle.order_model.specs.Exits.{exit_in}
use Rattle.order_model.specs.Failing.{is_bad}
use Rattle.order_model.proofs.failing.some_ended.Given as goal

-- none of the processes before did
abbrev pub invariant-loop-place : goal.invariant-loop-place
invariant-loop-place l = (k : ℕ) → k < l.place → option_map_or (is_bad l.how) (exit_in l.ends (k + 2)) false ≡ false
