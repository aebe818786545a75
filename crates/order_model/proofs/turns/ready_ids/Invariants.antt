use Rattle.std.proofs.Common.{◌≡◌}
use Rattle.std.specs.Prelude.{map}
use Rattle.order_model.specs.Turns.{is_ready_in}
use Rattle.order_model.proofs.turns.ready_ids.Given as goal
use Rattle.xk_base.specs.Tables.Circle.{id_at}
use Rattle.xk_base.specs.Tables.Counting.{listed_below}

-- those at the places before
abbrev pub invariant-loop-place : goal.invariant-loop-place
invariant-loop-place l = l.ids.items ≡ map id_at (listed_below l.place (λ k. is_ready_in l.state.threads (id_at k)))
