use Rattle.std.proofs.Common.{◌≡◌, ◌<◌, ℕ, false}
use Rattle.std.specs.Option.{option_map_or}
use Rattle.std.specs.Prelude.{◌&&◌}
use Rattle.xk_base.specs.Tables.Circle.{id_at}
use Rattle.snapshot_rows.specs.Machines.{threads_of}
use Rattle.order_model.specs.Failing.{is_asked, is_stuck}
use Rattle.order_model.proofs.failing.some_stuck.Given as goal

-- none of the threads before does
abbrev pub invariant-loop-place : goal.invariant-loop-place
invariant-loop-place l = (k : ℕ) → k < l.place
    → (is_asked l.who (id_at k) && option_map_or (λ thread. is_stuck thread.state) (threads_of l.state.threads (id_at k)) false) ≡ false
