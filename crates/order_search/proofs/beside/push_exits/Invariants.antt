use Rattle.std.proofs.Common.{◌≡◌, ◌++◌, true}
use Rattle.std.specs.List.{flat_map}
use Rattle.order_model.specs.Exits.{exit_in}
use Rattle.order_search.specs.Keys.{exit_bytes}
use Rattle.xk_base.specs.Tables.Counting.{listed_below}
use Rattle.order_search.proofs.beside.push_exits.Given as goal

-- those of the pids before
abbrev pub invariant-loop-number : goal.invariant-loop-number
invariant-loop-number l =
    l.bytes.items ≡ l.fn.bytes.items ++ flat_map (λ pid. exit_bytes (exit_in l.ends pid)) (listed_below l.number (λ pid. true))
