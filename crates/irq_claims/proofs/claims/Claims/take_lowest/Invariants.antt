use Rattle.std.proofs.Common.{◌≡◌, ◌<◌, ℕ, false}
use Rattle.xk_base.specs.Tables.RowMap.{row_map}
use Rattle.irq_claims.specs.ClaimMap.{is_due_to}
use Rattle.irq_claims.proofs.claims.Claims.take_lowest.Given as goal

-- nothing was changed yet, and no lower number is pending for the process
abbrev pub invariant-loop-k : goal.invariant-loop-k
invariant-loop-k l = record {
  same : l.self ≡ l.fn.self;
  none : (j : ℕ) → j < l.k → is_due_to l.pid (row_map l.fn.self.by_number j) ≡ false;
}
