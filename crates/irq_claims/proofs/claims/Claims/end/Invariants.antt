use Rattle.std.proofs.Common.{◌≡◌, ◌<◌, ◌≤◌, ℕ}
use Rattle.xk_base.specs.Tables.RowMap.{row_map}
use Rattle.irq_claims.specs.ClaimMap.{end_claims}
use Rattle.irq_claims.proofs.claims.Claims.end.Given as goal

abbrev pub invariant-loop-k : goal.invariant-loop-k
invariant-loop-k l = record {
  done : (j : ℕ) → j < l.k → row_map l.self.by_number j ≡ end_claims l.pid (row_map l.initial.self.by_number) j;
  rest : (j : ℕ) → l.k ≤ j → row_map l.self.by_number j ≡ row_map l.initial.self.by_number j;
}
