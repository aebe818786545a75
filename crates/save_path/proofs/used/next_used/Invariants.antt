use Rattle.std.proofs.Common.{◌-◌, ◌<◌, ◌≤◌, ℕ}
use Rattle.ledger_model.specs.Places.{place_at}
use Rattle.vm_memory.specs.Memory.{ledger}
use Rattle.save_path.specs.Pages.{HasNoPage}
use Rattle.save_path.proofs.used.next_used.Given as goal

-- nothing stands at the places so far
abbrev pub invariant-tables : goal.invariant-tables
invariant-tables g l = record {
  low : l.from ≤ l.number;
  high : l.number ≤ l.end;
  free : (k : ℕ) → l.from ≤ k → k < l.number → HasNoPage (ledger g.W.SwapStore.held l.mem) (place_at k);
}

abbrev pub decreases-tables : goal.decreases-tables
decreases-tables g l = l.end - l.number
