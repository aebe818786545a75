use Rattle.std.proofs.Common.{◌≡◌, ◌<◌, ℕ, false}
use Rattle.ledger_model.specs.Places.{place_after}
use Rattle.page_views.specs.Here.{here_at}
use Rattle.vm_memory.specs.Memory.{ledger, processes}
use Rattle.page_views.specs.RunTests.{passes}
use Rattle.vm_memory.proofs.memory.Memory.any.Given as goal

-- none of the first i places passes
abbrev pub invariant-loop-i : goal.invariant-loop-i
invariant-loop-i g l = (k : ℕ) → k < l.i
    → passes l.fn.test (here_at (processes l.fn.self) (ledger g.W.SwapStore.held l.fn.self) (place_after l.fn.first k)) ≡ false
