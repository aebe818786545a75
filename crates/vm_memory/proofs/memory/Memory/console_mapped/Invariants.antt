use Rattle.std.proofs.Common.{◌≡◌, ◌+◌, ◌<◌, ℕ, false}
use Rattle.vm_memory.specs.Memory.{ledger}
use Rattle.page_views.specs.RunTests.{has_console}
use Rattle.vm_memory.proofs.memory.Memory.console_mapped.Given as goal

-- none of the first k processes has it
abbrev pub invariant-loop-k : goal.invariant-loop-k
invariant-loop-k g l = (j : ℕ) → j < l.k → has_console (ledger g.W.SwapStore.held l.fn.self) (record { 0 = 2 + j }) ≡ false
