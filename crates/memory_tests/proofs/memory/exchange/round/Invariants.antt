use Rattle.std.proofs.Common.{◌≡◌}
use Rattle.ledger_model.specs.Loans.{loans}
use Rattle.vm_memory.specs.Memory.{IsUsable, ledger}
use Rattle.vm_memory.specs.Sound.{IsSound}
use Rattle.memory_tests.proofs.memory.exchange.round.Given as goal

abbrev pub invariant-loop-k : goal.invariant-loop-k
invariant-loop-k g l = record {
  sound : IsSound g.W.SwapStore.slot_count l.memory;
  usable : IsUsable l.memory;
  loans : loans (ledger g.W.SwapStore.held l.memory) ≡ loans (ledger g.W.SwapStore.held l.fn.memory);
}
