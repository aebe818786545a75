use Rattle.std.proofs.Common.{◌≡◌}
use Rattle.ledger_model.specs.Loans.{loans}
use Rattle.vm_memory.specs.Memory.{IsUsable, ledger, size}
use Rattle.vm_memory.specs.Sound.{IsSound}
use Rattle.vm_memory.specs.Using.Known.{Remembers}
use Rattle.memory_tests.proofs.memory.accesses.known_attempts.Given as goal

abbrev pub invariant-loop-row : goal.invariant-loop-row
invariant-loop-row g l = record {
  sound : IsSound g.W.SwapStore.slot_count l.memory;
  usable : IsUsable l.memory;
  known : Remembers l.memory (record { 0 = 2 }) l.known;
  loans : loans (ledger g.W.SwapStore.held l.memory) ≡ loans (ledger g.W.SwapStore.held l.fn.memory);
  size : size l.memory ≡ size l.fn.memory;
}
