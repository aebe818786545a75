use Rattle.std.proofs.Common.{◌≡◌, true}
use Rattle.xk_base.specs.Tables.Circle.{is_pid}
use Rattle.vm_memory.specs.Memory.{IsUsable, ledger, processes}
use Rattle.vm_memory.specs.Sound.{IsSound}
use Rattle.vm_memory.specs.Starting.{IsUnlent}
use Rattle.memory_tests.proofs.memory.calls.calls.Given as goal

abbrev pub invariant-loop-row : goal.invariant-loop-row
invariant-loop-row g l = record {
  sound : IsSound g.W.SwapStore.slot_count l.memory;
  usable : IsUsable l.memory;
  process : is_pid (processes l.memory) 2 ≡ true;
  unlent : IsUnlent (ledger g.W.SwapStore.held l.memory);
}
