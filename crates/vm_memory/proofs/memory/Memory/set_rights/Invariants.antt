use Rattle.std.proofs.Common.{◌≡◌}
use Rattle.ledger_model.specs.Places.{in_run}
use Rattle.ledger_model.specs.Steps.{reduce}
use Rattle.vm_memory.specs.Pages.Changing.{ChangesPagesAlone, TakesNoSeat}
use Rattle.vm_memory.specs.Memory.{ledger}
use Rattle.vm_memory.specs.Sound.{IsSound}
use Rattle.vm_memory.proofs.memory.Memory.set_rights.Given as goal

-- the pages of the first i places have the right
abbrev pub invariant-loop-i : goal.invariant-loop-i
invariant-loop-i g l = record {
  sound : IsSound g.W.SwapStore.slot_count l.self;
  ledger : ledger g.W.SwapStore.held l.self ≡ reduce (in_run l.fn.first l.i) l.fn.right (ledger g.W.SwapStore.held l.fn.self);
  rest : ChangesPagesAlone l.fn.self l.self;
  seats : TakesNoSeat l.fn.self l.self;
}
