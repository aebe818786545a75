use Rattle.std.proofs.Common.{◌≡◌, ◌-◌, ◌≤◌}
use Rattle.ledger_model.specs.Places.{in_run}
use Rattle.ledger_model.specs.Steps.{remove}
use Rattle.vm_memory.specs.Pages.Changing.{ChangesPagesAlone, TakesNoSeat}
use Rattle.vm_memory.specs.Memory.{ledger}
use Rattle.vm_memory.specs.Sound.{IsSound}
use Rattle.vm_memory.proofs.memory.Memory.drop_used.Given as goal

-- the pages of the places that are done are gone
abbrev pub invariant-places : goal.invariant-places
invariant-places g l = record {
  within : l.done ≤ l.n;
  sound : IsSound g.W.SwapStore.slot_count l.self;
  ledger : ledger g.W.SwapStore.held l.self ≡ remove (in_run l.first l.done) (ledger g.W.SwapStore.held l.fn.self);
  rest : ChangesPagesAlone l.fn.self l.self;
  seats : TakesNoSeat l.fn.self l.self;
}

abbrev pub decreases-places : goal.decreases-places
decreases-places g l = l.n - l.done
