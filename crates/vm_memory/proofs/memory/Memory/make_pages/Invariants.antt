use Rattle.std.proofs.Common.{◌≡◌}
use Rattle.xk_base.specs.declared.ids.Slot.{Slot as SlotNumber}
use Rattle.phys_pages.specs.declared.infos.Seat.TheVariants.{Slot}
use Rattle.phys_pages.specs.Owners.{infos}
use Rattle.ledger_model.specs.Steps.{make}
use Rattle.vm_memory.specs.Pages.Changing.{ChangesPagesAlone}
use Rattle.vm_memory.specs.Memory.{ledger}
use Rattle.vm_memory.specs.Sound.{IsSound}
use Rattle.vm_memory.proofs.memory.Memory.make_pages.Given as goal

-- the first i pages are made
abbrev pub invariant-loop-i : goal.invariant-loop-i
invariant-loop-i g l = record {
  sound : IsSound g.W.SwapStore.slot_count l.self;
  ledger : ledger g.W.SwapStore.held l.self ≡ make l.fn.first l.i l.fn.right (ledger g.W.SwapStore.held l.fn.self);
  rest : ChangesPagesAlone l.fn.self l.self;
  slots : (s : SlotNumber) → infos l.self.owners (Slot s) ≡ infos l.fn.self.owners (Slot s);
}
