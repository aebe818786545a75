use Rattle.std.proofs.Common.{◌≡◌, false, length, refl, ap, ◌∙◌, arith}
use Rattle.phys_pages.specs.Ram.{Area}
use Rattle.vm_memory.specs.declared.memory.Memory.{Memory}
use Rattle.vm_memory.proofs.Booting.EmptyMemoryLemmas.{IsEmpty, empty_fills, empty_sound, empty_has_none}
use Rattle.vm_memory.proofs.memory.Memory.without_pages.Given as given
use Rattle.vm_memory.proofs.memory.Memory.without_pages.Goals as goal

-- the memory that is made
abbrev made : (g : given.Over) → goal.After-frames-frames g → Memory g.row.W.Denot
made g c = record {
  ram = c.make_spaces.new.ram;
  owners = c.in-Ok.owners;
  store = c.args.store;
  failed = false;
  procs = length c.as_slice.result.now;
  slots = c.args.plan.now.slots;
  pages = 0;
  hand = 0;
}

empty : (g : given.Over) (c : goal.After-frames-frames g) → IsEmpty g.W.SwapStore.slot_count (made g c) (length c.as_slice.result.now) c.args.plan.now.frames c.args.plan.now.slots
empty g c =
    let count : length c.as_slice.result.now ≡ length c.args.plan.now.procs = ap length c.as_slice.ensures in
    record {
      extent = c.in-Ok.ensures.extent;
      infos = c.in-Ok.ensures.infos;
      counted = ap (λ (a : Area). a.frames) (c.make_spaces.ensures.area ∙ c.in-Ok.ensures.area);
      placed = c.frames-frames.ensures.placed;
      made = c.make_spaces.ensures.made;
      free = c.make_spaces.ensures.free;
      some = omega (arith, c.requires.some);
      few = omega (arith, c.requires.few);
      tables = omega (arith, c.requires.tables);
      made_for = refl;
      slots = refl;
      few_slots = c.requires.few_slots;
      store = c.requires.slots;
      pages = refl;
    }

pub returns-in-Ok-clause-sound : goal.returns-in-Ok-clause-sound
returns-in-Ok-clause-sound g c = empty_sound g.W.SwapStore (made g c) (length c.as_slice.result.now) c.args.plan.now.frames c.args.plan.now.slots (empty g c)

pub returns-in-Ok-clause-ledger : goal.returns-in-Ok-clause-ledger
returns-in-Ok-clause-ledger g c = empty_has_none g.W.SwapStore (made g c) (length c.as_slice.result.now) c.args.plan.now.frames c.args.plan.now.slots (empty g c)

pub returns-in-Ok-clause-free : goal.returns-in-Ok-clause-free
returns-in-Ok-clause-free g c = empty_fills g.W.SwapStore (made g c) (length c.as_slice.result.now) c.args.plan.now.frames c.args.plan.now.slots (empty g c)
