use Rattle.std.proofs.Common.{arith, refl, sym, ap, ◌+◌, ◌∙◌}
use Rattle.phys_pages.specs.declared.infos.Seat.TheVariants.{Slot}
use Rattle.ledger_model.specs.Places.{place_after}
use Rattle.sv32_space.specs.Agreement.{owned_by}
use Rattle.sv32_space.proofs.RunLemmas.{make_none}
use Rattle.vm_memory.specs.Memory.{ledger, processes}
use Rattle.vm_memory.proofs.Changing.LastFrameLemmas.{taken}
use Rattle.vm_memory.proofs.Changing.LoopLemmas.{handed_ledger, handed_rest, handed_sound, next_free, next_lies, next_made, next_room, next_left, rest_same, rest_then, user_bound}
use Rattle.vm_memory.proofs.memory.Memory.make_pages.Goals as goal

pub loop-i-init : goal.loop-i-init
loop-i-init g c = record {
  sound = c.requires.sound;
  ledger = sym (make_none c.args.first c.args.right (ledger g.W.SwapStore.held c.args.self.now));
  rest = rest_same c.args.self.now;
  slots = λ s. refl;
}

pub overflow_add-at : goal.overflow_add-at
overflow_add-at g c = omega (
  arith,
  user_bound (processes c.loop-i.self) (place_after c.args.first c.loop-i.i)
      (next_lies g.W.SwapStore c.args.self.now c.loop-i.self c.loop-i.invariant.sound c.loop-i.invariant.rest c.args.first c.args.n c.loop-i.i
      c.loop-i-test.true c.args.right c.requires.can c.loop-i.invariant.ledger),
)

pub place_page-requires-clause-place : goal.place_page-requires-clause-place
place_page-requires-clause-place g c =
    next_lies g.W.SwapStore c.args.self.now c.loop-i.self c.loop-i.invariant.sound c.loop-i.invariant.rest c.args.first c.args.n c.loop-i.i
    c.loop-i-test.true c.args.right c.requires.can c.loop-i.invariant.ledger

pub place_page-requires-clause-free : goal.place_page-requires-clause-free
place_page-requires-clause-free g c =
    next_free g.W.SwapStore c.args.self.now c.loop-i.self c.loop-i.invariant.sound c.loop-i.invariant.rest c.args.first c.args.n c.loop-i.i
    c.loop-i-test.true c.args.right c.requires.can c.loop-i.invariant.ledger

pub place_page-requires-clause-room : goal.place_page-requires-clause-room
place_page-requires-clause-room g c =
    next_room g.W.SwapStore c.args.self.now c.loop-i.self c.loop-i.invariant.sound c.loop-i.invariant.rest c.args.first c.args.n c.loop-i.i
    c.loop-i-test.true c.args.right c.requires.can c.loop-i.invariant.ledger

pub place_page-requires-clause-left : goal.place_page-requires-clause-left
place_page-requires-clause-left g c = λ usable.
    next_left g.W.SwapStore c.args.self.now c.loop-i.self c.loop-i.invariant.sound c.loop-i.invariant.rest c.args.first c.args.n c.loop-i.i
    c.loop-i-test.true c.args.right c.requires.can c.loop-i.invariant.ledger c.requires.sound c.requires.frames

pub place_page-requires-clause-hand : goal.place_page-requires-clause-hand
place_page-requires-clause-hand g c = λ over. c.free_frame-f.ensures.hand

pub loop-i-preserved : goal.loop-i-preserved
loop-i-preserved g c = record {
  sound = handed_sound g.W.SwapStore c.place_page.new.self c.place_page.ensures.sound c.free_frame-f.result (c.free_frame-f.result.0 + 1) refl
      (taken c.loop-i.self.owners c.place_page.new.self.owners c.free_frame-f.result (owned_by (place_after c.args.first c.loop-i.i)) c.place_page.ensures.owners);
  ledger = handed_ledger g.W.SwapStore.held c.place_page.new.self (c.free_frame-f.result.0 + 1)
      ∙ next_made g.W.SwapStore c.args.self.now c.loop-i.self c.loop-i.invariant.sound c.loop-i.invariant.rest c.args.first c.args.n c.loop-i.i
      c.loop-i-test.true c.args.right c.requires.can c.loop-i.invariant.ledger c.place_page.new.self c.place_page.ensures.ledger;
  rest = handed_rest c.args.self.now c.place_page.new.self (c.free_frame-f.result.0 + 1)
      (rest_then c.args.self.now c.loop-i.self c.place_page.new.self c.loop-i.invariant.rest c.place_page.ensures.rest);
  slots = λ s. ap (λ I. I (Slot s)) c.place_page.ensures.owners ∙ c.loop-i.invariant.slots s;
}
