use Rattle.std.proofs.Common.{◌+◌, false, refl, sym, ◌∙◌, arith}
use Rattle.phys_pages.specs.declared.infos.Seat.TheVariants.{Frame}
use Rattle.vm_memory.proofs.Changing.CrowdedLemmas.{marked_ledger, marked_none}
use Rattle.vm_memory.proofs.Changing.LastFrameLemmas.{last_used}
use Rattle.vm_memory.proofs.Changing.LoopLemmas.{handed_ledger, handed_none}
use Rattle.vm_memory.proofs.Changing.ShiftedLemmas.{all_slots, slot_left, some_slot_free, some_slot_within, unmoved, used_within}
use Rattle.vm_memory.proofs.memory.Memory.make_room.Goals as goal

pub is_frame_free-requires-clause-low : goal.is_frame_free-requires-clause-low
is_frame_free-requires-clause-low g c =
    let seat = used_within c.args.self.now.owners (Frame c.args.keep) c.requires.kept in
    omega (arith, seat.0, c.requires.sound.agree.first)

-- a frame is free
pub overflow_add-self : goal.overflow_add-self
overflow_add-self g c =
    let seat = used_within c.args.self.now.owners (Frame c.args.keep) c.requires.kept in
    omega (arith, seat.1, c.requires.sound.agree.last, c.requires.sound.placed.few)

pub returns-then-is_frame_free-clause-moves : goal.returns-then-is_frame_free-clause-moves
returns-then-is_frame_free-clause-moves g c = unmoved g.W.SwapStore c.args.self.now c.requires.sound false (c.args.keep.0 + 1)
    (λ usable. c.is_frame_free.ensures.yes c.if-is_frame_free.true)
    (last_used (record c.args.self.now { failed = false; hand = c.args.keep.0 + 1 }) c.args.keep refl c.requires.kept)

pub returns-then-is_frame_free-clause-over : goal.returns-then-is_frame_free-clause-over
returns-then-is_frame_free-clause-over g c = λ over. marked_ledger g.W.SwapStore.held (record c.args.self.now { hand = c.args.keep.0 + 1 }) false
    ∙ handed_ledger g.W.SwapStore.held c.args.self.now (c.args.keep.0 + 1)

pub returns-then-is_frame_free-clause-none : goal.returns-then-is_frame_free-clause-none
returns-then-is_frame_free-clause-none g c = λ none. sym (marked_none (record c.args.self.now { hand = c.args.keep.0 + 1 }) false
    ∙ handed_none c.args.self.now (c.args.keep.0 + 1)) ∙ none

-- none is
pub unreachable-requires : goal.unreachable-requires
unreachable-requires g c = slot_left g.W.SwapStore.slot_count c.args.self.now c.requires.sound
    (c.is_frame_free.ensures.no c.if-is_frame_free.false)
    (all_slots c.args.self.now.owners c.next_slot.result c.next_slot.ensures.none c.in_default.is)

pub overflow_add-next : goal.overflow_add-next
overflow_add-next g c =
    let seat = some_slot_within c.args.self.now.owners c.next_slot.result c.next_slot.ensures.within c.in-Some.to c.in-Some.is in
    omega (arith, seat, c.requires.sound.slots, c.requires.sound.few_slots)

pub put_out-requires-clause-full : goal.put_out-requires-clause-full
put_out-requires-clause-full g c = c.is_frame_free.ensures.no c.if-is_frame_free.false

pub put_out-requires-clause-slot : goal.put_out-requires-clause-slot
put_out-requires-clause-slot g c = some_slot_within c.args.self.now.owners c.next_slot.result c.next_slot.ensures.within c.in-Some.to c.in-Some.is

pub put_out-requires-clause-free : goal.put_out-requires-clause-free
put_out-requires-clause-free g c = some_slot_free c.args.self.now.owners c.next_slot.result c.next_slot.ensures.found c.in-Some.to c.in-Some.is
