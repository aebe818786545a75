use Rattle.std.proofs.Common.{true, ap, ◌∙◌}
use Rattle.ledger_model.specs.Reach.{is_free}
use Rattle.sv32_space.specs.Agreement.{owned_by}
use Rattle.sv32_space.specs.PageSteps.{place_page}
use Rattle.vm_memory.specs.FirstLedger.{first_page}
use Rattle.vm_memory.specs.Memory.{processes}
use Rattle.vm_memory.proofs.Booting.PlacingLemmas.{pages_kept, placed_crowded}
use Rattle.vm_memory.proofs.Booting.ProcessPlacedLemmas.{last_again, last_filled, on_ok_then}
use Rattle.vm_memory.proofs.Changing.CallLemmas.{alone-no_more}
use Rattle.vm_memory.proofs.Changing.CountLemmas.{frames_full}
use Rattle.vm_memory.proofs.Changing.CrowdedLemmas.{marked_ledger}
use Rattle.vm_memory.proofs.Changing.ShiftedLemmas.{all_slots, slot_left, some_slot_free, some_slot_within, unmoved}
use Rattle.vm_memory.proofs.memory.Memory.place_crowded.Goals as goal

pub place_in-requires-clause-sound : goal.place_in-requires-clause-sound
place_in-requires-clause-sound g c =
    let marked = unmoved g.W.SwapStore c.args.self.now c.requires.sound true c.args.self.now.hand (λ usable. absurd cc) c.requires.sound.last in
    marked.sound

pub place_in-requires-clause-free : goal.place_in-requires-clause-free
place_in-requires-clause-free g c = ap (λ l. is_free (processes c.args.self.now) l c.args.at) (marked_ledger g.W.SwapStore.held c.args.self.now true) ∙ c.requires.free

pub place_in-requires-clause-left : goal.place_in-requires-clause-left
place_in-requires-clause-left g c = λ usable. absurd cc

pub place_in-requires-clause-hand : goal.place_in-requires-clause-hand
place_in-requires-clause-hand g c = λ over. c.free_frame-f.ensures.hand

pub unreachable-requires : goal.unreachable-requires
unreachable-requires g c = slot_left g.W.SwapStore.slot_count c.place_in.new.self c.place_in.ensures.sound
    (frames_full c.place_in.new.self.owners (last_filled g.W.SwapStore.slot_count c.args.self.now c.place_in.new.self c.requires.sound c.place_in.ensures.sound c.place_in.ensures.rest.size
    (alone-no_more (record c.args.self.now { failed = true }) c.place_in.new.self c.place_in.ensures.rest) c.place_in.ensures.pages c.requires.last))
    (all_slots c.place_in.new.self.owners c.next_slot.result c.next_slot.ensures.none c.in_default.is)

pub put_out-requires-clause-under_way : goal.put_out-requires-clause-under_way
put_out-requires-clause-under_way g c = c.place_in.ensures.rest.failed

pub put_out-requires-clause-full : goal.put_out-requires-clause-full
put_out-requires-clause-full g c = frames_full c.place_in.new.self.owners (last_filled g.W.SwapStore.slot_count c.args.self.now c.place_in.new.self c.requires.sound c.place_in.ensures.sound c.place_in.ensures.rest.size
    (alone-no_more (record c.args.self.now { failed = true }) c.place_in.new.self c.place_in.ensures.rest) c.place_in.ensures.pages c.requires.last)

pub put_out-requires-clause-slot : goal.put_out-requires-clause-slot
put_out-requires-clause-slot g c = some_slot_within c.place_in.new.self.owners c.next_slot.result c.next_slot.ensures.within c.in-Some.to c.in-Some.is

pub put_out-requires-clause-free : goal.put_out-requires-clause-free
put_out-requires-clause-free g c = some_slot_free c.place_in.new.self.owners c.next_slot.result c.next_slot.ensures.found c.in-Some.to c.in-Some.is

pub returns-clause-placed : goal.returns-clause-placed
returns-clause-placed g c = placed_crowded g.W.SwapStore c.args.self.now
    (place_page c.args.at (first_page c.args.file.now c.args.page.now)) c.free_frame-f.result (owned_by c.args.at)
    c.place_in.new.self c.put_out.new.self c.place_in.ensures.sound c.place_in.ensures.ledger c.place_in.ensures.owners c.place_in.ensures.pages c.place_in.ensures.rest
    c.put_out.ensures.moves c.put_out.ensures.over c.put_out.ensures.none

pub returns-clause-last : goal.returns-clause-last
returns-clause-last g c = on_ok_then c.put_out.result _ _ c.put_out.ensures.out
    (last_again g.W.SwapStore.slot_count c.place_in.new.self c.put_out.new.self c.place_in.ensures.sound c.put_out.ensures.moves.sound c.put_out.ensures.moves.size
    (last_filled g.W.SwapStore.slot_count c.args.self.now c.place_in.new.self c.requires.sound c.place_in.ensures.sound c.place_in.ensures.rest.size
    (alone-no_more (record c.args.self.now { failed = true }) c.place_in.new.self c.place_in.ensures.rest) c.place_in.ensures.pages c.requires.last) (pages_kept g.W.SwapStore c.place_in.new.self c.put_out.new.self c.place_in.ensures.sound c.put_out.ensures.moves))
