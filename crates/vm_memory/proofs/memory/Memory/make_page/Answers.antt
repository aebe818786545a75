use Rattle.std.proofs.Common.{true, ap, ◌∙◌}
use Rattle.ledger_model.specs.Reach.{is_free}
use Rattle.sv32_space.specs.Agreement.{owned_by}
use Rattle.vm_memory.specs.Memory.{processes}
use Rattle.vm_memory.proofs.Changing.CallLemmas.{alone-no_more}
use Rattle.vm_memory.proofs.Changing.CrowdedLemmas.{marked_ledger, page_made}
use Rattle.vm_memory.proofs.Changing.LastFrameLemmas.{filled_all, taken}
use Rattle.vm_memory.proofs.Changing.ShiftedLemmas.{unmoved}
use Rattle.vm_memory.proofs.memory.Memory.make_page.Goals as goal

pub place_page-requires-clause-sound : goal.place_page-requires-clause-sound
place_page-requires-clause-sound g c =
    let marked = unmoved g.W.SwapStore c.args.self.now c.requires.sound true c.args.self.now.hand (λ usable. absurd cc) c.requires.sound.last in
    marked.sound

pub place_page-requires-clause-free : goal.place_page-requires-clause-free
place_page-requires-clause-free g c = ap (λ l. is_free (processes c.args.self.now) l c.args.at) (marked_ledger g.W.SwapStore.held c.args.self.now true) ∙ c.requires.free

pub place_page-requires-clause-left : goal.place_page-requires-clause-left
place_page-requires-clause-left g c = λ usable. absurd cc

pub place_page-requires-clause-hand : goal.place_page-requires-clause-hand
place_page-requires-clause-hand g c = λ over. c.free_frame-f.ensures.hand

pub make_room-requires-clause-kept : goal.make_room-requires-clause-kept
make_room-requires-clause-kept g c = taken c.args.self.now.owners c.place_page.new.self.owners c.free_frame-f.result (owned_by c.args.at) c.place_page.ensures.owners

-- a page has come to the last free frame
pub make_room-requires-clause-full : goal.make_room-requires-clause-full
make_room-requires-clause-full g c = λ last. filled_all g.W.SwapStore.slot_count c.args.self.now c.place_page.new.self c.requires.sound c.place_page.ensures.sound
    c.place_page.ensures.rest.size (alone-no_more (record c.args.self.now { failed = true }) c.place_page.new.self c.place_page.ensures.rest)
    c.place_page.ensures.pages (c.is_last-last.ensures last)

pub make_room-requires-clause-under_way : goal.make_room-requires-clause-under_way
make_room-requires-clause-under_way g c = c.place_page.ensures.rest.failed

pub returns-clause-made : goal.returns-clause-made
returns-clause-made g c = page_made g.W.SwapStore c.args.self.now c.args.at c.args.right c.free_frame-f.result (owned_by c.args.at)
    c.place_page.new.self c.make_room.new.self c.place_page.ensures.ledger c.place_page.ensures.owners c.place_page.ensures.rest
    c.make_room.ensures.moves c.make_room.ensures.over c.make_room.ensures.none
