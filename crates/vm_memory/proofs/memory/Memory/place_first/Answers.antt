use Rattle.std.proofs.Common.{refl, ◌*◌, ◌+◌, arith}
use Rattle.sv32_space.specs.Agreement.{owned_by}
use Rattle.sv32_space.specs.PageSteps.{place_page}
use Rattle.vm_memory.specs.FirstLedger.{first_page}
use Rattle.vm_memory.proofs.Booting.PlacingLemmas.{placed_near}
use Rattle.vm_memory.proofs.Booting.ProcessPlacedLemmas.{filled_next, filled_past, last_left, next_frame, on_ok_then}
use Rattle.vm_memory.proofs.memory.Memory.place_first.Goals as goal

pub place_in-requires-clause-frame : goal.place_in-requires-clause-frame
place_in-requires-clause-frame g c = next_frame g.W.SwapStore.slot_count c.args.self.now c.requires.sound (21 * c.args.self.now.procs + c.args.self.now.pages) refl
    c.requires.order (omega (arith, c.if-self-page_frames.true, c.page_frames.ensures))

pub place_in-requires-clause-hand : goal.place_in-requires-clause-hand
place_in-requires-clause-hand g c = λ over. absurd (omega (arith, over, c.if-self-page_frames.true, c.page_frames.ensures))

pub returns-then-self-page_frames-clause-placed : goal.returns-then-self-page_frames-clause-placed
returns-then-self-page_frames-clause-placed g c =
    placed_near g.W.SwapStore c.args.self.now c.place_in.new.self
    (place_page c.args.at (first_page c.args.file.now c.args.page.now)) (record { 0 = 21 * c.args.self.now.procs + c.args.self.now.pages }) (owned_by c.args.at)
    c.place_in.ensures.sound c.place_in.ensures.ledger c.place_in.ensures.owners c.place_in.ensures.pages c.place_in.ensures.rest

pub returns-then-self-page_frames-clause-order : goal.returns-then-self-page_frames-clause-order
returns-then-self-page_frames-clause-order g c = filled_next g.W.SwapStore.slot_count c.args.self.now c.requires.sound (21 * c.args.self.now.procs + c.args.self.now.pages) refl
    c.place_in.new.self (record { 0 = 21 * c.args.self.now.procs + c.args.self.now.pages }) refl (owned_by c.args.at)
    c.requires.order (omega (arith, c.if-self-page_frames.true, c.page_frames.ensures))
    c.place_in.ensures.sound c.place_in.ensures.owners c.place_in.ensures.pages c.place_in.ensures.rest

pub place_crowded-requires-clause-last : goal.place_crowded-requires-clause-last
place_crowded-requires-clause-last g c = last_left g.W.SwapStore.slot_count c.args.self.now c.requires.sound c.requires.order
    (omega (arith, c.if-self-page_frames.false, c.page_frames.ensures))

pub returns-clause-order : goal.returns-clause-order
returns-clause-order g c = on_ok_then c.place_crowded.result _ _ c.place_crowded.ensures.last
    (filled_past g.W.SwapStore.slot_count c.args.self.now c.place_crowded.new.self c.requires.sound c.place_crowded.ensures.placed.sound
    c.place_crowded.ensures.placed.size (omega (arith, c.if-self-page_frames.false, c.page_frames.ensures)) c.place_crowded.ensures.placed.pages)
