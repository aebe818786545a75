use Rattle.std.proofs.Common.{◌≡◌, ◌+◌, true, false, refl, ap, ◌∙◌, arith}
use Rattle.std.specs.Prelude.{Ok}
use Rattle.phys_pages.specs.Owners.{Extent, extent}
use Rattle.phys_pages.specs.declared.infos.Seat.TheVariants.{Slot}
use Rattle.sv32_space.specs.Agreement.{procs_of}
use Rattle.vm_memory.specs.Bytes.{used_slots}
use Rattle.vm_memory.proofs.Changing.CallLemmas.{no_more_used}
use Rattle.vm_memory.proofs.Changing.CountLemmas.{slots_few}
use Rattle.vm_memory.proofs.Changing.LastFrameLemmas.{brought_all, last_stayed}
use Rattle.vm_memory.proofs.Changing.ShiftedLemmas.{brought_near, came_in, kept_seat, left_behind, moved_in, moves_then, one_in, used_within}
use Rattle.vm_memory.proofs.memory.Memory.exchange.Goals as goal

pub bring-requires-clause-slot : goal.bring-requires-clause-slot
bring-requires-clause-slot g c = used_within c.args.self.now.owners (Slot c.args.from) c.requires.used

pub bring-requires-clause-slots : goal.bring-requires-clause-slots
bring-requires-clause-slots g c = omega (arith, c.requires.sound.slots, c.requires.sound.store)

pub returns-in_err-bring-clause-moves : goal.returns-in_err-bring-clause-moves
returns-in_err-bring-clause-moves g c = moved_in g.W.SwapStore c.args.self.now c.requires.sound c.bring.new.ram c.bring.new.owners c.bring.new.store true c.args.self.now.hand
    c.bring.ensures.agrees c.bring.ensures.sizes c.bring.ensures.rights c.bring.ensures.whole c.bring.ensures.store (λ usable. absurd cc)
    (λ seats. last_stayed c.args.self.now (record c.args.self.now { ram = c.bring.new.ram; owners = c.bring.new.owners; store = c.bring.new.store; failed = true })
    (record { hand = refl; table = c.bring.ensures.sizes.extent; area = c.bring.ensures.sizes.area }) (omega arith)
    c.in_err-bring.ensures.err.infos c.requires.sound.last)

pub returns-in_err-bring-clause-no_more : goal.returns-in_err-bring-clause-no_more
returns-in_err-bring-clause-no_more g c = no_more_used c.args.self.now.owners c.bring.new.owners (ap (λ (t : Extent). t.slots) c.bring.ensures.sizes.extent)
    (λ s free. ap (λ I. I (Slot s)) c.in_err-bring.ensures.err.infos ∙ free)

-- ---- between the halves

pub has_free_frame-requires-clause-sound : goal.has_free_frame-requires-clause-sound
has_free_frame-requires-clause-sound g c = let moves = came_in g.W.SwapStore c.args.self.now c.requires.sound c.bring.new.ram c.bring.new.owners c.bring.new.store true
    c.args.from c.free_frame-f.result c.in_ok-bring.ensures.ok c.requires.used c.bring.ensures.agrees c.bring.ensures.sizes c.bring.ensures.rights c.bring.ensures.whole c.bring.ensures.store (λ usable. absurd cc) in moves.sound

pub has_free_frame-requires-clause-low : goal.has_free_frame-requires-clause-low
has_free_frame-requires-clause-low g c =
    let same : procs_of (extent c.bring.new.owners) ≡ procs_of (extent c.args.self.now.owners) = ap procs_of c.bring.ensures.sizes.extent in
    omega (arith, c.free_frame-f.ensures.free.within.0, c.requires.sound.agree.first, same)

-- a page has come in to the last free frame
pub has_free_frame-requires-clause-full : goal.has_free_frame-requires-clause-full
has_free_frame-requires-clause-full g c = λ last.
    let moves = came_in g.W.SwapStore c.args.self.now c.requires.sound c.bring.new.ram c.bring.new.owners c.bring.new.store true
    c.args.from c.free_frame-f.result c.in_ok-bring.ensures.ok c.requires.used c.bring.ensures.agrees c.bring.ensures.sizes c.bring.ensures.rights c.bring.ensures.whole c.bring.ensures.store (λ usable. absurd cc) in
    brought_all g.W.SwapStore.slot_count c.args.self.now
    (record c.args.self.now { ram = c.bring.new.ram; owners = c.bring.new.owners; store = c.bring.new.store; failed = true })
    c.requires.sound moves.sound moves.size
    (one_in c.args.self.now c.bring.new.ram c.bring.new.owners c.args.from c.free_frame-f.result c.in_ok-bring.ensures.ok
    (ap (λ (t : Extent). t.slots) c.bring.ensures.sizes.extent) c.requires.used) refl (c.is_last-last.ensures last)

pub has_free_frame-requires-clause-spare : goal.has_free_frame-requires-clause-spare
has_free_frame-requires-clause-spare g c =
    let less : used_slots c.args.self.now.owners ≡ used_slots c.bring.new.owners + 1 =
    one_in c.args.self.now c.bring.new.ram c.bring.new.owners c.args.from c.free_frame-f.result c.in_ok-bring.ensures.ok
    (ap (λ (t : Extent). t.slots) c.bring.ensures.sizes.extent) c.requires.used in
    let table : (extent c.bring.new.owners).slots ≡ (extent c.args.self.now.owners).slots = ap (λ (t : Extent). t.slots) c.bring.ensures.sizes.extent in
    omega (arith, less, table, slots_few c.args.self.now.owners)

pub returns-then-has_free_frame-clause-moves : goal.returns-then-has_free_frame-clause-moves
returns-then-has_free_frame-clause-moves g c = came_in g.W.SwapStore c.args.self.now c.requires.sound c.bring.new.ram c.bring.new.owners c.bring.new.store false
    c.args.from c.free_frame-f.result c.in_ok-bring.ensures.ok c.requires.used c.bring.ensures.agrees c.bring.ensures.sizes c.bring.ensures.rights c.bring.ensures.whole c.bring.ensures.store
    (λ usable. c.has_free_frame.ensures.yes c.if-has_free_frame.true)

pub returns-then-has_free_frame-clause-near : goal.returns-then-has_free_frame-clause-near
returns-then-has_free_frame-clause-near g c = brought_near {E = Unit {0}} c.args.self.now c.bring.new.ram c.bring.new.owners
    (record c.args.self.now { ram = c.bring.new.ram; owners = c.bring.new.owners; store = c.bring.new.store; failed = false })
    c.args.from c.free_frame-f.result c.in_ok-bring.ensures.ok (Ok tt) (λ at side e. e)

pub returns-then-has_free_frame-clause-no_more : goal.returns-then-has_free_frame-clause-no_more
returns-then-has_free_frame-clause-no_more g c =
    let less : used_slots c.args.self.now.owners ≡ used_slots c.bring.new.owners + 1 =
    one_in c.args.self.now c.bring.new.ram c.bring.new.owners c.args.from c.free_frame-f.result c.in_ok-bring.ensures.ok
    (ap (λ (t : Extent). t.slots) c.bring.ensures.sizes.extent) c.requires.used in
    omega (arith, less)

pub put_out-requires-clause-sound : goal.put_out-requires-clause-sound
put_out-requires-clause-sound g c = let moves = came_in g.W.SwapStore c.args.self.now c.requires.sound c.bring.new.ram c.bring.new.owners c.bring.new.store true
    c.args.from c.free_frame-f.result c.in_ok-bring.ensures.ok c.requires.used c.bring.ensures.agrees c.bring.ensures.sizes c.bring.ensures.rights c.bring.ensures.whole c.bring.ensures.store (λ usable. absurd cc) in moves.sound

pub put_out-requires-clause-full : goal.put_out-requires-clause-full
put_out-requires-clause-full g c = c.has_free_frame.ensures.no c.if-has_free_frame.false

pub put_out-requires-clause-slot : goal.put_out-requires-clause-slot
put_out-requires-clause-slot g c = kept_seat (extent c.args.self.now.owners) (extent c.bring.new.owners) c.bring.ensures.sizes.extent (Slot c.args.from)
    (used_within c.args.self.now.owners (Slot c.args.from) c.requires.used)

pub put_out-requires-clause-free : goal.put_out-requires-clause-free
put_out-requires-clause-free g c = left_behind c.args.self.now c.bring.new.ram c.bring.new.owners c.args.from c.free_frame-f.result c.in_ok-bring.ensures.ok

-- ---- after both

pub returns-clause-moves : goal.returns-clause-moves
returns-clause-moves g c = moves_then g.W.SwapStore c.args.self.now
    (record c.args.self.now { ram = c.bring.new.ram; owners = c.bring.new.owners; store = c.bring.new.store; failed = true }) c.put_out.new.self
    (came_in g.W.SwapStore c.args.self.now c.requires.sound c.bring.new.ram c.bring.new.owners c.bring.new.store true
    c.args.from c.free_frame-f.result c.in_ok-bring.ensures.ok c.requires.used c.bring.ensures.agrees c.bring.ensures.sizes c.bring.ensures.rights c.bring.ensures.whole c.bring.ensures.store (λ usable. absurd cc)) c.put_out.ensures.moves

pub returns-clause-near : goal.returns-clause-near
returns-clause-near g c = brought_near c.args.self.now c.bring.new.ram c.bring.new.owners c.put_out.new.self c.args.from c.free_frame-f.result
    c.in_ok-bring.ensures.ok c.put_out.result c.put_out.ensures.keep

pub returns-clause-no_more : goal.returns-clause-no_more
returns-clause-no_more g c =
    let less : used_slots c.args.self.now.owners ≡ used_slots c.bring.new.owners + 1 =
    one_in c.args.self.now c.bring.new.ram c.bring.new.owners c.args.from c.free_frame-f.result c.in_ok-bring.ensures.ok
    (ap (λ (t : Extent). t.slots) c.bring.ensures.sizes.extent) c.requires.used in
    omega (arith, less, c.put_out.ensures.one)
