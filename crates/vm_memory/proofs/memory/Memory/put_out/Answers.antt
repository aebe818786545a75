use Rattle.std.proofs.Common.{false, refl, ap, sym, ◌∙◌, ◌≡◌, ◌+◌, ◌≤◌, arith}
use Rattle.std.proofs.lemmas.Bool.{false≢true}
use Rattle.phys_pages.specs.Owners.{Extent, extent, infos}
use Rattle.phys_pages.specs.declared.infos.Seat.TheVariants.{Frame}
use Rattle.vm_memory.specs.Bytes.{is_known, none_out, used_slots}
use Rattle.vm_memory.specs.Memory.{ledger}
use Rattle.vm_memory.proofs.Changing.LastFrameLemmas.{last_out, last_stayed}
use Rattle.vm_memory.proofs.Changing.ShiftedLemmas.{goes_out, left_free, found_room, kept_seat, moved_in, one_out, over_splits, stays_near, still_as_many, still_none, still_whole}
use Rattle.vm_memory.proofs.memory.Memory.put_out.Goals as goal

pub returns-in_err-evict-clause-moves : goal.returns-in_err-evict-clause-moves
returns-in_err-evict-clause-moves g c = moved_in g.W.SwapStore c.args.self.now c.requires.sound c.evict.new.ram c.evict.new.owners c.evict.new.store c.args.self.now.failed c.args.self.now.hand
    c.evict.ensures.agrees c.evict.ensures.sizes c.evict.ensures.rights c.evict.ensures.whole c.evict.ensures.store (λ usable. absurd (false≢true (sym usable ∙ c.requires.under_way)))
    (λ seats. last_stayed c.args.self.now (record c.args.self.now { ram = c.evict.new.ram; owners = c.evict.new.owners; store = c.evict.new.store })
    (record { hand = refl; table = c.evict.ensures.sizes.extent; area = c.evict.ensures.sizes.area }) (omega arith)
    c.in_err-evict.ensures.err.infos c.requires.sound.last)

pub returns-in_err-evict-clause-none : goal.returns-in_err-evict-clause-none
returns-in_err-evict-clause-none g c = still_none g.W.SwapStore c.args.self.now c.requires.sound c.evict.new.ram c.evict.new.owners c.evict.new.store c.args.self.now.failed c.args.self.now.hand
    c.in_err-evict.ensures.err c.evict.ensures.pages

pub returns-in_err-evict-clause-over : goal.returns-in_err-evict-clause-over
unfolding ledger
returns-in_err-evict-clause-over g c = λ over. over_splits (is_known g.W.SwapStore c.args.self.now) (none_out c.args.self.now) (none_out _) over
    (λ known. c.evict.ensures.whole known)
    (λ none none_new. still_whole g.W.SwapStore c.args.self.now c.requires.sound c.evict.new.ram c.evict.new.owners c.evict.new.store c.args.self.now.failed c.args.self.now.hand
    c.in_err-evict.ensures.err c.evict.ensures.pages none)

pub evict-requires-clause-used : goal.evict-requires-clause-used
evict-requires-clause-used g c = c.requires.full c.victim-f.result.0 c.victim-f.ensures.within.0 c.victim-f.ensures.within.1

pub evict-requires-clause-slots : goal.evict-requires-clause-slots
evict-requires-clause-slots g c = omega (arith, c.requires.sound.slots, c.requires.sound.store)

pub returns-clause-moves : goal.returns-clause-moves
returns-clause-moves g c = moved_in g.W.SwapStore c.args.self.now c.requires.sound c.evict.new.ram c.evict.new.owners c.evict.new.store false (c.victim-f.result.0 + 1)
    c.evict.ensures.agrees c.evict.ensures.sizes c.evict.ensures.rights c.evict.ensures.whole c.evict.ensures.store
    (λ usable. found_room (extent c.evict.new.owners) (infos c.evict.new.owners) c.victim-f.result (kept_seat (extent c.args.self.now.owners) (extent c.evict.new.owners) c.evict.ensures.sizes.extent (Frame c.victim-f.result) c.victim-f.ensures.within)
    (left_free c.args.self.now c.evict.new.ram c.evict.new.owners c.victim-f.result c.args.to c.in_ok-evict.ensures.ok))
    (λ seats. last_out g.W.SwapStore.slot_count c.args.self.now (record c.args.self.now {
      ram = c.evict.new.ram;
      owners = c.evict.new.owners;
      store = c.evict.new.store;
      hand = c.victim-f.result.0 + 1;
      failed = false;
    }) c.requires.sound c.evict.ensures.sizes.extent c.evict.ensures.sizes.area c.requires.full refl
    (one_out c.args.self.now c.evict.new.ram c.evict.new.owners c.victim-f.result c.args.to c.in_ok-evict.ensures.ok
    (ap (λ (t : Extent). t.slots) c.evict.ensures.sizes.extent) c.requires.slot c.requires.free
    (c.requires.full c.victim-f.result.0 c.victim-f.ensures.within.0 c.victim-f.ensures.within.1)) seats)

pub returns-clause-none : goal.returns-clause-none
returns-clause-none g c = λ none. goes_out c.args.self.now c.evict.new.ram c.evict.new.owners c.victim-f.result c.args.to c.in_ok-evict.ensures.ok
    (c.requires.full c.victim-f.result.0 c.victim-f.ensures.within.0 c.victim-f.ensures.within.1)
    (record c.args.self.now {
      ram = c.evict.new.ram;
      owners = c.evict.new.owners;
      store = c.evict.new.store;
      hand = c.victim-f.result.0 + 1;
      failed = false;
    }) refl none

pub returns-clause-over : goal.returns-clause-over
unfolding ledger
returns-clause-over g c = λ over. over_splits (is_known g.W.SwapStore c.args.self.now) (none_out c.args.self.now) (none_out (record c.args.self.now { ram = c.evict.new.ram; owners = c.evict.new.owners; store = c.evict.new.store; hand = c.victim-f.result.0 + 1; failed = false })) over
    (λ known. c.evict.ensures.whole known)
    (λ none none_new. goes_out c.args.self.now c.evict.new.ram c.evict.new.owners c.victim-f.result c.args.to c.in_ok-evict.ensures.ok
    (c.requires.full c.victim-f.result.0 c.victim-f.ensures.within.0 c.victim-f.ensures.within.1)
    (record c.args.self.now {
      ram = c.evict.new.ram;
      owners = c.evict.new.owners;
      store = c.evict.new.store;
      hand = c.victim-f.result.0 + 1;
      failed = false;
    }) refl none_new)

pub returns-in_err-evict-clause-keep : goal.returns-in_err-evict-clause-keep
returns-in_err-evict-clause-keep g c = λ at side e. ap (λ E. E at) c.in_err-evict.ensures.err.entries ∙ e

pub returns-clause-keep : goal.returns-clause-keep
returns-clause-keep g c = stays_near c.args.self.now c.evict.new.ram c.evict.new.owners c.victim-f.result c.args.to c.in_ok-evict.ensures.ok c.args.keep c.victim-f.ensures.other

pub returns-in_err-evict-clause-one : goal.returns-in_err-evict-clause-one
returns-in_err-evict-clause-one g c =
    let same : used_slots c.evict.new.owners ≤ used_slots c.args.self.now.owners =
    still_as_many g.W.SwapStore c.args.self.now c.requires.sound c.evict.new.ram c.evict.new.owners c.evict.new.store c.args.self.now.failed c.args.self.now.hand
    c.in_err-evict.ensures.err c.evict.ensures.pages (ap (λ (t : Extent). t.slots) c.evict.ensures.sizes.extent) in
    omega (arith, same)

pub returns-clause-one : goal.returns-clause-one
returns-clause-one g c =
    let more : used_slots c.evict.new.owners ≡ used_slots c.args.self.now.owners + 1 =
    one_out c.args.self.now c.evict.new.ram c.evict.new.owners c.victim-f.result c.args.to c.in_ok-evict.ensures.ok
    (ap (λ (t : Extent). t.slots) c.evict.ensures.sizes.extent)
    c.requires.slot
    c.requires.free
    (c.requires.full c.victim-f.result.0 c.victim-f.ensures.within.0 c.victim-f.ensures.within.1) in
    omega (arith, more)

pub returns-clause-out : goal.returns-clause-out
returns-clause-out g c = one_out c.args.self.now c.evict.new.ram c.evict.new.owners c.victim-f.result c.args.to c.in_ok-evict.ensures.ok
    (ap (λ (t : Extent). t.slots) c.evict.ensures.sizes.extent) c.requires.slot c.requires.free
    (c.requires.full c.victim-f.result.0 c.victim-f.ensures.within.0 c.victim-f.ensures.within.1)
