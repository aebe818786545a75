-- A memory whose pages have moved between frames and slots.
use Rattle.std.proofs.Common.{◌≡◌, ◌≢◌, ℕ, ◌+◌, ◌*◌, ◌<◌, ◌≤◌, Bool, true, false, ◌&&◌, ◌||◌, Option, Some, None, refl, sym, ap, subst, ◌∙◌, inl, inr, arith}
use Rattle.std.specs.Prelude.{IfNone, IfSome, IsTrue, is_some, Result, Ok, Err, OnOk}
use Rattle.std.specs.Option.{option_map}
use Rattle.std.proofs.lemmas.Bool.{and_parts, both_ways, cond-true, cond-false, ne_eqb}
use Rattle.boot_plan.specs.Capacity.{capacity}
use Rattle.xk_base.specs.Numbers.Limits.{table_frames}
use Rattle.xk_base.specs.Tables.Counting.{put_at}
use Rattle.xk_base.specs.declared.ids.Frame.{Frame as FrameNumber}
use Rattle.xk_base.specs.declared.ids.Place.{Place}
use Rattle.xk_base.specs.declared.ids.Slot.{Slot as SlotNumber}
use Rattle.phys_pages.specs.declared.infos.PageInfo.{PageInfo}
use Rattle.phys_pages.specs.declared.infos.Seat.{Seat}
use Rattle.phys_pages.specs.declared.infos.Seat.TheVariants.{Frame, Slot}
use Rattle.phys_pages.specs.Owners.{AreFramesUsed, AreSlotsUsed, Extent, HasSeat, OwnerTable, extent, frame_seat, infos, seat_eq, slot_seat}
use Rattle.phys_pages.specs.Ram.{Area, IsPlaced, RamBytes, area, pages as page_of_frame}
use Rattle.phys_pages.proofs.OwnerLemmas.{infos-within, seat_tells}
use Rattle.ledger_model.specs.Lawful.{IsLawful}
use Rattle.ledger_model.specs.Ledger.{pages}
use Rattle.ledger_model.specs.Loans.{bare}
use Rattle.ledger_model.proofs.LedgerLemmas.{cases_Option}
use Rattle.ledger_model.proofs.Pages.BareLemmas.{bare-lawful}
use Rattle.ledger_model.proofs.Stepping.WritingLemmas.{bare-pages}
use Rattle.sv32_space.specs.Agreement.{HasUnusedFrame, procs_of}
use Rattle.sv32_space.specs.PageChanges.{renamed_entry, with_info}
use Rattle.sv32_space.specs.SpelledEntries.{entries}
use Rattle.sv32_space.specs.Tie.{agrees, bytes_at, ledger_in}
use Rattle.sv32_space.specs.declared.sides.Entry.TheVariants.{At}
use Rattle.sv32_space.specs.declared.sides.Side.{Side}
use Rattle.loan_flags.specs.Keeping.{tables}
use Rattle.swap_map.specs.Moving.{KeepsSizes, Moves, StaysPut}
use Rattle.swap_map.proofs.ExchangeLemmas.{stayed_whole, used_behind}
use Rattle.xk_ports.specs.declared.store.SwapStore.{Ghosts as SwapStore}
use Rattle.xk_ports.specs.Keeping.{KeepsStore, tells_truly}
use Rattle.vm_memory.specs.declared.memory.Memory.{Memory}
use Rattle.vm_memory.specs.Bytes.{is_known, none_out, used_frames, used_slots}
use Rattle.vm_memory.specs.Memory.{blank_ledger, capacity_of, ledger, processes}
use Rattle.vm_memory.specs.Pages.Exchanging.{IsInFrame, MovesPages}
use Rattle.vm_memory.specs.Sound.{IsSound, KnowsLastFrame}
use Rattle.vm_memory.proofs.Changing.CallLemmas.{no_more_used, none_out-kept, none_out-slots, one_more_used}
use Rattle.vm_memory.proofs.Changing.CountLemmas.{each_counts, seats_count}
use Rattle.vm_memory.proofs.Changing.LastFrameLemmas.{brought_used, last_kept}
use Rattle.vm_memory.proofs.Changing.SoundMemoryLemmas.{bare-ledger}

-- THE WORKHORSE: entries and owners agree, the ledger is the same but for its bytes, and the sizes stay.
module _ {W : Type 0} (S : SwapStore W) (m : Memory W) (sound : IsSound S.slot_count m)
    (ram : RamBytes) (owners : OwnerTable) (store : W) (failed : Bool) (hand : ℕ) where
  abbrev n : Memory W
  n = record m { ram = ram; owners = owners; store = store; failed = failed; hand = hand }

  module _ (agree : agrees ram owners) (sizes : KeepsSizes (tables m.ram m.owners) (tables ram owners))
      (rights : bare (ledger S.held n) ≡ bare (ledger S.held m)) (slots : S.slot_count store ≡ S.slot_count m.store) where
    bare_blank : bare (blank_ledger n) ≡ bare (blank_ledger m)
    bare_blank = sym (bare-ledger S.held n) ∙ (rights ∙ bare-ledger S.held m)

    lawful_now : IsLawful (processes n) (capacity_of n) (blank_ledger n)
    lawful_now =
        let here : IsLawful (processes m) (capacity_of m) (blank_ledger n) =
        bare-lawful (processes m) (capacity_of m) (blank_ledger m) (blank_ledger n) bare_blank sound.lawful in
        let same : capacity_of n ≡ capacity_of m = λ i. capacity (sizes.area i).frames (procs_of (sizes.extent i)) (sizes.extent i).slots in
        let sized : IsLawful (processes m) (capacity_of n) (blank_ledger n) = subst (λ k. IsLawful (processes m) k (blank_ledger n)) (sym same) here in
        subst (λ t. IsLawful (procs_of t) (capacity_of n) (blank_ledger n)) (sym sizes.extent) sized

    counted_now : m.pages ≡ pages (processes n) (blank_ledger n)
    counted_now = sound.pages ∙ (sym (bare-pages (processes m) (blank_ledger m) (blank_ledger n) bare_blank)
        ∙ ap (λ t. pages (procs_of t) (blank_ledger n)) (sym sizes.extent))

    seats_now : used_frames owners + used_slots owners ≡ m.pages
    unfolding blank_ledger
    seats_now = seats_count (processes n) (entries (processes n) ram) owners agree.entries ∙ sym counted_now

    pub shifted : (failed ≡ false → HasUnusedFrame (extent owners) (infos owners))
        → (used_frames owners + used_slots owners ≡ m.pages → KnowsLastFrame n) → IsSound S.slot_count n
    shifted room last = record {
      agree = agree;
      procs = sound.procs ∙ sym (ap procs_of sizes.extent);
      slots = sound.slots ∙ sym (ap (λ (t : Extent). t.slots) sizes.extent);
      few = subst (λ t. procs_of t ≤ 64) (sym sizes.extent) sound.few;
      few_slots = sound.few_slots;
      tables = subst (λ t. table_frames (procs_of t) + 2 ≤ (area ram).frames) (sym sizes.extent)
          (subst (λ (a : Area). table_frames (processes m) + 2 ≤ a.frames) (sym sizes.area) sound.tables);
      placed = subst IsPlaced (sym sizes.area) sound.placed;
      store = subst (λ k. m.slots ≤ k) (sym slots) sound.store;
      lawful = lawful_now;
      pages = counted_now;
      seats = seats_now;
      room = room;
      last = last seats_now;
    }

    -- .. so that pages have moved
    pub moved : (IsTrue (is_known S m) → ledger S.held n ≡ ledger S.held m) → KeepsStore S m.store store
        → (failed ≡ false → HasUnusedFrame (extent owners) (infos owners))
        → (used_frames owners + used_slots owners ≡ m.pages → KnowsLastFrame n) → MovesPages S m n
    moved whole keeps room last = record {
      sound = shifted room last;
      rights = rights;
      whole = whole;
      size = λ i. record { procs = procs_of (sizes.extent i); area = sizes.area i; slots = (sizes.extent i).slots };
      store = keeps;
    }

-- a store that stays as it is keeps all of itself
pub keeps_all : {W : Type 0} (S : SwapStore W) (store : W)
    → KeepsStore S store store
keeps_all S store = record { honest = refl; told = refl; slots = refl; preparations = refl; never_falls = omega arith }

-- .. by what `evict` and `bring` say of it
pub moved_in : {W : Type 0} (S : SwapStore W)
    (m : Memory W) → IsSound S.slot_count m → (ram : RamBytes) (owners : OwnerTable) (store : W) (failed : Bool) (hand : ℕ)
    → agrees ram owners → KeepsSizes (tables m.ram m.owners) (tables ram owners)
    → bare (ledger_in ram owners (S.held store)) ≡ bare (ledger_in m.ram m.owners (S.held m.store))
    → (IsTrue (tells_truly S m.store) → ledger_in ram owners (S.held store) ≡ ledger_in m.ram m.owners (S.held m.store))
    → KeepsStore S m.store store → (failed ≡ false → HasUnusedFrame (extent owners) (infos owners))
    → (used_frames owners + used_slots owners ≡ m.pages
    → KnowsLastFrame (record m { ram = ram; owners = owners; store = store; failed = failed; hand = hand }))
    → MovesPages S m (record m { ram = ram; owners = owners; store = store; failed = failed; hand = hand })
unfolding ledger
moved_in S m sound ram owners store failed hand agree sizes rights whole keeps room last =
    moved S m sound ram owners store failed hand agree sizes rights keeps.slots whole keeps room last

-- .. where a page has come in
pub came_in : {W : Type 0} (S : SwapStore W)
    (m : Memory W) → IsSound S.slot_count m → (ram : RamBytes) (owners : OwnerTable) (store : W) (failed : Bool) (from : SlotNumber) (into : FrameNumber)
    → Moves (tables m.ram m.owners) (tables ram owners) (Slot from) (Frame into) → is_some (infos m.owners (Slot from)) ≡ true
    → agrees ram owners → KeepsSizes (tables m.ram m.owners) (tables ram owners)
    → bare (ledger_in ram owners (S.held store)) ≡ bare (ledger_in m.ram m.owners (S.held m.store))
    → (IsTrue (tells_truly S m.store) → ledger_in ram owners (S.held store) ≡ ledger_in m.ram m.owners (S.held m.store))
    → KeepsStore S m.store store → (failed ≡ false → HasUnusedFrame (extent owners) (infos owners))
    → MovesPages S m (record m { ram = ram; owners = owners; store = store; failed = failed })
came_in S m sound ram owners store failed from into moves used agree sizes rights whole keeps room =
    moved_in S m sound ram owners store failed m.hand agree sizes rights whole keeps room
    (λ seats. last_kept m (record m { ram = ram; owners = owners; store = store; failed = failed })
    (record { hand = refl; table = sizes.extent; area = sizes.area }) (omega arith) (brought_used m ram owners from into moves used) sound.last)

-- nothing moves where only the mark of failure and the hand change
pub unmoved : {W : Type 0} (S : SwapStore W)
    (m : Memory W) → IsSound S.slot_count m → (failed : Bool) (hand : ℕ) → (failed ≡ false → HasUnusedFrame (extent m.owners) (infos m.owners))
    → KnowsLastFrame (record m { failed = failed; hand = hand }) → MovesPages S m (record m { failed = failed; hand = hand })
unfolding ledger
unmoved S m sound failed hand room last =
    moved S m sound m.ram m.owners m.store failed hand sound.agree (record { area = refl; extent = refl }) refl refl
    (λ known. refl) (keeps_all S m.store) room (λ seats. last)

pub same_moves : {W : Type 0} (S : SwapStore W)
    (m : Memory W) → IsSound S.slot_count m → MovesPages S m m
same_moves S m sound =
    record { sound = sound; rights = refl; whole = λ known. refl; size = refl; store = keeps_all S m.store }

-- what is known stays known
pub known_kept : {W : Type 0} (S : SwapStore W) (a b : W)
    → KeepsStore S a b → (S.is_honest b && is_some (S.held b)) ≡ (S.is_honest a && is_some (S.held a))
known_kept S a b keeps = λ i. keeps.honest i && keeps.told i

pub store_then : {W : Type 0} (S : SwapStore W) (a b c : W)
    → KeepsStore S a b → KeepsStore S b c
    → KeepsStore S a c
store_then S a b c x y = record {
  honest = y.honest ∙ x.honest;
  told = y.told ∙ x.told;
  slots = y.slots ∙ x.slots;
  preparations = y.preparations ∙ x.preparations;
  never_falls = omega (arith, x.never_falls, y.never_falls);
}

pub moves_then : {W : Type 0} (S : SwapStore W) (a b c : Memory W)
    → MovesPages S a b → MovesPages S b c
    → MovesPages S a c
moves_then S a b c x y = record {
  sound = y.sound;
  rights = y.rights ∙ x.rights;
  whole = λ known. y.whole (known_kept S a.store b.store x.store ∙ known) ∙ x.whole known;
  size = y.size ∙ x.size;
  store = store_then S a.store b.store c.store x.store y.store;
}

-- ---- free seats

-- a frame that is found free
pub found_room : (table : Extent) (I : Seat → Option PageInfo) (f : FrameNumber) → HasSeat table (Frame f) → I (Frame f) ≡ None → HasUnusedFrame table I
found_room table I f within free = record { frame = f.0; within = within; free = free }

-- .. by the answer of a search
pub some_room : (table : Extent) (I : Seat → Option PageInfo) (o : Option FrameNumber) → IfSome o (λ f. HasSeat table (Frame f)) → IfSome o (λ f. I (Frame f) ≡ None)
    → is_some o ≡ true → HasUnusedFrame table I
some_room table I None within free h = absurd cc
some_room table I (Some f) within free h = found_room table I f within free

pub none_all_used : (table : Extent) (owners : OwnerTable) (o : Option FrameNumber)
    → IfNone o (AreFramesUsed owners ((extent owners).first + (extent owners).frames)) → is_some o ≡ false
    → AreFramesUsed owners ((extent owners).first + (extent owners).frames)
none_all_used table owners None used h = used
none_all_used table owners (Some f) used h = absurd cc

pub all_slots : (owners : OwnerTable) (o : Option SlotNumber) → IfNone o (AreSlotsUsed owners (extent owners).slots) → o ≡ None → AreSlotsUsed owners (extent owners).slots
all_slots owners None used h = used
all_slots owners (Some s) used h = absurd cc

-- what is told of a slot that is found
pub some_slot_within : (owners : OwnerTable) (o : Option SlotNumber) → IfSome o (λ s. HasSeat (extent owners) (Slot s)) → (s : SlotNumber) → o ≡ Some s
    → HasSeat (extent owners) (Slot s)
some_slot_within owners o within s e = subst (λ r. IfSome r (λ t. HasSeat (extent owners) (Slot t))) e within

pub some_slot_free : (owners : OwnerTable) (o : Option SlotNumber) → IfSome o (λ s. infos owners (Slot s) ≡ None) → (s : SlotNumber) → o ≡ Some s
    → infos owners (Slot s) ≡ None
some_slot_free owners o free s e = subst (λ r. IfSome r (λ t. infos owners (Slot t) ≡ None)) e free

pub kept_seat : (old new : Extent) → new ≡ old → (s : Seat) → HasSeat old s → HasSeat new s
kept_seat old new same s within = subst (λ t. HasSeat t s) (sym same) within

-- no frame is free, and not all slots are used: as many pages as the capacity allows leave one seat
pub slot_left : {W : Type 0} (slot_count : W → ℕ) (m : Memory W) → IsSound slot_count m
    → AreFramesUsed m.owners ((extent m.owners).first + (extent m.owners).frames) → AreSlotsUsed m.owners (extent m.owners).slots → ⊥
slot_left slot_count m sound frames slots =
    let all : (extent m.owners).frames ≤ used_frames m.owners =
    each_counts (extent m.owners).frames (λ k. is_some (infos m.owners (frame_seat ((extent m.owners).first + k))))
    (λ k low. frames ((extent m.owners).first + k) (omega arith) (omega (arith, low))) in
    let every : (extent m.owners).slots ≤ used_slots m.owners =
    each_counts (extent m.owners).slots (λ k. is_some (infos m.owners (slot_seat k))) (λ k low. slots k low) in
    let within : pages (processes m) (blank_ledger m) ≤ capacity_of m = sound.lawful.within in
    let first : (extent m.owners).first ≡ 21 * processes m = sound.agree.first in
    let last : (extent m.owners).first + (extent m.owners).frames ≡ (area m.ram).frames = sound.agree.last in
    omega (arith, all, every, within, first, last, sound.pages, sound.seats, sound.tables)

-- ---- a page goes out

same_seat : (s : Seat) → seat_eq s s ≡ true
same_seat s = elim (seat_tells s s) [
  | inl same ↦ same.1
  | inr apart ↦ absurd (apart.0 refl)
]

put_here : (I : Seat → Option PageInfo) (s : Seat) (info : Option PageInfo) → put_at seat_eq I s info s ≡ info
put_here I s info = cond-true (seat_eq s s) info (I s) (same_seat s)

-- a used seat is one of the table
pub used_within : (owners : OwnerTable) (s : Seat) → is_some (infos owners s) ≡ true → HasSeat (extent owners) s
used_within owners s used = elim (cases_Option (infos owners s)) [
  | inl none ↦ absurd (both_ways (is_some (infos owners s)) (ap is_some none) used)
  | inr some ↦ infos-within owners s some.0 some.1
]

module _ {W : Type 0} (m : Memory W) (ram : RamBytes) (owners : OwnerTable) (f : FrameNumber) (to : SlotNumber)
    (moves : Moves (tables m.ram m.owners) (tables ram owners) (Frame f) (Slot to)) where
  -- its frame is free
  pub left_free : infos owners (Frame f) ≡ None
  left_free = ap (λ I. I (Frame f)) moves.infos ∙ put_here (infos m.owners) (Frame f) None

  -- the slot is used
  pub slot_used : infos owners (Slot to) ≡ infos m.owners (Frame f)
  slot_used = ap (λ I. I (Slot to)) moves.infos ∙ put_here (with_info (infos m.owners) (Frame f) None) (Slot to) (infos m.owners (Frame f))

  -- so a page is out
  pub goes_out : is_some (infos m.owners (Frame f)) ≡ true → {A : Type 0} → (n : Memory W) → n.owners ≡ owners → none_out n ≡ true → A
  goes_out used n same none = absurd (both_ways (is_some (infos owners (Slot to)))
      (ap is_some (ap (λ o. infos o (Slot to)) (sym same) ∙ none_out-slots n none to)) (ap is_some slot_used ∙ used))

  -- .. one more
  pub one_out : (extent owners).slots ≡ (extent m.owners).slots → HasSeat (extent m.owners) (Slot to) → infos m.owners (Slot to) ≡ None
      → is_some (infos m.owners (Frame f)) ≡ true → used_slots owners ≡ used_slots m.owners + 1
  one_out table within free used = one_more_used m.owners owners to table within free (ap is_some slot_used ∙ used)
      (λ r apart. ap (λ I. I (Slot r)) moves.infos
      ∙ cond-false (seat_eq (Slot r) (Slot to)) (infos m.owners (Frame f)) (infos m.owners (Slot r)) (ne_eqb r.0 to.0 apart))

  -- other entries stay
  pub stays_near : (keep : FrameNumber) → f.0 ≢ keep.0 → (at : Place) (side : Side) → entries (processes m) m.ram at ≡ Some (At side (Frame keep))
      → entries (procs_of (extent owners)) ram at ≡ Some (At side (Frame keep))
  stays_near keep other at side e = ap (λ E. E at) moves.entries ∙ (ap (option_map (renamed_entry (Frame f) (Slot to))) e
      ∙ ap (λ s. Some (At side s)) (cond-false (seat_eq (Frame keep) (Frame f)) (Slot to) (Frame keep) (ne_eqb keep.0 f.0 (λ same. other (sym same)))))

-- a page comes in: its entries name the frame
pub comes_near : {W : Type 0} (m : Memory W) (ram : RamBytes) (owners : OwnerTable) (from : SlotNumber) (into : FrameNumber)
    → Moves (tables m.ram m.owners) (tables ram owners) (Slot from) (Frame into)
    → (at : Place) (side : Side) → entries (processes m) m.ram at ≡ Some (At side (Slot from)) → entries (procs_of (extent owners)) ram at ≡ Some (At side (Frame into))
comes_near m ram owners from into moves at side e = ap (λ E. E at) moves.entries ∙ (ap (option_map (renamed_entry (Slot from) (Frame into))) e
    ∙ ap (λ s. Some (At side s)) (cond-true (seat_eq (Slot from) (Slot from)) (Frame into) (Slot from) (same_seat (Slot from))))

-- .. its slot is free
pub left_behind : {W : Type 0} (m : Memory W) (ram : RamBytes) (owners : OwnerTable) (from : SlotNumber) (into : FrameNumber)
    → Moves (tables m.ram m.owners) (tables ram owners) (Slot from) (Frame into) → infos owners (Slot from) ≡ None
left_behind m ram owners from into moves = ap (λ I. I (Slot from)) moves.infos ∙ put_here (infos m.owners) (Slot from) None

-- .. and one page less is out
pub one_in : {W : Type 0} (m : Memory W) (ram : RamBytes) (owners : OwnerTable) (from : SlotNumber) (into : FrameNumber)
    → Moves (tables m.ram m.owners) (tables ram owners) (Slot from) (Frame into)
    → (extent owners).slots ≡ (extent m.owners).slots → is_some (infos m.owners (Slot from)) ≡ true → used_slots m.owners ≡ used_slots owners + 1
one_in m ram owners from into moves table used = one_more_used owners m.owners from (sym table)
    (subst (λ n. from.0 < n) (sym table) (used_within m.owners (Slot from) used))
    (left_behind m ram owners from into moves) used
    (λ r apart. sym (ap (λ I. I (Slot r)) moves.infos
    ∙ cond-false (seat_eq (Slot r) (Slot from)) None (infos m.owners (Slot r)) (ne_eqb r.0 from.0 apart)))

-- .. also after another went out
pub brought_near : {W E : Type 0} (m : Memory W) (ram : RamBytes) (owners : OwnerTable) (n : Memory W) (from : SlotNumber) (into : FrameNumber)
    → Moves (tables m.ram m.owners) (tables ram owners) (Slot from) (Frame into) → (r : Result (Unit {0}) E)
    → ((at : Place) (side : Side) → entries (procs_of (extent owners)) ram at ≡ Some (At side (Frame into)) → entries (processes n) n.ram at ≡ Some (At side (Frame into)))
    → OnOk r ((at : Place) (side : Side) → entries (processes m) m.ram at ≡ Some (At side (Slot from)) → IsInFrame (entries (processes n) n.ram at) side)
brought_near m ram owners n from into moves (Ok done) keep = λ at side e.
    record { frame = into; near = keep at side (comes_near m ram owners from into moves at side e) }
brought_near m ram owners n from into moves (Err e) keep = tt

-- ---- a page doesn't go out, as the store failed

module _ {W : Type 0} (S : SwapStore W) (m : Memory W) (sound : IsSound S.slot_count m)
    (ram : RamBytes) (owners : OwnerTable) (store : W) (failed : Bool) (hand : ℕ) (stays : StaysPut (tables m.ram m.owners) (tables ram owners))
    (pages_stay : (g : ℕ) → table_frames (procs_of (extent m.owners)) ≤ g → page_of_frame ram g ≡ page_of_frame m.ram g) where
  abbrev k : Memory W
  k = record m { ram = ram; owners = owners; store = store; failed = failed; hand = hand }

  pub still_none : none_out k ≡ true → none_out m ≡ true
  still_none = none_out-kept k m (λ s free. ap (λ I. I (Slot s)) (sym stays.infos) ∙ free)

  pub still_as_many : (extent owners).slots ≡ (extent m.owners).slots → used_slots owners ≤ used_slots m.owners
  still_as_many table = no_more_used m.owners owners table (λ s free. ap (λ I. I (Slot s)) stays.infos ∙ free)

  -- where no page is out, all bytes are in frames
  pub still_whole : none_out m ≡ true → ledger S.held k ≡ ledger S.held m
  unfolding ledger
  still_whole none = stayed_whole (tables m.ram m.owners) (tables ram owners) sound.agree stays (bytes_at m.ram (S.held m.store)) (bytes_at ram (S.held store)) same
    where
      same : (s : Seat) (x : PageInfo) → infos m.owners s ≡ Some x → bytes_at ram (S.held store) s ≡ bytes_at m.ram (S.held m.store) s
      same (Frame g) x used = pages_stay g.0 (used_behind m.ram m.owners sound.agree g x used)
      same (Slot s) x used = absurd (both_ways (is_some (infos m.owners (Slot s))) (ap is_some (none_out-slots m none s)) (ap is_some used))

-- ---- bytes over a call

pub over_splits : (known a b : Bool) → (known || (a && b)) ≡ true → {A : Type 0} → (known ≡ true → A) → (a ≡ true → b ≡ true → A) → A
over_splits true a b h known none = known refl
over_splits false a b h known none = none (and_parts a b h).0 (and_parts a b h).1
