-- The frame before that at hand, as the last one that is free: what a change leaves of that.
use Rattle.std.proofs.Common.{◌≡◌, ℕ, zero, suc, ◌+◌, ◌-◌, ◌<◌, ◌≤◌, Bool, true, false, if◌then◌else◌, Bor, Option, Some, None, refl, sym, ap, subst, ◌∙◌, inl, inr, arith}
use Rattle.std.specs.Prelude.{IfSome, is_some, nat_lt}
use Rattle.std.specs.Option.{option_copied}
use Rattle.std.proofs.lemmas.Bool.{both_ways, cases_eq, cases_lt, cond-true, eq-eqb, ltb-true}
use Rattle.std.proofs.lemmas.Option.{none-some}
use Rattle.boot_plan.specs.Capacity.{page_frames}
use Rattle.xk_base.specs.Tables.Counting.{count_below, put_at}
use Rattle.xk_base.proofs.CountingLemmas.{count_below-le}
use Rattle.xk_base.specs.declared.ids.Frame.{Frame as FrameNumber}
use Rattle.xk_base.specs.declared.ids.Slot.{Slot as SlotNumber}
use Rattle.phys_pages.specs.declared.infos.PageInfo.{PageInfo}
use Rattle.phys_pages.specs.declared.infos.Seat.{Seat}
use Rattle.phys_pages.specs.declared.infos.Seat.TheVariants.{Frame, Slot}
use Rattle.phys_pages.specs.Owners.{AreFramesUsed, Extent, HasSeat, OwnerTable, extent, frame_seat, infos, seat_eq}
use Rattle.phys_pages.specs.Ram.{RamBytes, area}
use Rattle.phys_pages.proofs.OwnerLemmas.{infos-within}
use Rattle.ledger_model.proofs.LedgerLemmas.{cases_Option}
use Rattle.sv32_space.specs.Agreement.{HasUnusedFrame, procs_of}
use Rattle.loan_flags.specs.Keeping.{tables}
use Rattle.swap_map.specs.Moving.{Moves}
use Rattle.vm_memory.specs.declared.memory.Memory.{Memory}
use Rattle.vm_memory.specs.Bytes.{used_frames, used_slots}
use Rattle.vm_memory.specs.Memory.{Size, frames_for_pages, size}
use Rattle.vm_memory.specs.Pages.Changing.{IsFrameAtHand, IsFreeFrame}
use Rattle.vm_memory.specs.Sound.{IsSound, KnowsLastFrame}
use Rattle.vm_memory.proofs.Changing.CallLemmas.{no_more_used}
use Rattle.vm_memory.proofs.Changing.CountLemmas.{each_counts, frames_full}

-- ---- counts

-- of two tests of which one passes wherever the other does, and no more often, each passes where the other does
count_same : (n : ℕ) (f g : ℕ → Bool) → ((k : ℕ) → k < n → f k ≡ true → g k ≡ true) → count_below n g ≤ count_below n f
    → (k : ℕ) → k < n → g k ≡ true → f k ≡ true
unfolding count_below
count_same zero f g each few k low e = absurd (omega (arith, low))
count_same (suc n) f g each few k low e =
    let less : count_below n f ≤ count_below n g = count_below-le n f g (λ j l. each j (omega (arith, l))) in
    by_last (f n) (g n) refl refl few less (each n (omega arith)) (λ fewer l. count_same n f g (λ j m. each j (omega (arith, m))) fewer k l e)
  where
    by_last : (a b : Bool) → f n ≡ a → g n ≡ b → count_below n g + (if b then 1 else 0) ≤ count_below n f + (if a then 1 else 0)
        → count_below n f ≤ count_below n g → (f n ≡ true → g n ≡ true) → (count_below n g ≤ count_below n f → k < n → f k ≡ true) → f k ≡ true
    by_last true true x y h less there before = elim (cases_eq k n) [
      | inl same ↦ ap f same ∙ x
      | inr apart ↦ before (omega (arith, h)) (omega (arith, low, apart))
    ]
    by_last true false x y h less there before = absurd (both_ways (g n) y (there x))
    by_last false true x y h less there before = absurd (omega (arith, h, less))
    by_last false false x y h less there before = elim (cases_eq k n) [
      | inl same ↦ absurd (both_ways (g n) y (ap g (sym same) ∙ e))
      | inr apart ↦ before (omega (arith, h)) (omega (arith, low, apart))
    ]

-- a test of the seats, as it is of the frames of a table
abbrev frame_used : OwnerTable → Extent → ℕ → Bool
frame_used owners t = λ k. is_some (infos owners (frame_seat (t.first + k)))

used_there : (o p : Option PageInfo) → (p ≡ None → o ≡ None) → is_some o ≡ true → is_some p ≡ true
used_there o None free used = absurd (both_ways (is_some o) (ap is_some (free refl)) used)
used_there o (Some info) free used = refl

-- where frames stay used, no fewer are
pub no_less_used : (old new : OwnerTable) → extent new ≡ extent old
    → ((f : ℕ) → infos new (frame_seat f) ≡ None → infos old (frame_seat f) ≡ None) → used_frames old ≤ used_frames new
no_less_used old new table stay =
    let here : count_below (extent old).frames (frame_used old (extent old)) ≤ count_below (extent old).frames (frame_used new (extent old)) =
    count_below-le (extent old).frames (frame_used old (extent old)) (frame_used new (extent old))
    (λ k low used. used_there (infos old (frame_seat ((extent old).first + k))) (infos new (frame_seat ((extent old).first + k))) (stay ((extent old).first + k)) used) in
    subst (λ (t : Extent). used_frames old ≤ count_below t.frames (frame_used new t)) (sym table) here

-- where free seats stay free, and as many seats are used, frames stay used
pub frames_stay_used : (old new : OwnerTable) → extent new ≡ extent old → ((s : Seat) → infos old s ≡ None → infos new s ≡ None)
    → used_frames new + used_slots new ≡ used_frames old + used_slots old → (f : ℕ) → infos new (frame_seat f) ≡ None → infos old (frame_seat f) ≡ None
frames_stay_used old new table free same f none = elim (cases_Option (infos old (frame_seat f))) [
  | inl there ↦ there
  | inr info ↦
      let seat : HasSeat (extent old) (frame_seat f) = infos-within old (frame_seat f) info.0 info.1 in
      let place : (extent old).first + (f - (extent old).first) ≡ f = omega (arith, seat.0) in
      let fewer : used_slots new ≤ used_slots old = no_more_used old new (ap (λ (t : Extent). t.slots) table) (λ s none. free (Slot s) none) in
      let moved : count_below (extent old).frames (frame_used new (extent old)) ≡ used_frames new =
      ap (λ (t : Extent). count_below t.frames (frame_used new t)) (sym table) in
      let more : used_frames old ≤ used_frames new = omega (arith, same, fewer) in
      let few : used_frames old ≤ count_below (extent old).frames (frame_used new (extent old)) = subst (λ n. used_frames old ≤ n) (sym moved) more in
      let used : is_some (infos new (frame_seat ((extent old).first + (f - (extent old).first)))) ≡ true =
      count_same (extent old).frames (frame_used new (extent old)) (frame_used old (extent old))
      (λ k low used. used_there (infos new (frame_seat ((extent old).first + k))) (infos old (frame_seat ((extent old).first + k)))
      (free (frame_seat ((extent old).first + k))) used)
      few (f - (extent old).first) (omega (arith, seat.0, seat.1))
      (subst (λ k. is_some (infos old (frame_seat k)) ≡ true) (sym place) (ap is_some info.1)) in
      absurd (both_ways (is_some (infos new (frame_seat f))) (ap is_some none) (subst (λ k. is_some (infos new (frame_seat k)) ≡ true) place used))
]

-- ---- what is known of the frame

-- a memory of that size, with that hand and table
pub record IsSized {W : Type 0} (m n : Memory W) : Type 0 where
  pub hand : n.hand ≡ m.hand
  pub table : extent n.owners ≡ extent m.owners
  pub area : area n.ram ≡ area m.ram

frames_same : {W : Type 0} (m n : Memory W) → extent n.owners ≡ extent m.owners → area n.ram ≡ area m.ram → frames_for_pages n ≡ frames_for_pages m
frames_same m n table same = λ i. page_frames (same i).frames (procs_of (table i))

-- .. stays known where frames stay used, and no page comes
pub last_kept : {W : Type 0} (m n : Memory W) → IsSized m n → n.pages ≤ m.pages
    → ((f : ℕ) → infos n.owners (frame_seat f) ≡ None → infos m.owners (frame_seat f) ≡ None) → KnowsLastFrame m → KnowsLastFrame n
last_kept m n sized few stay knows unused at over =
    let frames : frames_for_pages n ≡ frames_for_pages m = frames_same m n sized.table sized.area in
    let was : HasUnusedFrame (extent m.owners) (infos m.owners) = record {
      frame = unused.frame;
      within = subst (λ t. HasSeat t (frame_seat unused.frame)) sized.table unused.within;
      free = stay unused.frame unused.free;
    } in
    let known : frames_for_pages m ≤ used_frames m.owners = knows was (sym sized.hand ∙ at) (omega (arith, over, frames, few)) in
    omega (arith, known, frames, no_less_used m.owners n.owners sized.table stay)

-- .. where the seats of pages stay
pub last_stayed : {W : Type 0} (m n : Memory W) → IsSized m n → n.pages ≤ m.pages → infos n.owners ≡ infos m.owners → KnowsLastFrame m → KnowsLastFrame n
last_stayed m n sized few same knows = last_kept m n sized few (λ f none. ap (λ I. I (frame_seat f)) (sym same) ∙ none) knows

-- .. where free seats stay free, and there are as many pages
pub last_same : {W : Type 0} (m n : Memory W) → IsSized m n → n.pages ≡ m.pages → ((s : Seat) → infos m.owners s ≡ None → infos n.owners s ≡ None)
    → used_frames m.owners + used_slots m.owners ≡ m.pages → used_frames n.owners + used_slots n.owners ≡ n.pages → KnowsLastFrame m → KnowsLastFrame n
last_same m n sized same free before now knows =
    last_kept m n sized (omega (arith, same)) (frames_stay_used m.owners n.owners sized.table free (now ∙ (same ∙ sym before))) knows

-- nothing has to be known of a frame that is used
pub last_used : {W : Type 0} (m : Memory W) (f : FrameNumber) → m.hand ≡ f.0 + 1 → is_some (infos m.owners (Frame f)) ≡ true → KnowsLastFrame m
last_used m f hand used unused at over =
    let same : unused.frame ≡ f.0 = omega (arith, hand, at) in
    absurd (both_ways (is_some (infos m.owners (frame_seat f.0))) (ap is_some (subst (λ k. infos m.owners (frame_seat k) ≡ None) same unused.free)) used)

-- .. nor where the search begins anew
pub last_anew : {W : Type 0} (m n : Memory W) → extent n.owners ≡ extent m.owners → area n.ram ≡ area m.ram
    → (frames_for_pages m < n.pages → n.hand ≡ 0) → KnowsLastFrame n
last_anew m n table same anew unused at over =
    let frames : frames_for_pages n ≡ frames_for_pages m = frames_same m n table same in
    let start : n.hand ≡ 0 = anew (omega (arith, over, frames)) in
    absurd (omega (arith, at, start))

-- .. nor where a page has come to the frame before that at hand
pub last_placed : {W : Type 0} (m n : Memory W) (f : FrameNumber) (info : PageInfo) → IsSized m n
    → infos n.owners ≡ put_at seat_eq (infos m.owners) (Frame f) (Some info) → is_some (infos n.owners (Frame f)) ≡ true → n.pages ≡ m.pages + 1
    → (frames_for_pages m ≤ m.pages → IsFrameAtHand m f.0) → KnowsLastFrame n
last_placed m n f info sized owned used more at_hand unused at over =
    let frames : frames_for_pages n ≡ frames_for_pages m = frames_same m n sized.table sized.area in
    let was : IsFreeFrame m.owners unused.frame = record {
      within = subst (λ t. HasSeat t (frame_seat unused.frame)) sized.table unused.within;
      free = by_test (seat_eq (frame_seat unused.frame) (Frame f)) (ap (λ I. I (frame_seat unused.frame)) (sym owned) ∙ unused.free);
    } in
    let same : unused.frame ≡ f.0 = at_hand (omega (arith, over, frames, more)) unused.frame (sym sized.hand ∙ at) was in
    absurd (both_ways (is_some (infos n.owners (frame_seat f.0))) (ap is_some (subst (λ k. infos n.owners (frame_seat k) ≡ None) same unused.free)) used)
  where
    by_test : (b : Bool) → (if b then Some info else infos m.owners (frame_seat unused.frame)) ≡ None → infos m.owners (frame_seat unused.frame) ≡ None
    by_test true e = absurd (none-some info (sym e))
    by_test false e = e

-- after a page went out of a full RAM, its frame is the only free one
pub last_out : {W : Type 0} (slot_count : W → ℕ) (m n : Memory W) → IsSound slot_count m → extent n.owners ≡ extent m.owners → area n.ram ≡ area m.ram
    → AreFramesUsed m.owners ((extent m.owners).first + (extent m.owners).frames) → n.pages ≡ m.pages
    → used_slots n.owners ≡ used_slots m.owners + 1 → used_frames n.owners + used_slots n.owners ≡ n.pages → KnowsLastFrame n
last_out slot_count m n sound table same full counted more seats unused at over =
    let frames : frames_for_pages n ≡ frames_for_pages m = frames_same m n table same in
    let all : (extent m.owners).frames ≤ used_frames m.owners =
    each_counts (extent m.owners).frames (frame_used m.owners (extent m.owners))
    (λ k low. full ((extent m.owners).first + k) (omega arith) (omega (arith, low))) in
    omega (arith, frames, all, more, seats, counted, sound.seats, sound.agree.first, sound.agree.last, sound.tables)

-- frames stay used as a page comes in
pub brought_used : {W : Type 0} (m : Memory W) (ram : RamBytes) (owners : OwnerTable) (from : SlotNumber) (into : FrameNumber)
    → Moves (tables m.ram m.owners) (tables ram owners) (Slot from) (Frame into) → is_some (infos m.owners (Slot from)) ≡ true
    → (g : ℕ) → infos owners (frame_seat g) ≡ None → infos m.owners (frame_seat g) ≡ None
brought_used m ram owners from into moves used g free =
    by_test (seat_eq (frame_seat g) (Frame into)) (ap (λ I. I (frame_seat g)) (sym moves.infos) ∙ free)
  where
    by_test : (b : Bool) → (if b then infos m.owners (Slot from) else infos m.owners (frame_seat g)) ≡ None → infos m.owners (frame_seat g) ≡ None
    by_test true e = absurd (both_ways (is_some (infos m.owners (Slot from))) (ap is_some e) used)
    by_test false e = e

-- what a memory tells of a free frame before that at hand
pub last_known : {W : Type 0} (slot_count : W → ℕ) (m : Memory W) → IsSound slot_count m → (f most : ℕ) → most ≡ frames_for_pages m → IsFreeFrame m.owners f
    → f + 1 ≡ m.hand → nat_lt most m.pages ≡ true → frames_for_pages m ≤ used_frames m.owners
last_known slot_count m sound f most is free at over =
    sound.last (record { frame = f; within = free.within; free = free.free }) (sym at) (omega (arith, is, ltb-true most m.pages over))

-- a frame in which a page was put is used
pub taken : (old new : OwnerTable) (f : FrameNumber) (info : PageInfo) → infos new ≡ put_at seat_eq (infos old) (Frame f) (Some info)
    → is_some (infos new (Frame f)) ≡ true
taken old new f info owned = ap (λ I. is_some (I (Frame f))) owned
    ∙ ap is_some (cond-true (seat_eq (Frame f) (Frame f)) (Some info) (infos old (Frame f)) (eq-eqb f.0 f.0 refl))

-- ---- the search for a frame

-- what is told of a seat that isn't free
pub seat_seen : (r : Option (Bor PageInfo)) (o : Option PageInfo) → option_copied r ≡ o → is_some r ≡ true → is_some o ≡ true
seat_seen None o e seen = absurd (both_ways false refl seen)
seat_seen (Some info) o e seen = ap is_some (sym e)

-- the search has passed over the frame that it began at, if it is past it
abbrev pub HasPassed : OwnerTable → ℕ → ℕ → Type 0
HasPassed owners from k = from < k → is_some (infos owners (frame_seat from)) ≡ true

-- .. and over one more that is used
pub passed_next : (owners : OwnerTable) (from k : ℕ) → from ≤ k → HasPassed owners from k → is_some (infos owners (frame_seat k)) ≡ true → HasPassed owners from (k + 1)
passed_next owners from k reached passed used past = elim (cases_lt from k) [
  | inl before ↦ passed before
  | inr here ↦
      let same : k ≡ from = omega (arith, reached, here) in
      subst (λ j. is_some (infos owners (frame_seat j)) ≡ true) same used
]

-- where it began at a free frame, it ends there
pub begun_free : (owners : OwnerTable) (from k : ℕ) → from ≤ k → HasPassed owners from k → IsFreeFrame owners from → from ≡ k
begun_free owners from k reached passed free = elim (cases_lt from k) [
  | inl past ↦ absurd (both_ways (is_some (infos owners (frame_seat from))) (ap is_some free.free) (passed past))
  | inr here ↦ omega (arith, reached, here)
]

-- .. and doesn't end behind all frames
pub begun_used : {A : Type 0} (owners : OwnerTable) (from k : ℕ) → (extent owners).first + (extent owners).frames ≤ k → HasPassed owners from k → IsFreeFrame owners from → A
begun_used owners from k behind passed free =
    absurd (both_ways (is_some (infos owners (frame_seat from))) (ap is_some free.free) (passed (omega (arith, behind, free.within.1))))

-- by the answer of a search
pub some_free : (owners : OwnerTable) (o : Option FrameNumber) → IfSome o (λ f. HasSeat (extent owners) (Frame f)) → IfSome o (λ f. infos owners (Frame f) ≡ None)
    → (f : FrameNumber) → o ≡ Some f → IsFreeFrame owners f.0
some_free owners o within free f is = record {
  within = subst (λ r. IfSome r (λ g. HasSeat (extent owners) (Frame g))) is within;
  free = subst (λ r. IfSome r (λ g. infos owners (Frame g) ≡ None)) is free;
}

pub some_there : (from : ℕ) (o : Option FrameNumber) → IfSome o (λ (f : FrameNumber). from ≡ f.0) → (f : FrameNumber) → o ≡ Some f → from ≡ f.0
some_there from o there f is = subst (λ r. IfSome r (λ (g : FrameNumber). from ≡ g.0)) is there

-- a frame is free, where the memory is usable
pub not_full : (owners : OwnerTable) → HasUnusedFrame (extent owners) (infos owners) → AreFramesUsed owners ((extent owners).first + (extent owners).frames) → ⊥
not_full owners room used = both_ways (is_some (infos owners (frame_seat room.frame))) (ap is_some room.free) (used room.frame room.within.0 room.within.1)

-- ---- all frames are used

-- a page that came to the last free frame
pub filled_all : {W : Type 0} (slot_count : W → ℕ) (m n : Memory W) → IsSound slot_count m → IsSound slot_count n → size n ≡ size m
    → used_slots n.owners ≤ used_slots m.owners → n.pages ≡ m.pages + 1 → frames_for_pages m ≤ used_frames m.owners → frames_for_pages n < used_frames n.owners
filled_all slot_count m n before now same slots more few =
    let frames : frames_for_pages n ≡ frames_for_pages m = ap (λ (s : Size). page_frames s.area.frames s.procs) same in
    omega (arith, before.seats, now.seats, slots, more, few, frames)

-- .. or came in to it
pub brought_all : {W : Type 0} (slot_count : W → ℕ) (m n : Memory W) → IsSound slot_count m → IsSound slot_count n → size n ≡ size m
    → used_slots m.owners ≡ used_slots n.owners + 1 → n.pages ≡ m.pages → frames_for_pages m ≤ used_frames m.owners → frames_for_pages n < used_frames n.owners
brought_all slot_count m n before now same slots as_many few =
    let frames : frames_for_pages n ≡ frames_for_pages m = ap (λ (s : Size). page_frames s.area.frames s.procs) same in
    omega (arith, before.seats, now.seats, slots, as_many, few, frames)

-- more frames are used than pages have: then all are
pub all_full : {W : Type 0} (slot_count : W → ℕ) (m : Memory W) → IsSound slot_count m → frames_for_pages m < used_frames m.owners
    → AreFramesUsed m.owners ((extent m.owners).first + (extent m.owners).frames)
all_full slot_count m sound over = frames_full m.owners (omega (arith, over, sound.agree.first, sound.agree.last, sound.tables))
