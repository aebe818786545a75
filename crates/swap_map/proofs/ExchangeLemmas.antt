-- What a page that moves, or stays, does to the ledger, by the bytes of seats before and after.
use Rattle.std.proofs.Common.{◌≡◌, ◌≢◌, ℕ, ◌≤◌, ◌<◌, Bool, true, ◌&&◌, List, length, Option, Some, None, nat_eq, refl, sym, ap, subst, ◌∙◌, inl, inr, arith}
use Rattle.std.specs.Prelude.{unwrap_or, IsTrue, is_some, Result, Ok, Err, OnErr}
use Rattle.std.specs.List.{All}
use Rattle.std.specs.Option.{option_map}
use Rattle.std.proofs.lemmas.Bool.{and_parts, cond-true, cond-false, eq-eqb, ne_eqb}
use Rattle.std.proofs.lemmas.Option.{none-some}
use Rattle.xk_base.specs.Numbers.Limits.{table_frames}
use Rattle.xk_base.specs.Tables.Counting.{put_at}
use Rattle.xk_base.specs.declared.ids.Frame.{Frame as FrameNumber}
use Rattle.xk_base.specs.declared.ids.Slot.{Slot as SlotNumber}
use Rattle.xk_ports.specs.Store.{Contents, GivesPage, SpoilsSlot, with_page as with_slot}
use Rattle.phys_pages.specs.declared.infos.PageInfo.{PageInfo}
use Rattle.phys_pages.specs.declared.infos.Seat.{Seat}
use Rattle.phys_pages.specs.declared.infos.Seat.TheVariants.{Frame, Slot}
use Rattle.phys_pages.specs.Owners.{OwnerTable, HasSeat, extent, infos}
use Rattle.phys_pages.specs.Ram.{Area, RamBytes, area, pages, with_page}
use Rattle.phys_pages.proofs.OwnerLemmas.{infos-within, seat_tells}
use Rattle.phys_pages.proofs.PageLemmas.{area-with_page, length-pages, pages-with_page}
use Rattle.ledger_model.specs.Loans.{bare}
use Rattle.ledger_model.specs.Steps.{zero_page}
use Rattle.ledger_model.specs.WholePages.{IsPage, is_page}
use Rattle.ledger_model.proofs.Pages.WholePageLemmas.{is_page-from}
use Rattle.sv32_space.specs.Agreement.{EntriesAgree, Infos, procs_of}
use Rattle.sv32_space.specs.Entries.{Entries}
use Rattle.sv32_space.specs.EntryLedger.{SeatBytes, ledger_of}
use Rattle.sv32_space.specs.PageChanges.{renamed, with_bytes, with_info}
use Rattle.sv32_space.specs.SpelledEntries.{entries}
use Rattle.sv32_space.specs.StandsFor.{told_page}
use Rattle.sv32_space.specs.Tie.{Held, agrees, bytes_at, ledger_in, slot_bytes}
use Rattle.sv32_space.proofs.EntryLemmas.{entries_after_page}
use Rattle.sv32_space.proofs.Ledgers.PageLedgerLemmas.{move_ledger, seat_kept, seat_put}
use Rattle.sv32_space.proofs.Ledgers.SeatByteLemmas.{bare_same, used_bytes}
use Rattle.sv32_space.proofs.SpaceLemmas.{made_after_page}
use Rattle.loan_flags.specs.Keeping.{Tables, entries_of, processes, tables}
use Rattle.swap_map.specs.Moving.{KeepsSizes, Moves, StaysPut}

-- ---- a page that moves, with its bytes or without

module _ (old new : Tables) (from to : Seat) (info : PageInfo) (agree : agrees old.ram old.owners)
    (here : infos old.owners from ≡ Some info) (free : infos old.owners to ≡ None) (moves : Moves old new from to) (B C : SeatBytes) where
  abbrev E : Entries
  E = entries_of old

  abbrev I : Infos
  I = infos old.owners

  ledger_moved : ledger_of (entries_of new) (infos new.owners) C ≡ ledger_of E I (with_bytes C from (C to))
  ledger_moved =
      (λ i. ledger_of (moves.entries i) (moves.infos i) C)
      ∙ (ap (λ o. ledger_of (renamed from to E) (with_info (with_info I from None) to o) C) here
      ∙ move_ledger (processes old) E I C from to info agree.entries here free)

  pub moved_bare : bare (ledger_of (entries_of new) (infos new.owners) C) ≡ bare (ledger_of E I B)
  moved_bare = ap bare ledger_moved ∙ bare_same E I B (with_bytes C from (C to))

  pub moved_whole : C to ≡ B from → ((s : Seat) (x : PageInfo) → I s ≡ Some x → s ≢ from → C s ≡ B s)
      → ledger_of (entries_of new) (infos new.owners) C ≡ ledger_of E I B
  moved_whole with_page others = ledger_moved ∙ used_bytes (processes old) E I B (with_bytes C from (C to)) agree.entries same
    where
      same : (s : Seat) (x : PageInfo) → I s ≡ Some x → with_bytes C from (C to) s ≡ B s
      same s x used = elim (seat_tells s from) [
        | inl k ↦ ap (with_bytes C from (C to)) k.0 ∙ (seat_put C from (C to) ∙ (with_page ∙ ap B (sym k.0)))
        | inr k ↦ seat_kept C from s (C to) k.0 ∙ others s x used k.0
      ]

-- ---- no page moves

module _ (old new : Tables) (agree : agrees old.ram old.owners) (stays : StaysPut old new) (B C : SeatBytes) where
  ledger_stayed : ledger_of (entries_of new) (infos new.owners) C ≡ ledger_of (entries_of old) (infos old.owners) C
  ledger_stayed = λ i. ledger_of (stays.entries i) (stays.infos i) C

  pub stayed_bare : bare (ledger_of (entries_of new) (infos new.owners) C) ≡ bare (ledger_of (entries_of old) (infos old.owners) B)
  stayed_bare = ap bare ledger_stayed ∙ bare_same (entries_of old) (infos old.owners) B C

  pub stayed_whole : ((s : Seat) (x : PageInfo) → infos old.owners s ≡ Some x → C s ≡ B s)
      → ledger_of (entries_of new) (infos new.owners) C ≡ ledger_of (entries_of old) (infos old.owners) B
  stayed_whole same = ledger_stayed ∙ used_bytes (processes old) (entries_of old) (infos old.owners) B C agree.entries same

-- ---- used seats

-- a used seat isn't a free one
used_apart : (I : Infos) (s t : Seat) (info : PageInfo) → I s ≡ Some info → I t ≡ None → s ≢ t
used_apart I s t info used free same = none-some info (sym free ∙ (ap I (sym same) ∙ used))

-- a used frame is none of a table
pub used_behind : (ram : RamBytes) (owners : OwnerTable) → agrees ram owners → (f : FrameNumber) (info : PageInfo) → infos owners (Frame f) ≡ Some info
    → table_frames (procs_of (extent owners)) ≤ f.0
used_behind ram owners agree f info used = subst (λ n. n ≤ f.0) agree.first (infos-within owners (Frame f) info used).0

-- a told page is the slot's
pub told_is : (slots : Contents) (s : ℕ) (page : List ℕ) → slots s ≡ page → IsPage page → slot_bytes (Some slots) s ≡ page
told_is slots s page is whole =
    ap (λ bytes. unwrap_or (told_page bytes) zero_page) is
    ∙ ap (λ o. unwrap_or o zero_page) (cond-true (is_page page) (Some page) None (is_page-from page whole))

-- what one slot holds doesn't tell of another
other_slot : (slots : Contents) (t s : SlotNumber) (page : List ℕ) → Slot s ≢ Slot t → with_slot slots t.0 page s.0 ≡ slots s.0
other_slot slots t s page apart = cond-false (nat_eq s.0 t.0) page (slots s.0) (ne_eqb s.0 t.0 (λ same. apart (ap (λ n. Slot (record { 0 = n })) same)))

-- ---- a page goes out

module _ (ram two : RamBytes) (owners : OwnerTable) (agree : agrees ram owners) (to : SlotNumber) (free : infos owners (Slot to) ≡ None)
    (pages_stay : (g : ℕ) → table_frames (procs_of (extent owners)) ≤ g → pages two g ≡ pages ram g) where
  -- whatever the slot that it goes to holds
  pub others_out : (held : Held) (page : List ℕ) (s : Seat) (x : PageInfo) → infos owners s ≡ Some x
      → bytes_at two (option_map (λ slots. with_slot slots to.0 page) held) s ≡ bytes_at ram held s
  others_out held page (Frame g) x used = pages_stay g.0 (used_behind ram owners agree g x used)
  others_out None page (Slot s) x used = refl
  others_out (Some slots) page (Slot s) x used = ap (λ bytes. unwrap_or (told_page bytes) zero_page)
      (other_slot slots to s page (used_apart (infos owners) (Slot s) (Slot to) x used free))

-- its bytes are those that the slot then holds
pub page_out : (ram two : RamBytes) (held : Held) (f : FrameNumber) (to : SlotNumber) → is_some held ≡ true → IsPage (pages ram f.0)
    → bytes_at two (option_map (λ slots. with_slot slots to.0 (pages ram f.0)) held) (Slot to) ≡ bytes_at ram held (Frame f)
page_out ram two None f to told whole = cc
page_out ram two (Some slots) f to told whole =
    told_is (with_slot slots to.0 (pages ram f.0)) to.0 (pages ram f.0) (cond-true (nat_eq to.0 to.0) (pages ram f.0) (slots to.0) (eq-eqb to.0 to.0 refl)) whole

-- ---- a page comes in

-- a page is written over a free frame: entries and owners agree as before
module _ (ram : RamBytes) (owners : OwnerTable) (agree : agrees ram owners) (f : FrameNumber) (within : HasSeat (extent owners) (Frame f))
    (page : List ℕ) (whole : length page ≡ 4096) where
  abbrev one : RamBytes
  one = with_page ram f.0 page

  abbrev procs : ℕ
  procs = procs_of (extent owners)

  inside : f.0 < (area ram).frames
  inside = omega (arith, agree.last, within.1)

  pub behind : table_frames procs ≤ f.0
  behind = subst (λ n. n ≤ f.0) agree.first within.0

  pub now_there : pages one ≡ put_at nat_eq (pages ram) f.0 page
  now_there = pages-with_page ram f.0 page inside whole

  pub filled_stays : StaysPut (tables ram owners) (tables one owners)
  filled_stays = record { entries = entries_after_page procs ram one f.0 page (area-with_page ram f.0 page) now_there behind; infos = refl }

  pub filled_sizes : KeepsSizes (tables ram owners) (tables one owners)
  filled_sizes = record { area = area-with_page ram f.0 page; extent = refl }

  pub filled_agrees : agrees one owners
  filled_agrees = record {
    first = agree.first;
    last = agree.last ∙ ap (λ (a : Area). a.frames) (sym (area-with_page ram f.0 page));
    made = λ pid process. made_after_page ram one procs f.0 page (area-with_page ram f.0 page) now_there behind pid process (agree.made pid process);
    entries = subst (λ F. EntriesAgree procs F (infos owners)) (sym filled_stays.entries) agree.entries;
  }

  pub filled_holds : pages one f.0 ≡ page
  filled_holds = ap (λ P. P f.0) now_there ∙ cond-true (nat_eq f.0 f.0) page (pages ram f.0) (eq-eqb f.0 f.0 refl)

  pub filled_others : (g : ℕ) → g ≢ f.0 → pages one g ≡ pages ram g
  filled_others g apart = ap (λ P. P g) now_there ∙ cond-false (nat_eq g f.0) page (pages ram g) (ne_eqb g f.0 apart)

-- the other pages have their bytes
pub others_in : (ram two : RamBytes) (owners : OwnerTable) → agrees ram owners → (into : FrameNumber) → infos owners (Frame into) ≡ None
    → ((g : ℕ) → table_frames (procs_of (extent owners)) ≤ g → g ≢ into.0 → pages two g ≡ pages ram g)
    → (held left : Held) → left ≡ held → (s : Seat) (x : PageInfo) → infos owners s ≡ Some x → bytes_at two left s ≡ bytes_at ram held s
others_in ram two owners agree into free pages_stay held left same (Frame g) x used =
    pages_stay g.0 (used_behind ram owners agree g x used)
    (λ equal. used_apart (infos owners) (Frame g) (Frame into) x used free (ap (λ n. Frame (record { 0 = n })) equal))
others_in ram two owners agree into free pages_stay held left same (Slot s) x used = ap (λ h. slot_bytes h s.0) same

-- its bytes are those that the slot held
pub page_in : (ram two : RamBytes) (held left : Held) (from : SlotNumber) (into : FrameNumber) (page : List ℕ) → is_some held ≡ true
    → GivesPage held from.0 page → IsPage page → pages two into.0 ≡ page → bytes_at two left (Frame into) ≡ bytes_at ram held (Slot from)
page_in ram two None left from into page told given whole is = cc
page_in ram two (Some slots) left from into page told given whole is = is ∙ sym (told_is slots from.0 page (sym (given slots refl)) whole)

-- a frame's bytes are a page
pub frame_page : (ram : RamBytes) (f : ℕ) → f < (area ram).frames → All (λ b. b < 256) (pages ram f) → IsPage (pages ram f)
frame_page ram f inside each = record { size = length-pages ram f inside; each = each }

-- ---- what the calls say

pub on_err : {A B : Type 0} (r : Result A B) (P : Type 0) → P → OnErr r P
on_err (Ok x) P p = tt
on_err (Err e) P p = p

pub used_info : (o : Option PageInfo) → is_some o ≡ true → (info : PageInfo) × (o ≡ Some info)
used_info None used = cc
used_info (Some info) used = (info, refl)

-- bytes are known where the store is honest and tells
pub known_honest : (honest told : Bool) → IsTrue (honest && told) → IsTrue honest
known_honest honest told known = (and_parts honest told known).0

pub known_told : (honest told : Bool) → IsTrue (honest && told) → told ≡ true
known_told honest told known = (and_parts honest told known).1

module _ (ram two : RamBytes) (owners left : OwnerTable) (agree : agrees ram owners) (f : FrameNumber) (to : SlotNumber)
    (used : is_some (infos owners (Frame f)) ≡ true) (free : infos owners (Slot to) ≡ None)
    (moves : Moves (tables ram owners) (tables two left) (Frame f) (Slot to)) where
  pub evicted_rights : (held now : Held) → bare (ledger_in two left now) ≡ bare (ledger_in ram owners held)
  evicted_rights held now =
      let info = used_info (infos owners (Frame f)) used in
      moved_bare (tables ram owners) (tables two left) (Frame f) (Slot to) info.0 agree info.1 free moves (bytes_at ram held) (bytes_at two now)

  pub evicted_whole : (held now : Held) → is_some held ≡ true → now ≡ option_map (λ slots. with_slot slots to.0 (pages ram f.0)) held
      → ((g : ℕ) → table_frames (procs_of (extent owners)) ≤ g → pages two g ≡ pages ram g) → All (λ b. b < 256) (pages ram f.0)
      → ledger_in two left now ≡ ledger_in ram owners held
  evicted_whole held now told put pages_stay each =
      let info = used_info (infos owners (Frame f)) used in
      let there : HasSeat (extent owners) (Frame f) = infos-within owners (Frame f) info.0 info.1 in
      let whole : IsPage (pages ram f.0) = frame_page ram f.0 (omega (arith, agree.last, there.1)) each in
      ap (λ h. ledger_in two left h) put
      ∙ moved_whole (tables ram owners) (tables two left) (Frame f) (Slot to) info.0 agree info.1 free moves (bytes_at ram held)
      (bytes_at two (option_map (λ slots. with_slot slots to.0 (pages ram f.0)) held))
      (page_out ram two held f to told whole) (λ s x here apart. others_out ram two owners agree to free pages_stay held (pages ram f.0) s x here)

-- a put that failed
module _ (ram : RamBytes) (owners : OwnerTable) (agree : agrees ram owners) (to : SlotNumber) (free : infos owners (Slot to) ≡ None) where
  pub unput_rights : (held now : Held) → bare (ledger_in ram owners now) ≡ bare (ledger_in ram owners held)
  unput_rights held now = bare_same (entries (procs_of (extent owners)) ram) (infos owners) (bytes_at ram held) (bytes_at ram now)

  pub unput_whole : (held now : Held) → SpoilsSlot held now to.0 → ledger_in ram owners now ≡ ledger_in ram owners held
  unput_whole held now spoilt =
      ap (λ h. ledger_in ram owners h) spoilt.1
      ∙ stayed_whole (tables ram owners) (tables ram owners) agree (record { entries = refl; infos = refl }) (bytes_at ram held)
      (bytes_at ram (option_map (λ slots. with_slot slots to.0 spoilt.0) held)) (others_out ram ram owners agree to free (λ g low. refl) held spoilt.0)

module _ (ram : RamBytes) (owners : OwnerTable) (agree : agrees ram owners) (from : SlotNumber) (into : FrameNumber)
    (within : HasSeat (extent owners) (Frame into)) (free : infos owners (Frame into) ≡ None) (page : List ℕ) (whole : length page ≡ 4096) where
  abbrev filled : RamBytes
  filled = with_page ram into.0 page

  -- a get that failed
  pub unfilled_rights : (held now : Held) → bare (ledger_in filled owners now) ≡ bare (ledger_in ram owners held)
  unfilled_rights held now = stayed_bare (tables ram owners) (tables filled owners) agree (filled_stays ram owners agree into within page whole)
      (bytes_at ram held) (bytes_at filled now)

  pub unfilled_whole : (held now : Held) → now ≡ held → ledger_in filled owners now ≡ ledger_in ram owners held
  unfilled_whole held now same = stayed_whole (tables ram owners) (tables filled owners) agree (filled_stays ram owners agree into within page whole)
      (bytes_at ram held) (bytes_at filled now)
      (others_in ram filled owners agree into free (λ g low apart. filled_others ram owners agree into within page whole g apart) held now same)

  -- a page that was got moves
  module _ (two : RamBytes) (left : OwnerTable) (used : is_some (infos owners (Slot from)) ≡ true)
      (moves : Moves (tables filled owners) (tables two left) (Slot from) (Frame into))
      (pages_stay : (g : ℕ) → table_frames (procs_of (extent owners)) ≤ g → pages two g ≡ pages filled g) where
    pub brought_moves : Moves (tables ram owners) (tables two left) (Slot from) (Frame into)
    brought_moves = record {
      entries = moves.entries ∙ ap (renamed (Slot from) (Frame into)) (filled_stays ram owners agree into within page whole).entries;
      infos = moves.infos;
    }

    pub brought_sizes : KeepsSizes (tables filled owners) (tables two left) → KeepsSizes (tables ram owners) (tables two left)
    brought_sizes sizes = record { area = sizes.area ∙ area-with_page ram into.0 page; extent = sizes.extent }

    pub brought_pages : (g : ℕ) → table_frames (procs_of (extent owners)) ≤ g → g ≢ into.0 → pages two g ≡ pages ram g
    brought_pages g low apart = pages_stay g low ∙ filled_others ram owners agree into within page whole g apart

    pub brought_rights : (held now : Held) → bare (ledger_in two left now) ≡ bare (ledger_in ram owners held)
    brought_rights held now =
        let info = used_info (infos owners (Slot from)) used in
        moved_bare (tables ram owners) (tables two left) (Slot from) (Frame into) info.0 agree info.1 free brought_moves (bytes_at ram held) (bytes_at two now)

    pub brought_whole : (held now : Held) → is_some held ≡ true → now ≡ held → GivesPage held from.0 page → All (λ b. b < 256) (pages filled into.0)
        → ledger_in two left now ≡ ledger_in ram owners held
    brought_whole held now told same given each =
        let info = used_info (infos owners (Slot from)) used in
        let holds : pages filled into.0 ≡ page = filled_holds ram owners agree into within page whole in
        let is : IsPage page = record { size = whole; each = subst (λ bytes. All (λ b. b < 256) bytes) holds each } in
        let there : pages two into.0 ≡ page = pages_stay into.0 (behind ram owners agree into within page whole) ∙ holds in
        moved_whole (tables ram owners) (tables two left) (Slot from) (Frame into) info.0 agree info.1 free brought_moves (bytes_at ram held) (bytes_at two now)
        (page_in ram two held now from into page told given is there)
        (λ s x here apart. others_in ram two owners agree into free brought_pages held now same s x here)
