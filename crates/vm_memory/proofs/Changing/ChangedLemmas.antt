-- A memory after a change of entries and owners: it is sound, and its ledger has made the step.
use Rattle.xk_ports.specs.declared.store.SwapStore.{Ghosts as SwapStore}
use Rattle.xk_base.specs.Tables.Circle.{is_pid}
use Rattle.std.proofs.Common.{◌≡◌, ℕ, ◌+◌, ◌*◌, ◌≤◌, true, false, Some, None, refl, sym, ap, subst, ◌∙◌, arith}
use Rattle.boot_plan.specs.Capacity.{capacity}
use Rattle.xk_base.specs.Numbers.Limits.{table_frames}
use Rattle.phys_pages.specs.declared.infos.PageInfo.{PageInfo}
use Rattle.phys_pages.specs.declared.infos.Seat.{Seat}
use Rattle.phys_pages.specs.declared.infos.Seat.TheVariants.{Frame, Slot}
use Rattle.phys_pages.specs.Owners.{Extent, extent, infos, frame_seat, HasSeat}
use Rattle.phys_pages.specs.Ram.{Area, IsPlaced, area, pages as page_of_frame}
use Rattle.phys_pages.proofs.OwnerLemmas.{infos-within}
use Rattle.ledger_model.specs.Lawful.{IsLawful}
use Rattle.ledger_model.specs.Ledger.{Ledger, pages}
use Rattle.ledger_model.specs.Steps.{zero_page}
use Rattle.sv32_space.specs.Agreement.{Agrees, EntriesAgree, HasUnusedFrame, Infos, procs_of}
use Rattle.sv32_space.specs.Entries.{Entries}
use Rattle.sv32_space.specs.EntryLedger.{SeatBytes, ledger_of}
use Rattle.sv32_space.specs.Spaces.{IsMade}
use Rattle.sv32_space.specs.SpelledEntries.{entries}
use Rattle.sv32_space.specs.Tie.{agrees, bytes_at}
use Rattle.sv32_space.proofs.Ledgers.SeatByteLemmas.{used_bytes}
use Rattle.vm_memory.specs.declared.memory.Memory.{Memory}
use Rattle.vm_memory.specs.Bytes.{used_frames, used_slots}
use Rattle.vm_memory.specs.Memory.{blank_ledger, capacity_of, frames_for_pages, ledger, processes}
use Rattle.vm_memory.specs.Sound.{IsSound, KnowsLastFrame}
use Rattle.vm_memory.specs.Tie.{IsTied}
use Rattle.vm_memory.proofs.Changing.CountLemmas.{seats_count, frame_left}
use Rattle.vm_memory.proofs.Changing.SoundMemoryLemmas.{sound-tied}

-- a free frame stays one where no frame is filled
pub room_kept : {W : Type 0} (m n : Memory W) → extent n.owners ≡ extent m.owners
    → ((f : ℕ) → infos m.owners (frame_seat f) ≡ None → infos n.owners (frame_seat f) ≡ None)
    → HasUnusedFrame (extent m.owners) (infos m.owners) → HasUnusedFrame (extent n.owners) (infos n.owners)
room_kept m n table kept room = record {
  frame = room.frame;
  within = subst (λ t. HasSeat t (frame_seat room.frame)) (sym table) room.within;
  free = kept room.frame room.free;
}

abbrev pub no_bytes : SeatBytes
no_bytes s = zero_page

-- a memory after a change to these entries and owners
pub record IsChanged {W : Type 0} (m n : Memory W) (E : Entries) (I : Infos) : Type 0 where
  pub entries : entries (processes m) n.ram ≡ E
  pub infos : infos n.owners ≡ I
  pub made : (pid : ℕ) → is_pid (processes m) pid ≡ true → IsMade m.ram pid → IsMade n.ram pid
  pub area : area n.ram ≡ area m.ram
  pub extent : extent n.owners ≡ extent m.owners
  pub store : n.store ≡ m.store
  pub failed : n.failed ≡ m.failed
  pub procs : n.procs ≡ m.procs
  pub slots : n.slots ≡ m.slots

-- .. and after a step of the ledger
pub record IsStep {W : Type 0} (S : SwapStore W) (m n : Memory W) (step : Ledger → Ledger) : Type 0 where
  pub sound : IsSound S.slot_count n
  pub tie : IsTied S.held n
  pub ledger : ledger S.held n ≡ step (ledger S.held m)

module _ {W : Type 0} (S : SwapStore W) (m n : Memory W) (E : Entries) (I : Infos) (sound : IsSound S.slot_count m)
    (c : IsChanged m n E I) where
  abbrev blank : Ledger
  blank = ledger_of E I no_bytes

  entries_there : entries (processes n) n.ram ≡ E
  entries_there = ap (λ t. entries (procs_of t) n.ram) c.extent ∙ c.entries

  agrees_there : EntriesAgree (processes m) E I → agrees n.ram n.owners
  agrees_there agree =
      let base : Agrees (IsMade n.ram) (area m.ram).frames E (extent m.owners) I = record {
        first = sound.agree.first;
        last = sound.agree.last;
        made = λ pid process. c.made pid process (sound.agree.made pid process);
        entries = agree;
      } in
      let lies : Agrees (IsMade n.ram) (area n.ram).frames E (extent m.owners) I = subst (λ (a : Area). Agrees (IsMade n.ram) a.frames E (extent m.owners) I) (sym c.area) base in
      let owned : Agrees (IsMade n.ram) (area n.ram).frames E (extent m.owners) (infos n.owners) =
      subst (λ J. Agrees (IsMade n.ram) (area n.ram).frames E (extent m.owners) J) (sym c.infos) lies in
      let entered : Agrees (IsMade n.ram) (area n.ram).frames (entries (processes n) n.ram) (extent m.owners) (infos n.owners) =
      subst (λ F. Agrees (IsMade n.ram) (area n.ram).frames F (extent m.owners) (infos n.owners)) (sym entries_there) owned in
      subst (λ t. Agrees (IsMade n.ram) (area n.ram).frames (entries (processes n) n.ram) t (infos n.owners)) (sym c.extent) entered

  blank_there : blank_ledger n ≡ blank
  unfolding blank_ledger
  blank_there = λ i. ledger_of (entries_there i) (c.infos i) no_bytes

  capacity_there : capacity_of n ≡ capacity_of m
  capacity_there = λ i. capacity (c.area i).frames (procs_of (c.extent i)) (c.extent i).slots

  lawful_there : IsLawful (processes m) (capacity_of m) blank → IsLawful (processes n) (capacity_of n) (blank_ledger n)
  lawful_there lawful =
      let here : IsLawful (processes m) (capacity_of m) (blank_ledger n) = subst (λ l. IsLawful (processes m) (capacity_of m) l) (sym blank_there) lawful in
      let sized : IsLawful (processes m) (capacity_of n) (blank_ledger n) = subst (λ k. IsLawful (processes m) k (blank_ledger n)) (sym capacity_there) here in
      subst (λ t. IsLawful (procs_of t) (capacity_of n) (blank_ledger n)) (sym c.extent) sized

  pages_there : pages (processes n) (blank_ledger n) ≡ pages (processes m) blank
  pages_there = ap (λ t. pages (procs_of t) (blank_ledger n)) c.extent ∙ ap (pages (processes m)) blank_there

  count_there : EntriesAgree (processes m) E I → used_frames n.owners + used_slots n.owners ≡ pages (processes n) (blank_ledger n)
  unfolding blank_ledger
  count_there agree = seats_count (processes n) (entries (processes n) n.ram) n.owners (agrees_there agree).entries

  -- a frame is free where pages don't stand in all
  pub room_there : EntriesAgree (processes m) E I → pages (processes m) blank ≤ frames_for_pages m → HasUnusedFrame (extent n.owners) (infos n.owners)
  room_there agree few =
      let count : used_frames n.owners + used_slots n.owners ≡ pages (processes n) (blank_ledger n) = count_there agree in
      let first : (extent m.owners).first ≡ 21 * processes m = sound.agree.first in
      let last : (extent m.owners).first + (extent m.owners).frames ≡ (area m.ram).frames = sound.agree.last in
      let same : (extent n.owners).frames ≡ (extent m.owners).frames = ap (λ (t : Extent). t.frames) c.extent in
      frame_left n.owners (omega (arith, count, pages_there, few, first, last, same, sound.tables))

  -- SOUND: it stays sound where entries and owners agree, the ledger is lawful, and its pages are counted
  sound_there : EntriesAgree (processes m) E I → IsLawful (processes m) (capacity_of m) blank
      → n.pages ≡ pages (processes m) blank → (n.failed ≡ false → HasUnusedFrame (extent n.owners) (infos n.owners))
      → (used_frames n.owners + used_slots n.owners ≡ n.pages → KnowsLastFrame n) → IsSound S.slot_count n
  sound_there agree lawful counted room last = record {
    agree = agrees_there agree;
    procs = c.procs ∙ (sound.procs ∙ sym (ap procs_of c.extent));
    slots = c.slots ∙ (sound.slots ∙ sym (ap (λ (t : Extent). t.slots) c.extent));
    few = subst (λ t. procs_of t ≤ 64) (sym c.extent) sound.few;
    few_slots = subst (λ k. k ≤ 16384) (sym c.slots) sound.few_slots;
    tables = subst (λ t. table_frames (procs_of t) + 2 ≤ (area n.ram).frames) (sym c.extent)
        (subst (λ (a : Area). table_frames (processes m) + 2 ≤ a.frames) (sym c.area) sound.tables);
    placed = subst IsPlaced (sym c.area) sound.placed;
    store = subst (λ w. n.slots ≤ S.slot_count w) (sym c.store) (subst (λ k. k ≤ S.slot_count m.store) (sym c.slots) sound.store);
    lawful = lawful_there lawful;
    pages = counted ∙ sym pages_there;
    seats = count_there agree ∙ sym (counted ∙ sym pages_there);
    room = room;
    last = last (count_there agree ∙ sym (counted ∙ sym pages_there));
  }

  -- the bytes of the seats that were used stay, where those of their frames do
  bytes_stay : ((f : ℕ) (info : PageInfo) → infos m.owners (frame_seat f) ≡ Some info → page_of_frame n.ram f ≡ page_of_frame m.ram f)
      → (s : Seat) (info : PageInfo) → infos m.owners s ≡ Some info → bytes_at n.ram (S.held m.store) s ≡ bytes_at m.ram (S.held m.store) s
  bytes_stay same (Frame f) info i = same f.0 info i
  bytes_stay same (Slot s) info i = refl

  -- THE LEDGER is that of the entries and owners, by the bytes that are there now
  ledger_there : ledger S.held n ≡ ledger_of E I (bytes_at n.ram (S.held m.store))
  unfolding ledger
  ledger_there = λ i. ledger_of (entries_there i) (c.infos i) (bytes_at n.ram (S.held (c.store i)))

  -- .. by which the former entries and owners make the former ledger
  ledger_before : ((f : ℕ) (info : PageInfo) → infos m.owners (frame_seat f) ≡ Some info → page_of_frame n.ram f ≡ page_of_frame m.ram f)
      → ledger_of (entries (processes m) m.ram) (infos m.owners) (bytes_at n.ram (S.held m.store)) ≡ ledger S.held m
  unfolding ledger
  ledger_before same = used_bytes (processes m) (entries (processes m) m.ram) (infos m.owners) (bytes_at m.ram (S.held m.store)) (bytes_at n.ram (S.held m.store))
      sound.agree.entries (bytes_stay same)

  -- the bytes of the frames that are used stay, where those of all frames after the tables do
  pub frames_stay : ((g : ℕ) → 21 * processes m ≤ g → page_of_frame n.ram g ≡ page_of_frame m.ram g)
      → (f : ℕ) (info : PageInfo) → infos m.owners (frame_seat f) ≡ Some info → page_of_frame n.ram f ≡ page_of_frame m.ram f
  frames_stay others f info i =
      let seat : HasSeat (extent m.owners) (frame_seat f) = infos-within m.owners (frame_seat f) info i in
      let first : (extent m.owners).first ≡ 21 * processes m = sound.agree.first in
      others f (omega (arith, seat.0, first))

  -- ---- a step of the ledger

  -- Agreement, and lawful and counted pages after the step, where the bytes of used frames stay: what is left to say of a
  -- call is that entries and owners make the ledger after the step.
  module _ (step : Ledger → Ledger) (agree : EntriesAgree (processes m) E I)
      (lawful : IsLawful (processes m) (capacity_of m) (step (blank_ledger m)))
      (counted : n.pages ≡ pages (processes m) (step (blank_ledger m)))
      (room : n.failed ≡ false → HasUnusedFrame (extent n.owners) (infos n.owners))
      (last : used_frames n.owners + used_slots n.owners ≡ n.pages → KnowsLastFrame n)
      (stay : (f : ℕ) (info : PageInfo) → infos m.owners (frame_seat f) ≡ Some info → page_of_frame n.ram f ≡ page_of_frame m.ram f) where
    -- .. from zeros, and from the bytes that are there now
    pub step_from : blank ≡ step (blank_ledger m)
        → ledger_of E I (bytes_at n.ram (S.held m.store)) ≡ step (ledger_of (entries (processes m) m.ram) (infos m.owners) (bytes_at n.ram (S.held m.store)))
        → IsStep S m n step
    step_from zeros now =
        let stays : IsSound S.slot_count n = sound_there agree
        (subst (λ l. IsLawful (processes m) (capacity_of m) l) (sym zeros) lawful) (counted ∙ ap (pages (processes m)) (sym zeros)) room last in
        record { sound = stays; tie = sound-tied S n stays; ledger = ledger_there ∙ (now ∙ ap step (ledger_before stay)) }

    -- THE STEP: .. from any bytes. So it is with each call that moves no byte: removals, rights and loans.
    pub step_there : ((B : SeatBytes) → ledger_of E I B ≡ step (ledger_of (entries (processes m) m.ram) (infos m.owners) B))
        → IsStep S m n step
    unfolding blank_ledger
    step_there each = step_from (each no_bytes) (each (bytes_at n.ram (S.held m.store)))
