-- The pages of a process, as they are placed one after the other, and the frames that they come to.
use Rattle.xk_ports.specs.declared.store.SwapStore.{Ghosts as SwapStore}
use Rattle.xk_base.specs.Tables.Circle.{is_pid}
use Rattle.std.proofs.Common.{◌≡◌, ◌≢◌, ℕ, ◌+◌, ◌*◌, ◌<◌, ◌≤◌, Bool, true, List, take, length, get_or, Some, None, refl, sym, ap, subst, ◌∙◌, arith, inl, inr, length-take}
use Rattle.std.specs.Prelude.{All, AllPairs, is_some, Err, Ok, OnOk, Result}
use Rattle.std.proofs.lemmas.Bool.{and_from, cases_lt}
use Rattle.std.proofs.lemmas.List.{take_more, take_all, get_or-take, get_or_default}
use Rattle.xk_base.specs.Tables.Counting.{put_at}
use Rattle.xk_base.specs.declared.ids.Frame.{Frame as FrameNumber}
use Rattle.xk_base.specs.declared.ids.Pid.{Pid}
use Rattle.xk_base.specs.declared.ids.Place.{Place}
use Rattle.xk_base.specs.Numbers.Windows.{window_at}
use Rattle.boot_plan.specs.Capacity.{capacity}
use Rattle.boot_plan.specs.Lawful.{IsLawfulPage}
use Rattle.boot_plan.specs.declared.plans.PagePlan.{PagePlan}
use Rattle.phys_pages.specs.declared.infos.PageInfo.{PageInfo}
use Rattle.phys_pages.specs.declared.infos.Seat.{Seat}
use Rattle.phys_pages.specs.declared.infos.Seat.TheVariants.{Frame, Slot}
use Rattle.phys_pages.specs.Owners.{extent, infos, frame_seat, seat_eq}
use Rattle.phys_pages.specs.Ram.{area}
use Rattle.ledger_model.specs.Ledger.{Ledger}
use Rattle.ledger_model.specs.Places.{is_user_place}
use Rattle.ledger_model.specs.Reach.{is_free}
use Rattle.ledger_model.proofs.Pages.BareLemmas.{bare-free}
use Rattle.sv32_space.specs.PageSteps.{place_page}
use Rattle.sv32_space.specs.Tie.{Held}
use Rattle.sv32_space.proofs.Ledgers.PageLedgerLemmas.{seat_kept}
use Rattle.vm_memory.specs.declared.memory.Memory.{Memory}
use Rattle.vm_memory.specs.Pages.Changing.{IsFreeFrame, ChangesPagesAlone}
use Rattle.vm_memory.specs.Bytes.{pages_out, used_frames, used_slots}
use Rattle.vm_memory.specs.FirstLedger.{first_page}
use Rattle.vm_memory.specs.Memory.{IsUsable, Size, size, processes, capacity_of, frames_for_pages, ledger}
use Rattle.vm_memory.specs.Sound.{IsSound}
use Rattle.vm_memory.specs.Starting.{AreFreeFrom, FillsFirstFrames, FillsInOrder, HasNoPage, IsUnlent, KeepsUnlent, PlacesPages, place_pages}
use Rattle.vm_memory.proofs.Booting.FirstPageLemmas.{free_there, pages_home_else, pages_more, pages_unlent}
use Rattle.vm_memory.proofs.Booting.PlacingLemmas.{kept_placed, place_bare, placed_none, placed_then}
use Rattle.vm_memory.proofs.Changing.CallLemmas.{alone-none_out, none_used}
use Rattle.vm_memory.proofs.Changing.CountLemmas.{frames_few}

-- a sound memory's table has so many frames, from so many on
pub record HasTable {W : Type 0} (m : Memory W) : Type 0 where
  pub first : (extent m.owners).first ≡ 21 * processes m
  pub frames : (extent m.owners).frames + 21 * processes m ≡ (area m.ram).frames
  pub room : frames_for_pages m + 1 ≡ (extent m.owners).frames

pub table_of : {W : Type 0} (slot_count : W → ℕ) (m : Memory W) → IsSound slot_count m → HasTable m
table_of slot_count m sound = record {
  first = sound.agree.first;
  frames = omega (arith, sound.agree.first, sound.agree.last);
  room = omega (arith, sound.agree.first, sound.agree.last, sound.tables);
}

-- memories of one size have one table
pub same_table : {W : Type 0} (slot_count : W → ℕ) (m n : Memory W) → IsSound slot_count m → IsSound slot_count n → size n ≡ size m
    → ((extent n.owners).first ≡ (extent m.owners).first) × ((extent n.owners).frames ≡ (extent m.owners).frames)
same_table slot_count m n a b same =
    let t : HasTable m = table_of slot_count m a in
    let u : HasTable n = table_of slot_count n b in
    let procs : processes n ≡ processes m = ap (λ (s : Size). s.procs) same in
    let frames : (area n.ram).frames ≡ (area m.ram).frames = ap (λ (s : Size). s.area.frames) same in
    (omega (arith, t.first, u.first), omega (arith, t.frames, u.frames))

pub same_frames : {W : Type 0} (slot_count : W → ℕ) (m n : Memory W) → IsSound slot_count m → IsSound slot_count n → size n ≡ size m → frames_for_pages n ≡ frames_for_pages m
same_frames slot_count m n a b same =
    let t : HasTable m = table_of slot_count m a in
    let u : HasTable n = table_of slot_count n b in
    let s : ((extent n.owners).first ≡ (extent m.owners).first) × ((extent n.owners).frames ≡ (extent m.owners).frames) = same_table slot_count m n a b same in
    omega (arith, t.room, u.room, s.1)

abbrev seat_number : Seat → ℕ
seat_number (Frame g) = g.0
seat_number (Slot s) = 0

-- ---- the first frames

module _ {W : Type 0} (slot_count : W → ℕ) (m : Memory W) (sound : IsSound slot_count m) (f : ℕ) (is : f ≡ 21 * m.procs + m.pages) where
  table : HasTable m
  table = table_of slot_count m sound

  -- the next one is free while there are frames for one page more
  pub next_frame : FillsInOrder m → m.pages < frames_for_pages m → IsFreeFrame m.owners f
  next_frame order left =
      let there : f ≡ (extent m.owners).first + m.pages = omega (arith, is, table.first, sound.procs) in
      record {
        within = (omega arith, omega (arith, table.room));
        free = ap (λ n. infos m.owners (frame_seat n)) there ∙ (order.first (omega (arith, left))).free m.pages (omega arith) (omega (arith, table.room));
      }

  -- .. and a page that comes there leaves those behind it free
  pub filled_next : (n : Memory W) (number : FrameNumber) → number.0 ≡ f → (info : PageInfo) → FillsInOrder m → m.pages < frames_for_pages m → IsSound slot_count n
      → infos n.owners ≡ put_at seat_eq (infos m.owners) (Frame number) (Some info) → n.pages ≡ m.pages + 1 → ChangesPagesAlone m n → FillsInOrder n
  filled_next n number named info order left new_sound owned counted rest = record {
    first = λ few. record { none = alone-none_out m n rest before.none; free = free_behind };
    past = λ over. absurd (omega (arith, over, counted, left, same_frames slot_count m n sound new_sound rest.size));
  }
    where
      before : FillsFirstFrames m
      before = order.first (omega (arith, left))

      tables : ((extent n.owners).first ≡ (extent m.owners).first) × ((extent n.owners).frames ≡ (extent m.owners).frames)
      tables = same_table slot_count m n sound new_sound rest.size

      free_behind : AreFreeFrom n.owners n.pages
      free_behind j high inside =
          let first : (extent n.owners).first + j ≡ (extent m.owners).first + j = omega (arith, tables.0) in
          let apart : frame_seat ((extent m.owners).first + j) ≢ Frame number =
          λ same. let there : (extent m.owners).first + j ≡ number.0 = ap seat_number same in omega (arith, there, is, named, table.first, sound.procs, counted) in
          ap (λ k. infos n.owners (frame_seat k)) first
          ∙ ap (λ I. I (frame_seat ((extent m.owners).first + j))) owned
          ∙ seat_kept (infos m.owners) (Frame number) (frame_seat ((extent m.owners).first + j)) (Some info) apart
          ∙ before.free j (omega (arith, counted)) (omega (arith, tables.1))

-- ---- the last free frame

-- where there are as many pages as frames for them, or more, one frame alone is free
pub last_left : {W : Type 0} (slot_count : W → ℕ) (m : Memory W) → IsSound slot_count m → FillsInOrder m → frames_for_pages m ≤ m.pages
    → used_frames m.owners ≡ frames_for_pages m
last_left slot_count m sound order past = elim (cases_lt (frames_for_pages m) m.pages) [
  | inl over ↦ order.past over
  | inr all ↦
      let none : used_slots m.owners ≡ 0 = none_used m (order.first all).none in
      omega (arith, none, sound.seats, all, past)
]

-- a page that comes there leaves none free
pub last_filled : {W : Type 0} (slot_count : W → ℕ) (m n : Memory W) → IsSound slot_count m → IsSound slot_count n → size n ≡ size m
    → pages_out n ≤ pages_out m → n.pages ≡ m.pages + 1 → used_frames m.owners ≡ frames_for_pages m → (extent n.owners).frames ≤ used_frames n.owners
last_filled slot_count m n sound new_sound same few counted last =
    let t : HasTable n = table_of slot_count n new_sound in
    omega (arith, sound.seats, new_sound.seats, few, counted, last, t.room, same_frames slot_count m n sound new_sound same)

-- .. and a page that goes out then leaves one
pub last_again : {W : Type 0} (slot_count : W → ℕ) (n k : Memory W) → IsSound slot_count n → IsSound slot_count k → size k ≡ size n
    → (extent n.owners).frames ≤ used_frames n.owners → k.pages ≡ n.pages → pages_out k ≡ pages_out n + 1 → used_frames k.owners ≡ frames_for_pages k
last_again slot_count n k sound new_sound same full counted out =
    let t : HasTable n = table_of slot_count n sound in
    omega (arith, sound.seats, new_sound.seats, full, frames_few n.owners, counted, out, t.room, same_frames slot_count n k sound new_sound same)

pub filled_past : {W : Type 0} (slot_count : W → ℕ) (m n : Memory W) → IsSound slot_count m → IsSound slot_count n → size n ≡ size m
    → frames_for_pages m ≤ m.pages → n.pages ≡ m.pages + 1 → used_frames n.owners ≡ frames_for_pages n → FillsInOrder n
filled_past slot_count m n sound new_sound same past counted last = record {
  first = λ few. absurd (omega (arith, past, counted, few, same_frames slot_count m n sound new_sound same));
  past = λ over. last;
}

-- what follows from what is said of an answer
pub on_ok_then : {A E : Type 0} (r : Result A E) (P Q : Type 0) → OnOk r P → (P → Q) → OnOk r Q
on_ok_then (Ok x) P Q p f = f p
on_ok_then (Err e) P Q p f = tt

-- ---- the pages of a process

module _ {W : Type 0} (S : SwapStore W) (file : List ℕ) (pid : Pid) (plan : List PagePlan) where
  -- the first k pages are placed
  pub record ArePlaced (k : ℕ) (old now : Memory W) : Type 0 where
    pub placed : PlacesPages S old now k (place_pages file pid (take k plan))
    pub order : FillsInOrder now
    pub usable : IsUsable now

  module _ (old : Memory W) (sound : IsSound S.slot_count old) (process : is_pid (processes old) pid.0 ≡ true) (unlent : IsUnlent (ledger S.held old))
      (none : HasNoPage pid.0 (ledger S.held old)) (room : old.pages + length plan ≤ capacity_of old) (lawful : All (IsLawfulPage (length file)) plan)
      (different : AllPairs (λ (a b : PagePlan). a.vpn.0 ≢ b.vpn.0) plan) where
    pub nothing_placed : FillsInOrder old → IsUsable old → ArePlaced 0 old old
    nothing_placed order usable = record { placed = placed_none S old sound; order = order; usable = usable }

    module _ (now : Memory W) (k : ℕ) (low : k < length plan) (d : PagePlan) (h : ArePlaced k old now) where
      abbrev page : PagePlan
      page = get_or plan k d

      abbrev at : Place
      at = record { pid = pid; vpn = page.vpn }

      abbrev so_far : Ledger
      so_far = place_pages file pid (take k plan) (ledger S.held old)

      page_lawful : IsLawfulPage (length file) page
      page_lawful = lawful k d low

      same_procs : processes now ≡ processes old
      same_procs = ap (λ (s : Size). s.procs) h.placed.size

      pub next_lies : is_user_place (processes now) at ≡ true
      next_lies = and_from (is_pid (processes now) pid.0) (is_some (window_at page.vpn.0))
          (subst (λ n. is_pid n pid.0 ≡ true) (sym same_procs) process) page_lawful.in_window

      taken_size : length (take k plan) ≡ k
      taken_size = simp length-take (omega arith)

      no_home : so_far.home at ≡ None
      no_home = pages_home_else file pid (take k plan) (ledger S.held old) at
          (λ i e high. let before : i < k = omega (arith, taken_size) in
          subst (λ (p : PagePlan). p.vpn.0 ≢ page.vpn.0) (sym (get_or-take k plan i e before)) (λ same. different i k d before low (ap_default i e same before)))
          ∙ none at refl
        where
          ap_default : (i : ℕ) (e : PagePlan) → (get_or plan i e).vpn.0 ≡ page.vpn.0 → i < k → (get_or plan i d).vpn.0 ≡ page.vpn.0
          ap_default i e same before = ap (λ (p : PagePlan). p.vpn.0) (get_or_default plan i d e (omega arith)) ∙ same

      pub next_free : is_free (processes now) (ledger S.held now) at ≡ true
      next_free = bare-free (processes now) so_far (ledger S.held now) at h.placed.rights
          ∙ free_there (processes now) so_far at (pages_unlent file pid (take k plan) (ledger S.held old) unlent) no_home

      pub next_room : now.pages + 1 ≤ capacity_of now
      next_room =
          let same : capacity_of now ≡ capacity_of old = ap (λ (s : Size). capacity s.area.frames s.procs s.slots) h.placed.size in
          omega (arith, h.placed.pages, same, room)

      pub next_page : IsLawfulPage (length file) page
      next_page = page_lawful

      -- .. and the next
      pub next_placed : (new : Memory W) → PlacesPages S now new 1 (place_page at (first_page file page))
          → PlacesPages S old new (k + 1) (place_pages file pid (take (k + 1) plan))
      next_placed new step = placed_then S old now new k 1 (k + 1)
          (place_pages file pid (take k plan)) (place_page at (first_page file page)) (place_pages file pid (take (k + 1) plan)) h.placed step
          (λ l x e. place_bare at (first_page file page) l x e) refl
          (λ l. sym (pages_more file pid (take k plan) page l) ∙ sym (ap (λ xs. place_pages file pid xs l) (take_more plan k d low)))

      pub kept_next : (new : Memory W) → PlacesPages S now new 1 (place_page at (first_page file page))
          → KeepsUnlent S old new
      kept_next new step = kept_placed S old new (k + 1) (place_pages file pid (take (k + 1) plan)) (next_placed new step)
          (pages_unlent file pid (take (k + 1) plan) (ledger S.held old) unlent)

      -- .. past the frames, where the store was asked
      pub next_full : frames_for_pages now ≤ now.pages → frames_for_pages old < old.pages + length plan
      next_full past = omega (arith, past, h.placed.pages, same_frames S.slot_count old now sound h.placed.sound h.placed.size)

    -- all of them
    pub all_placed : (now : Memory W) (k : ℕ) → k ≡ length plan → ArePlaced k old now
        → PlacesPages S old now (length plan) (place_pages file pid plan)
    all_placed now k all h = placed_as
      where
        xs : take k plan ≡ plan
        xs = take_all k plan (omega (arith, all))

        placed_as : PlacesPages S old now (length plan) (place_pages file pid plan)
        placed_as = subst (λ (i : ℕ). PlacesPages S old now i (place_pages file pid plan)) all
            (subst (λ (ys : List PagePlan). PlacesPages S old now k (place_pages file pid ys)) xs h.placed)

    pub kept_all : (now : Memory W) (k : ℕ) → ArePlaced k old now → KeepsUnlent S old now
    kept_all now k h = kept_placed S old now k (place_pages file pid (take k plan)) h.placed
        (pages_unlent file pid (take k plan) (ledger S.held old) unlent)
