-- A machine whose pages were brought in, and its state in a sheet.
use Rattle.std.proofs.Common.{◌≡◌, ℕ, ◌+◌, ◌*◌, ◌≤◌, List, [], ◌++◌, drop, length, refl, sym, ap, subst, ◌∙◌, append_assoc, arith}
use Rattle.boot_plan.specs.Capacity.{capacity}
use Rattle.ledger_model.specs.Ledger.{Ledger}
use Rattle.machine_model.specs.Runs.Isolation.{without_bytes}
use Rattle.machine_model.specs.Runs.Matched.{Matched}
use Rattle.machine_model.specs.State.Machine.{Machine}
use Rattle.suspend_image.specs.Sheets.{SheetBytes, appended, begun, room_for, with_bytes}
use Rattle.suspend_image.specs.Spelling.{rows_bytes, with_header}
use Rattle.suspend_image.specs.StateBytes.{saved_bytes, saved_parts}
use Rattle.sv32_space.specs.Tie.{Held}
use Rattle.vm_memory.specs.Bytes.{MeansBytes}
use Rattle.vm_memory.specs.Memory.{Size, capacity_of, ledger, processes}
use Rattle.vm_memory.specs.Sound.{IsSound}
use Rattle.vm_memory.specs.declared.memory.Memory.{Memory}
use Rattle.xk_ports.specs.declared.store.SwapStore.{Ghosts as SwapStore}
use Rattle.xk_parts.specs.Comes.{ComesTo}
use Rattle.save_path.proofs.AlikeLemmas.{matched_bare}
use Rattle.save_path.proofs.EntryLemmas.{homes_spelled, orphans_spelled}
use Rattle.save_path.proofs.FrontLemmas.{Given, given_machine}
use Rattle.save_path.specs.Rows.{text_bytes}
use Rattle.save_path.specs.Saved.{saved_machine}
use Rattle.save_path.specs.Written.{Appends, BringsPages, Fits, IsSaved, WritesPages, front_parts}

-- ---- the machine

abbrev pub on_ledger : Ledger → Machine → Machine
on_ledger l m = record m { ledger = l }

-- with another memory
abbrev pub with_memory : {W : Type 0} → Memory W → Given W → Given W
with_memory mem k = record k { mem = mem }

module _ {W : Type 0} (S : SwapStore W)
    (k : Given W) (mem : Memory W) (x : BringsPages S k.mem mem) where
  pub machine_brought : given_machine S.held (with_memory mem k) ≡ on_ledger (ledger S.held mem) (given_machine S.held k)
  unfolding saved_machine
  machine_brought =
      let room : capacity_of mem ≡ capacity_of k.mem = ap (λ (s : Size). capacity s.area.frames s.procs s.slots) x.size in
      let procs : processes mem ≡ processes k.mem = ap (λ (s : Size). s.procs) x.size in
      λ i. record (given_machine S.held k) { capacity = room i; processes = procs i; ledger = ledger S.held mem }

  matched_over : Matched (given_machine S.held k) → Matched (on_ledger (ledger S.held mem) (given_machine S.held k))
  unfolding saved_machine
  matched_over h = matched_bare (given_machine S.held k) (ledger S.held mem) x.rights h

  pub matched_brought : Matched (given_machine S.held k) → Matched (given_machine S.held (with_memory mem k))
  matched_brought h = subst (λ (m : Machine). Matched m) (sym machine_brought) (matched_over h)

  bare_brought : without_bytes (on_ledger (ledger S.held mem) (given_machine S.held k)) ≡ without_bytes (given_machine S.held k)
  unfolding saved_machine
  bare_brought = λ i. record (given_machine S.held k) { ledger = x.rights i }

  ledger_brought : MeansBytes S k.mem → on_ledger (ledger S.held mem) (given_machine S.held k) ≡ given_machine S.held k
  unfolding saved_machine
  ledger_brought known = λ i. record (given_machine S.held k) { ledger = x.whole known i }

  pub comes_brought : ComesTo (MeansBytes S k.mem) (given_machine S.held (with_memory mem k)) (given_machine S.held k)
  comes_brought = record { alike = ap without_bytes machine_brought ∙ bare_brought; whole = λ known. machine_brought ∙ ledger_brought known }

  front_on_ledger : front_parts (on_ledger (ledger S.held mem) (given_machine S.held k)) ≡ front_parts (given_machine S.held k)
  unfolding front_parts
  front_on_ledger = refl

  pub front_brought : (a b : SheetBytes) (most : ℕ) → Appends a b (front_parts (given_machine S.held k)) most
      → Appends a b (front_parts (given_machine S.held (with_memory mem k))) most
  front_brought a b most appends =
      subst (λ (bytes : List ℕ). Appends a b bytes most) (sym (ap front_parts machine_brought ∙ front_on_ledger)) appends

pub pages_given : {W : Type 0} {known : Type 0} (held : W → Held) (k : Given W) (s t : SheetBytes)
    → WritesPages known (processes k.mem) (ledger held k.mem) s t
    → WritesPages known (given_machine held k).processes (given_machine held k).ledger s t
unfolding saved_machine
pages_given held k s t pages = pages

-- ---- room

-- a memory is of few processes and pages
pub few_pages : {W : Type 0} (S : SwapStore W) (mem : Memory W) → IsSound S.slot_count mem → capacity_of mem ≤ 32768
few_pages S mem sound =
    let frames = sound.placed.few in
    let slots = sound.few_slots in
    let same = sound.slots in
    omega arith

pub front_fits : (n cap : ℕ) (old sheet : SheetBytes) → n ≤ 64 → cap ≤ 32768 → room_for n cap ≤ old.room → sheet ≡ with_bytes (begun []) old
    → Fits sheet ((363208 + 4604 * n) + (8 + 4124 * (cap + 3)))
front_fits n cap old sheet few pages room is =
    let size : length sheet.bytes ≡ 16 = ap (λ (s : SheetBytes). length s.bytes) is in
    let wide : sheet.room ≡ old.room = ap (λ (s : SheetBytes). s.room) is in
    record { room = omega arith; few = omega arith }

-- ---- the sheet

-- what stands in it before its header is finished
module _ {known : Type 0} (m : Machine) (old begin front pages : SheetBytes) (most : ℕ) (is : begin ≡ with_bytes (begun []) old)
    (x : Appends begin front (front_parts m) most) (y : WritesPages known m.processes m.ledger front pages) where
  abbrev parts : List ℕ
  parts = front_parts m ++ (rows_bytes text_bytes y.homes ++ rows_bytes text_bytes y.orphans)

  bytes_begun : pages.bytes ≡ begun parts
  bytes_begun =
      ap (λ (s : SheetBytes). s.bytes) y.is
      ∙ ap (λ (s : SheetBytes). s.bytes ++ (rows_bytes text_bytes y.homes ++ rows_bytes text_bytes y.orphans)) (x.is
      ∙ ap (λ (s : SheetBytes). appended (front_parts m) s) is)

  pub sheet_begun : pages.bytes ≡ begun (drop 16 pages.bytes)
  sheet_begun = bytes_begun ∙ ap (λ (bytes : List ℕ). begun (drop 16 bytes)) (sym bytes_begun)

  room_same : pages.room ≡ old.room
  room_same = ap (λ (s : SheetBytes). s.room) y.is ∙ ap (λ (s : SheetBytes). s.room) x.is ∙ ap (λ (s : SheetBytes). s.room) is

  module _ (new : SheetBytes) (end : new ≡ with_bytes (with_header (drop 16 pages.bytes)) pages) where
    finished : new.bytes ≡ with_header parts
    finished = ap (λ (s : SheetBytes). s.bytes) end ∙ ap (λ (bytes : List ℕ). with_header (drop 16 bytes)) bytes_begun

    pub room_finished : new.room ≡ old.room
    room_finished = ap (λ (s : SheetBytes). s.room) end ∙ room_same

    pub sheet_saved : IsSaved known m new.bytes
    sheet_saved = record {
      homes = y.homes;
      orphans = y.orphans;
      is = finished;
      homes_alike = y.homes_alike;
      orphans_alike = y.orphans_alike;
      homes_told = y.homes_told;
      orphans_told = y.orphans_told;
    }

    spelled : known → with_header parts ≡ saved_bytes m
    unfolding saved_bytes saved_parts front_parts
    spelled is_known =
        ap with_header (
        ap (λ (bytes : List ℕ). front_parts m ++ bytes)
        ((λ i. rows_bytes text_bytes (y.homes_told is_known i) ++ rows_bytes text_bytes (y.orphans_told is_known i))
        ∙ (λ i. homes_spelled m i ++ orphans_spelled m i))
        ∙ simp append_assoc
        )

    pub sheet_is : known → new ≡ with_bytes (saved_bytes m) old
    sheet_is is_known =
        let bytes : new.bytes ≡ saved_bytes m = finished ∙ spelled is_known in
        λ i. record { bytes = bytes i; room = room_finished i }
