-- What a memory shows: the ledger that its bytes make, how large it is, and its store.
use Rattle.std.specs.Prelude.{◌≡◌, ℕ, Bool, false}
use Rattle.boot_plan.specs.Capacity.{page_frames, capacity}
use Rattle.phys_pages.specs.Owners.{extent, infos}
use Rattle.phys_pages.specs.Ram.{RamBytes, Area, area}
use Rattle.ledger_model.specs.Ledger.{Ledger}
use Rattle.ledger_model.specs.Steps.{zero_page}
use Rattle.sv32_space.specs.Agreement.{procs_of}
use Rattle.sv32_space.specs.EntryLedger.{ledger_of}
use Rattle.sv32_space.specs.SpelledEntries.{entries}
use Rattle.sv32_space.specs.Tie.{Held, ledger_in}
use Rattle.vm_memory.specs.declared.memory.Memory.{Memory}

-- how large a memory is, from boot on: the processes that it was made for, where its RAM lies, and the slots that it uses
pub record Size : Type 0 where
  pub procs : ℕ
  pub area : Area
  pub slots : ℕ

abbrev pub size : {W : Type 0} → Memory W → Size
size m = record { procs = procs_of (extent m.owners); area = area m.ram; slots = (extent m.owners).slots }

-- how many processes it was made for: their pids are 2 to processes + 1
abbrev pub processes : {W : Type 0} → Memory W → ℕ
processes m = procs_of (extent m.owners)

-- how many pages stand in frames at most, and how many there may be in all
abbrev pub frames_for_pages : {W : Type 0} → Memory W → ℕ
frames_for_pages m = page_frames (area m.ram).frames (processes m)

abbrev pub capacity_of : {W : Type 0} → Memory W → ℕ
capacity_of m = capacity (area m.ram).frames (processes m) (extent m.owners).slots

-- what room there is for pages: how many processes may have them, and how many there may be in all
pub record Room : Type 0 where
  pub procs : ℕ
  pub capacity : ℕ

abbrev pub room_in : {W : Type 0} → Memory W → Room
room_in m = record { procs = processes m; capacity = capacity_of m }

-- the RAM whose bytes the tie speaks of, and the store
abbrev pub ram_of : {W : Type 0} → Memory W → RamBytes
ram_of m = m.ram

abbrev pub store_of : {W : Type 0} → Memory W → W
store_of m = m.store

-- a call has answered Failed
abbrev pub has_failed : {W : Type 0} → Memory W → Bool
has_failed m = m.failed

abbrev pub IsUsable : {W : Type 0} → Memory W → Type 0
IsUsable m = m.failed ≡ false

-- THE LEDGER: what entries, owners, and the bytes of frames and slots make. Where the store doesn't tell what its slots
-- hold, zeros stand for them.
unfoldable pub ledger : {W : Type 0} → (W → Held) → Memory W → Ledger
ledger held m = ledger_in m.ram m.owners (held m.store)

-- its pages and loans without their bytes: zeros stand in each page
unfoldable pub blank_ledger : {W : Type 0} → Memory W → Ledger
blank_ledger m = ledger_of (entries (processes m) m.ram) (infos m.owners) (λ s. zero_page)
