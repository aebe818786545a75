-- The bytes of RAM and the owner table: whether they agree, the ledger that they make, and which ledger they stand for.
use Rattle.std.specs.Prelude.{ℕ, List, Option, unwrap_or}
use Rattle.xk_base.specs.declared.ids.Place.{Place}
use Rattle.phys_pages.specs.Owners.{OwnerTable, extent, infos}
use Rattle.phys_pages.specs.Ram.{RamBytes, area, pages}
use Rattle.phys_pages.specs.declared.infos.Seat.{Seat}
use Rattle.phys_pages.specs.declared.infos.Seat.TheVariants.{Frame, Slot}
use Rattle.ledger_model.specs.Ledger.{Ledger}
use Rattle.ledger_model.specs.Steps.{zero_page}
use Rattle.sv32_space.specs.Agreement.{Agrees, procs_of}
use Rattle.sv32_space.specs.EntryLedger.{SeatBytes, ledger_of}
use Rattle.sv32_space.specs.Spaces.{IsMade}
use Rattle.sv32_space.specs.SpelledEntries.{entries}
use Rattle.sv32_space.specs.StandsFor.{Shown, StandsAt, StandsFor, told_slot, told_bytes}

-- The entries in RAM agree with the owners.
abbrev pub agrees : RamBytes → OwnerTable → Type 0
agrees ram owners = Agrees (IsMade ram) (area ram).frames (entries (procs_of (extent owners)) ram) (extent owners) (infos owners)

-- what each slot of the swap store holds, where it is told
abbrev pub Held : Type 0
Held = Option (ℕ → List ℕ)

-- the bytes of a slot; where the store doesn't tell a page, zeros stand for them
abbrev pub slot_bytes : Held → ℕ → List ℕ
slot_bytes held s = unwrap_or (told_slot held s) zero_page

-- what the page at each seat holds
abbrev pub bytes_at : RamBytes → Held → SeatBytes
bytes_at ram held (Frame f) = pages ram f.0
bytes_at ram held (Slot s) = slot_bytes held s.0

-- the ledger that entries, owners and the bytes of frames and slots make
abbrev pub ledger_in : RamBytes → OwnerTable → Held → Ledger
ledger_in ram owners held = ledger_of (entries (procs_of (extent owners)) ram) (infos owners) (bytes_at ram held)

-- what the bytes of RAM, with what the store's slots hold, show of the pages of `procs` processes
abbrev pub shown_in : RamBytes → ℕ → Held → Shown
shown_in ram procs held = record {
  procs = procs;
  frames = (area ram).frames;
  entries = entries procs ram;
  told = told_bytes (pages ram) held;
}

-- STANDS FOR: the bytes of RAM, with what the store's slots hold, stand for the ledger of `procs` processes.
abbrev pub stands_for : RamBytes → ℕ → Held → Ledger → Type 0
stands_for ram procs held ledger = StandsFor (IsMade ram) (shown_in ram procs held) ledger

-- .. but for the last sentence of part 5: no frame need be free
abbrev pub stands_without_room : RamBytes → ℕ → Held → Ledger → Type 0
stands_without_room ram procs held ledger = (seat : Place → Seat) × StandsAt (IsMade ram) (shown_in ram procs held) ledger seat
