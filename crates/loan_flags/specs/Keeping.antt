-- What each call keeps, and the entries that entries and owners of RAM stand for.
use Rattle.std.specs.Prelude.{◌≡◌, ℕ, ◌≤◌, None}
use Rattle.xk_base.specs.Numbers.Limits.{table_frames}
use Rattle.phys_pages.specs.Owners.{OwnerTable, extent, infos}
use Rattle.phys_pages.specs.Ram.{RamBytes, area, pages}
use Rattle.phys_pages.specs.declared.infos.Seat.{Seat}
use Rattle.ledger_model.specs.Ledger.{Ledger}
use Rattle.sv32_space.specs.Agreement.{procs_of}
use Rattle.sv32_space.specs.Entries.{Entries}
use Rattle.sv32_space.specs.EntryLedger.{SeatBytes, ledger_of}
use Rattle.sv32_space.specs.SpelledEntries.{entries}

-- RAM and the owner table, as a call finds or leaves them
pub record Tables : Type 0 where
  pub ram : RamBytes
  pub owners : OwnerTable

abbrev pub tables : RamBytes → OwnerTable → Tables
tables ram owners = record { ram = ram; owners = owners }

-- how many processes they are for
abbrev pub processes : Tables → ℕ
processes t = procs_of (extent t.owners)

abbrev pub entries_of : Tables → Entries
entries_of t = entries (processes t) t.ram

-- the ledger that they make, for these bytes of the seats
abbrev pub ledger_by : Tables → SeatBytes → Ledger
ledger_by t B = ledger_of (entries_of t) (infos t.owners) B

-- The frames outside the page tables keep their bytes, and the sizes stay. Seats that were free are.
pub record KeepsPages (old new : Tables) : Type 0 where
  pub area : area new.ram ≡ area old.ram
  pub extent : extent new.owners ≡ extent old.owners
  pub pages : (f : ℕ) → table_frames (processes old) ≤ f → pages new.ram f ≡ pages old.ram f
  pub free : (s : Seat) → infos old.owners s ≡ None → infos new.owners s ≡ None

-- The ledger becomes that after the step, whatever bytes the seats hold.
abbrev pub IsLedgerStep : (Ledger → Ledger) → Tables → Tables → Type 0
IsLedgerStep step old new = (B : SeatBytes) → ledger_by new B ≡ step (ledger_by old B)
