-- A page moves from one seat to another: between a frame of RAM and a slot of the swap store.
use Rattle.std.specs.Prelude.{◌≡◌, ℕ, ◌≤◌, IsTrue, Option, Some, None}
use Rattle.xk_base.specs.Numbers.Limits.{table_frames}
use Rattle.xk_base.specs.Tables.Circle.{is_pid}
use Rattle.xk_base.specs.declared.ids.Place.{Place}
use Rattle.phys_pages.specs.Owners.{extent, infos}
use Rattle.phys_pages.specs.Ram.{RamBytes, area, pages}
use Rattle.phys_pages.specs.declared.infos.LoanInfo.{LoanInfo}
use Rattle.phys_pages.specs.declared.infos.Seat.{Seat}
use Rattle.sv32_space.specs.PageChanges.{renamed, with_entry, with_info}
use Rattle.sv32_space.specs.Spaces.{IsMade}
use Rattle.sv32_space.specs.SpelledEntries.{entries}
use Rattle.sv32_space.specs.declared.sides.Entry.TheVariants.{At}
use Rattle.sv32_space.specs.declared.sides.Side.{Side}
use Rattle.loan_flags.specs.Keeping.{Tables, entries_of}

-- The page of the one seat is at the other.
pub record Moves (old new : Tables) (from to : Seat) : Type 0 where
  -- the entries that named the one, those of its home and of its loan's holder, name the other with the same sides
  pub entries : entries_of new ≡ renamed from to (entries_of old)
  -- what was said of the one is said of the other, and the one is free
  pub infos : infos new.owners ≡ with_info (with_info (infos old.owners) from None) to (infos old.owners from)

-- No page moves.
pub record StaysPut (old new : Tables) : Type 0 where
  pub entries : entries_of new ≡ entries_of old
  pub infos : infos new.owners ≡ infos old.owners

-- RAM stays where it is, and the table has the seats that it had.
pub record KeepsSizes (old new : Tables) : Type 0 where
  pub area : area new.ram ≡ area old.ram
  pub extent : extent new.owners ≡ extent old.owners

-- where the holder of a loan has its page
abbrev pub holder_place : LoanInfo → Place
holder_place loan = loan.holder

-- The entry of a place, if there is one, names the seat, with the side that it had. All other entries stay, and the frames
-- that aren't of tables keep their bytes.
pub record Reseats (old new : RamBytes) (at : Option Place) (to : Seat) : Type 0 where
  pub entry : (procs : ℕ) (p : Place) (side : Side) (from : Seat) → at ≡ Some p → IsTrue (is_pid procs p.pid.0)
      → entries procs old p ≡ Some (At side from) → entries procs new ≡ with_entry (entries procs old) p (At side to)
  pub none : at ≡ None → new ≡ old
  pub made : (pid : ℕ) → IsMade old pid → IsMade new pid
  pub pages : (procs f : ℕ) → ((p : Place) → at ≡ Some p → IsTrue (is_pid procs p.pid.0)) → table_frames procs ≤ f
      → pages new f ≡ pages old f
  pub area : area new ≡ area old
