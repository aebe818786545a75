-- The owner table as a finite map from a seat to whose page is there.
use Rattle.std.specs.Prelude.{◌≡◌, ℕ, ◌+◌, ◌-◌, ◌<◌, ◌≤◌, ◌==◌, Bool, true, false, nat_le, List, length, Option, None, is_some}
use Rattle.std.specs.Prelude.{if◌then◌else◌}
use Rattle.xk_base.specs.Tables.RowMap.{row_map}
use Rattle.phys_pages.specs.declared.infos.PageInfo.{PageInfo}
use Rattle.phys_pages.specs.declared.infos.Seat.{Seat}
use Rattle.phys_pages.specs.declared.infos.Seat.TheVariants.{Frame, Slot}

-- the table: what stands at the frames from the first on, and what stands at the slots
pub record OwnerTable : Type 0 where
  pub first : ℕ
  pub frames : List (Option PageInfo)
  pub slots : List (Option PageInfo)

-- which seats a table has: so many frames from the first on, and so many slots from 0 on
pub record Extent : Type 0 where
  pub first : ℕ
  pub frames : ℕ
  pub slots : ℕ

-- the seats of the table
unfoldable pub extent : OwnerTable → Extent
extent t = record { first = t.first; frames = length t.frames; slots = length t.slots }

-- the seat is one of the table
abbrev pub HasSeat : Extent → Seat → Type 0
HasSeat e (Frame f) = (e.first ≤ f.0) × (f.0 < e.first + e.frames)
HasSeat e (Slot s) = s.0 < e.slots

-- whose page is at each seat; none where the seat is free or not of the table
unfoldable pub infos : OwnerTable → Seat → Option PageInfo
infos t (Frame f) = if nat_le t.first f.0 then row_map t.frames (f.0 - t.first) else None
infos t (Slot s) = row_map t.slots s.0

-- all seats are free
abbrev pub no_infos : Seat → Option PageInfo
no_infos s = None

-- the test for one seat
abbrev pub seat_eq : Seat → Seat → Bool
seat_eq (Frame f) (Frame g) = f.0 == g.0
seat_eq (Frame f) (Slot s) = false
seat_eq (Slot s) (Frame f) = false
seat_eq (Slot s) (Slot r) = s.0 == r.0

-- a frame and a slot as seats, by their numbers
abbrev pub frame_seat : ℕ → Seat
frame_seat n = Frame (record { 0 = n })

abbrev pub slot_seat : ℕ → Seat
slot_seat n = Slot (record { 0 = n })

-- the seat is used
abbrev pub IsUsed : OwnerTable → Seat → Type 0
IsUsed t s = is_some (infos t s) ≡ true

-- the table's frames below n are used
abbrev pub AreFramesUsed : OwnerTable → ℕ → Type 0
AreFramesUsed t n = (k : ℕ) → (extent t).first ≤ k → k < n → IsUsed t (frame_seat k)

-- the slots below n are used
abbrev pub AreSlotsUsed : OwnerTable → ℕ → Type 0
AreSlotsUsed t n = (k : ℕ) → k < n → IsUsed t (slot_seat k)
