-- What a change of pages keeps of a memory, and what an entry says of a page without a loan.
use Rattle.std.specs.Prelude.{◌≡◌, ℕ, ◌+◌, Option, Some, None}
use Rattle.xk_base.specs.declared.ids.Slot.{Slot as SlotNumber}
use Rattle.phys_pages.specs.declared.infos.Seat.{Seat}
use Rattle.phys_pages.specs.declared.infos.Seat.TheVariants.{Slot}
use Rattle.phys_pages.specs.Owners.{OwnerTable, extent, infos, frame_seat, HasSeat}
use Rattle.sv32_space.specs.declared.sides.Side.{Side}
use Rattle.sv32_space.specs.declared.sides.Side.TheVariants.{Own, LentOut, LentIn, MutOut, MutIn}
use Rattle.xk_base.specs.declared.pages.Right.{Right}
use Rattle.sv32_space.specs.declared.sides.Entry.{Entry}
use Rattle.sv32_space.specs.declared.sides.Entry.TheVariants.{Free, At, OnConsole}
use Rattle.vm_memory.specs.declared.memory.Memory.{Memory}
use Rattle.vm_memory.specs.declared.memory.changes.Owned.{Owned}
use Rattle.vm_memory.specs.declared.memory.changes.Owned.TheVariants.{Nothing, Page, Console}
use Rattle.vm_memory.specs.Memory.{size}

-- a change of pages alone: how large the memory is, its store, and whether a call has failed stay, and no page goes out
pub record ChangesPagesAlone {W : Type 0} (old new : Memory W) : Type 0 where
  pub size : size new ≡ size old
  pub store : new.store ≡ old.store
  pub failed : new.failed ≡ old.failed
  -- a slot without a page has none afterwards
  pub slots : (s : SlotNumber) → infos old.owners (Slot s) ≡ None → infos new.owners (Slot s) ≡ None

-- a seat without a page has none afterwards: no page goes out, and none comes in
abbrev pub TakesNoSeat : {W : Type 0} → Memory W → Memory W → Type 0
TakesNoSeat old new = (s : Seat) → infos old.owners s ≡ None → infos new.owners s ≡ None

-- a frame of the table in which no page stands
pub record IsFreeFrame (owners : OwnerTable) (f : ℕ) : Type 0 where
  pub within : HasSeat (extent owners) (frame_seat f)
  pub free : infos owners (frame_seat f) ≡ None

-- where the frame before that at hand is free, it is this one
abbrev pub IsFrameAtHand : {W : Type 0} → Memory W → ℕ → Type 0
IsFrameAtHand m f = (g : ℕ) → m.hand ≡ g + 1 → IsFreeFrame m.owners g → g ≡ f

-- the right of a page's owner, where the page isn't on loan
abbrev pub own_right : Side → Option Right
own_right (Own right) = Some right
own_right (LentOut right) = None
own_right LentIn = None
own_right (MutOut x) = None
own_right MutIn = None

abbrev pub owned_page : Option Right → Seat → Owned
owned_page None seat = Nothing
owned_page (Some right) seat = Page right seat

-- the page of its process's own that an entry names, if it isn't on loan
abbrev pub owned_in : Option Entry → Owned
owned_in None = Nothing
owned_in (Some Free) = Nothing
owned_in (Some (At side seat)) = owned_page (own_right side) seat
owned_in (Some (OnConsole w)) = Console w
