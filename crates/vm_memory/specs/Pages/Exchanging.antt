-- Pages that come in to frames and go out to slots.
use Rattle.std.specs.Prelude.{◌≡◌, ◌≤◌, Bool, true, IsTrue, Option, Some, None, if◌then◌else◌}
use Rattle.xk_base.specs.declared.ids.Frame.{Frame as FrameNumber}
use Rattle.xk_base.specs.declared.ids.Slot.{Slot as SlotNumber}
use Rattle.xk_base.specs.declared.pages.Access.{Access}
use Rattle.phys_pages.specs.declared.infos.Seat.{Seat}
use Rattle.phys_pages.specs.declared.infos.Seat.TheVariants.{Frame, Slot}
use Rattle.ledger_model.specs.Loans.{bare}
use Rattle.sv32_space.specs.EntryReach.{side_may}
use Rattle.sv32_space.specs.declared.sides.Entry.{Entry}
use Rattle.sv32_space.specs.declared.sides.Entry.TheVariants.{Free, At, OnConsole}
use Rattle.sv32_space.specs.declared.sides.Side.{Side}
use Rattle.xk_ports.specs.declared.store.SwapStore.{Ghosts as SwapStore}
use Rattle.xk_ports.specs.Keeping.{KeepsStore}
use Rattle.vm_memory.specs.declared.memory.Memory.{Memory}
use Rattle.vm_memory.specs.Bytes.{is_known, none_out, pages_out}
use Rattle.vm_memory.specs.Memory.{ledger, size, store_of}
use Rattle.vm_memory.specs.Sound.{IsSound}

-- Pages move between frames and slots, and nothing else changes, whatever the store answers or does.
pub record MovesPages {W : Type 0} (S : SwapStore W)
    (old new : Memory W) : Type 0 where
  pub sound : IsSound S.slot_count new
  -- rights and loans stay; bytes too, where the store is honest and tells
  pub rights : bare (ledger S.held new) ≡ bare (ledger S.held old)
  pub whole : IsTrue (is_known S old) → ledger S.held new ≡ ledger S.held old
  pub size : size new ≡ size old
  pub store : KeepsStore S (store_of old) (store_of new)

-- A page that is out may have come in, and another gone out in its place.
pub record BringsIn {W : Type 0} (S : SwapStore W)
    (old new : Memory W) : Type 0 where
  pub moves : MovesPages S old new
  -- no more pages are out: one goes out only in place of the one that comes in
  pub no_more : pages_out new ≤ pages_out old
  -- where no page was out, nothing changes
  pub none : none_out old ≡ true → new ≡ old

-- the entry has that side, of a page in a frame
pub record IsInFrame (entry : Option Entry) (side : Side) : Type 0 where
  pub frame : FrameNumber
  pub near : entry ≡ Some (At side (Frame frame))

-- the slot of the page that an access reaches and that is out
abbrev pub seat_slot : Bool → Seat → Option SlotNumber
seat_slot given (Frame f) = None
seat_slot given (Slot s) = if given then Some s else None

abbrev pub slot_reached : Option Entry → Access → Option SlotNumber
slot_reached None access = None
slot_reached (Some Free) access = None
slot_reached (Some (At side seat)) access = seat_slot (side_may side access) seat
slot_reached (Some (OnConsole w)) access = None
