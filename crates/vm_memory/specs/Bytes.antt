-- Where pages are, and when their bytes are known.
use Rattle.std.specs.Prelude.{ℕ, ◌+◌, ◌==◌, Bool, true, false, ◌&&◌, ◌||◌, is_some, IsTrue, Option, Some, None}
use Rattle.xk_base.specs.Tables.Counting.{count_below}
use Rattle.xk_base.specs.declared.ids.Place.{Place}
use Rattle.phys_pages.specs.declared.infos.Seat.{Seat}
use Rattle.phys_pages.specs.declared.infos.Seat.TheVariants.{Frame, Slot}
use Rattle.phys_pages.specs.Owners.{OwnerTable, extent, infos, frame_seat, slot_seat}
use Rattle.sv32_space.specs.declared.sides.Entry.{Entry}
use Rattle.sv32_space.specs.declared.sides.Entry.TheVariants.{Free, At, OnConsole}
use Rattle.sv32_space.specs.SpelledEntries.{entries}
use Rattle.xk_ports.specs.declared.store.SwapStore.{Ghosts as SwapStore}
use Rattle.xk_ports.specs.Keeping.{tells_truly}
use Rattle.vm_memory.specs.declared.memory.Memory.{Memory}
use Rattle.vm_memory.specs.Memory.{processes}

-- ---- where a page is

abbrev pub is_frame : Seat → Bool
is_frame (Frame f) = true
is_frame (Slot s) = false

abbrev pub is_slot : Seat → Bool
is_slot (Frame f) = false
is_slot (Slot s) = true

abbrev pub names_frame : Option Entry → Bool
names_frame None = false
names_frame (Some Free) = false
names_frame (Some (At side seat)) = is_frame seat
names_frame (Some (OnConsole w)) = false

abbrev pub names_slot : Option Entry → Bool
names_slot None = false
names_slot (Some Free) = false
names_slot (Some (At side seat)) = is_slot seat
names_slot (Some (OnConsole w)) = false

-- the place is near: its entry names a frame
unfoldable pub is_near : {W : Type 0} → Memory W → Place → Bool
is_near m p = names_frame (entries (processes m) m.ram p)

-- the page at the place is out: its entry names a slot
unfoldable pub is_out : {W : Type 0} → Memory W → Place → Bool
is_out m p = names_slot (entries (processes m) m.ram p)

-- ---- used seats

-- how many frames and how many slots of the table have a page
abbrev pub used_frames : OwnerTable → ℕ
used_frames owners = count_below (extent owners).frames (λ k. is_some (infos owners (frame_seat ((extent owners).first + k))))

abbrev pub used_slots : OwnerTable → ℕ
used_slots owners = count_below (extent owners).slots (λ k. is_some (infos owners (slot_seat k)))

-- how many pages are out
abbrev pub pages_out : {W : Type 0} → Memory W → ℕ
pages_out m = used_slots m.owners

-- no page is out
unfoldable pub none_out : {W : Type 0} → Memory W → Bool
none_out m = used_slots m.owners == 0

-- ---- when bytes are known

-- the store is honest and tells what its slots hold
abbrev pub is_known : {W : Type 0} → SwapStore W → Memory W → Bool
is_known S m = tells_truly S m.store

-- the ledger's bytes mean something: the store is honest and tells, or no page is out
abbrev pub means_bytes : {W : Type 0} → SwapStore W → Memory W → Bool
means_bytes S m = is_known S m || none_out m

abbrev pub MeansBytes : {W : Type 0} → SwapStore W → Memory W → Type 0
MeansBytes S m = IsTrue (means_bytes S m)

-- they mean something over a call that may put pages out: the store is honest and tells, or no page is out before and after
abbrev pub MeansBytesOver : {W : Type 0} → SwapStore W → Memory W → Memory W → Type 0
MeansBytesOver S old new = IsTrue (is_known S old || (none_out old && none_out new))
