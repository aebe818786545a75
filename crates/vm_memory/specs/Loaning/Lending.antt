-- What a memory holds once the borrowed bytes of a page are given back.
use Rattle.std.specs.Prelude.{ℕ, List, Option, Some, None}
use Rattle.std.specs.Borrow.{Lends, MutBor, Fml, u8, Array, RattleType}
use Rattle.xk_base.specs.declared.ids.Place.{Place}
use Rattle.phys_pages.specs.declared.infos.Seat.{Seat}
use Rattle.phys_pages.specs.declared.infos.Seat.TheVariants.{Frame, Slot}
use Rattle.phys_pages.specs.Ram.{with_page}
use Rattle.sv32_space.specs.declared.sides.Entry.{Entry}
use Rattle.sv32_space.specs.declared.sides.Entry.TheVariants.{Free, At, OnConsole}
use Rattle.sv32_space.specs.SpelledEntries.{entries}
use Rattle.vm_memory.specs.contracts.memory.Memory.{the_row}
use Rattle.vm_memory.specs.declared.memory.Memory.{Memory}
use Rattle.vm_memory.specs.Memory.{processes}

abbrev pub frame_of_seat : Seat → ℕ
frame_of_seat (Frame f) = f.0
frame_of_seat (Slot s) = 0

-- the frame that an entry names; any number serves where it names none
abbrev pub frame_named : Option Entry → ℕ
frame_named None = 0
frame_named (Some Free) = 0
frame_named (Some (At side seat)) = frame_of_seat seat
frame_named (Some (OnConsole w)) = 0

-- the memory whose RAM holds these bytes in the frame of a near place
unfoldable pub with_bytes_at : {W : Type 0} → Memory W → Place → List ℕ → Memory W
with_bytes_at m place bytes = record m { ram = with_page m.ram (frame_named (entries (processes m) m.ram place)) bytes }

-- the memory ends with the bytes of the place as they were last left behind the borrow, and all else as it was
abbrev pub LendsBytes : (T : RattleType) → MutBor (Memory T.Denot) → Place → MutBor (List ℕ) → Fml
LendsBytes T memory place bytes = Lends (the_row T) (Array u8 0) memory bytes (λ w. with_bytes_at memory.now place w)
