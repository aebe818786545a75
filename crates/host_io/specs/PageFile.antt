-- A file by its bytes, and the pages that stand in it.
use Rattle.std.specs.Prelude.{◌≡◌, ℕ, ◌+◌, ◌-◌, ◌*◌, ◌&&◌, nat_lt, not, if◌then◌else◌, List, map, length, slice_index, Option, Some, None}
use Rattle.std.specs.List.{range_with_len}
use Rattle.std.specs.Option.{option_map}
use Rattle.xk_ports.specs.Store.{Contents}

-- the byte of a file at each offset; 0 past its end
abbrev pub FileBytes : Type 0
FileBytes = ℕ → ℕ

-- a file after these bytes were written at an offset
abbrev pub written_at : FileBytes → ℕ → List ℕ → FileBytes
written_at file at bytes offset =
    if not (nat_lt offset at) && nat_lt offset (at + length bytes)
    then slice_index bytes (offset - at)
    else file offset

-- what a failed write of a page leaves: any bytes in its place, and all others
abbrev pub SpoilsPage : Option FileBytes → Option FileBytes → ℕ → Type 0
SpoilsPage old new at =
    (left : List ℕ) × (length left ≡ 4096) × (new ≡ option_map (λ file. written_at file at left) old)

-- the page that stands at an offset: 4096 bytes
abbrev pub page_at : FileBytes → ℕ → List ℕ
page_at file at = map file (range_with_len at 4096)

-- the pages of a file by their slots: a slot's page stands at 4096 times its number
abbrev pub slots_of : FileBytes → Contents
slots_of file slot = page_at file (slot * 4096)

-- the pages of a file, where its bytes are told
abbrev pub slots_in : Option FileBytes → Option Contents
slots_in told = option_map slots_of told

-- the pages of a store's file, where one is open and its bytes are told
abbrev pub held_in : {F : Type 0} → (F → Option FileBytes) → Option F → Option Contents
held_in bytes None = None
held_in bytes (Some file) = slots_in (bytes file)

-- where it is told, the page that stands at an offset
abbrev pub GivesPageAt : Option FileBytes → ℕ → List ℕ → Type 0
GivesPageAt told at page = (file : FileBytes) → told ≡ Some file → page ≡ page_at file at
